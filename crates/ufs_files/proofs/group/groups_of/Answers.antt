use Rattle.std.proofs.Common.{◌∷◌, ◌++◌, [], List, sym, subst, rules}
use Rattle.ufs_volume_defs.specs.Names.{Named}
use Rattle.ufs_files.specs.Groups.{Group, AreGroupsOf}
use Rattle.ufs_files.proofs.GroupLaws.{no_groups, groups_more}
use Rattle.ufs_files.proofs.RestLaws.{taken, none_taken, all_left, none_left, next_of}
use Rattle.ufs_files.proofs.SortLaws.{IsByNumber, by_number, none_above, same_groups}
use Rattle.ufs_files.proofs.group.groups_of.Goals as goal

pub loop-name-init : goal.loop-name-init
loop-name-init c =
    let P : List Group → Type 0 = λ groups. AreGroupsOf [] groups in
    let Q : List Named → Type 0 = λ done. AreGroupsOf done c.in_ok-groups.groups.items in
    record { rest = all_left c.of-rest.result; groups = subst Q (sym (none_taken c.of-rest.result)) (subst P (sym c.in_ok-groups.ensures.items) no_groups) }

pub loop-name-preserved : goal.loop-name-preserved
loop-name-preserved c =
    let sorted = by_number c.args.names.items c.sort_by_key.new.self.items c.in_ok-sort_by_key.ensures.permutation c.in_ok-sort_by_key.ensures.sorted c.in_ok-sort_by_key.ensures.stable (λ a r q k. search rules) in
    let is = next_of c.of-rest.result c.loop-name.rest c.next.new.self c.in-Some.name c.loop-name.invariant.rest c.in-Some.ensures in
    let below = none_above c.args.names.items c.of-rest.result _ c.in-Some.name (subst (IsByNumber c.args.names.items) (sym c.of-rest.ensures) sorted) is.front is.here in
    let P : List Group → Type 0 = λ groups. AreGroupsOf (taken c.of-rest.result c.loop-name.rest ++ c.in-Some.name ∷ []) groups in
    let Q : List Named → Type 0 = λ done. AreGroupsOf done c.add_name.new.groups.items in
    record { rest = is.left; groups = subst Q (sym is.more) (subst P (sym c.in_ok-add_name.ensures) (groups_more _ c.loop-name.groups.items c.in-Some.name below c.loop-name.invariant.groups)) }

pub returns : goal.returns
returns c =
    let sorted = by_number c.args.names.items c.sort_by_key.new.self.items c.in_ok-sort_by_key.ensures.permutation c.in_ok-sort_by_key.ensures.sorted c.in_ok-sort_by_key.ensures.stable (λ a r q k. search rules) in
    let all = none_left c.of-rest.result c.loop-name.rest c.loop-name.invariant.rest c.in_default.ensures in
    same_groups c.args.names.items c.of-rest.result _ c.loop-name.groups.items (subst (IsByNumber c.args.names.items) (sym c.of-rest.ensures) sorted) all c.loop-name.invariant.groups
