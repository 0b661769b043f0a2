use Rattle.std.proofs.Common.{◌+◌, ◌≤◌, [], List, length, drop, ap, sym, subst, ◌∙◌, rules}
use Rattle.disk_defs.specs.Disk.{State, told_image, size_of}
use Rattle.disk_defs.specs.declared.Area.TheVariants.{Image}
use Rattle.image_reads.proofs.Coming.{IsCome}
use Rattle.image_defs.specs.Through.{through}
use Rattle.ufs_volume_defs.specs.Files.{Filed, named_files, number_file, numbers_of}
use Rattle.ufs_files.specs.Groups.{Group, AreGroupsOf}
use Rattle.ufs_files.proofs.FileLaws.{AreMadeOf, made_more, made_files}
use Rattle.ufs_files.proofs.PassLaws.{good_group, of_group, pass_begins, pass_goes_on, pass_stops, pass_ends}
use Rattle.ufs_files.proofs.RestLaws.{taken, none_taken, all_left, none_left, next_of}
use Rattle.ufs_files.proofs.SecondLaws.{none_few}
use Rattle.ufs_files.proofs.second.read_files.Goals as goal

pub loop-group-init : goal.loop-group-init
loop-group-init g c =
    let Come : List Group → Type 0 = λ done. IsCome (told_image (g.S.Store.state c.args.store.now)) (named_files c.args.sup.now c.args.volume c.args.names.items) c.args.looked.now.items
    (through (number_file c.args.sup.now c.args.volume c.args.names.items) c.in_ok-filed.filed (drop (length done) (numbers_of c.args.names.items))) c.args.looked.now.items in
    let Made : List Group → Type 0 = λ done. AreMadeOf c.args.sup.now c.args.volume done c.in_ok-filed.filed.files in
    let None : Filed → Type 0 = λ filed. AreMadeOf c.args.sup.now c.args.volume [] filed.files in
    record {
      same = search rules;
      calm = search rules;
      rest = all_left c.of-groups.result;
      come =
          subst Come (sym (none_taken c.of-groups.result))
          (pass_begins (told_image (g.S.Store.state c.args.store.now)) c.args.sup.now c.args.volume c.args.names.items c.in_ok-filed.filed c.args.looked.now.items c.in_ok-filed.ensures);
      made = subst Made (sym (none_taken c.of-groups.result)) (subst None (sym c.in_ok-filed.ensures) tt);
      few = none_few c.in_ok-filed.filed c.in_ok-filed.ensures;
      kept = λ end last within. within;
    }

pub group_file-requires-clause-inside : goal.group_file-requires-clause-inside
group_file-requires-clause-inside g c =
    let P : State → Type 0 = λ state. c.args.sup.now.at + c.args.sup.now.len ≤ size_of Image state in
    subst P (sym c.loop-group.invariant.same) c.requires.inside

pub group_file-requires-clause-few : goal.group_file-requires-clause-few
group_file-requires-clause-few g c = c.loop-group.invariant.few

pub group_file-requires-clause-good : goal.group_file-requires-clause-good
group_file-requires-clause-good g c =
    let are = subst (AreGroupsOf c.args.names.items) (sym c.of-groups.ensures) c.in_ok-all.ensures in
    let is = next_of c.of-groups.result c.loop-group.groups c.next.new.self c.in-Some.group c.loop-group.invariant.rest c.in-Some.ensures in
    good_group c.args.sup.now c.args.names.items c.in-Some.group c.requires.named (of_group c.args.names.items c.of-groups.result (taken c.of-groups.result c.loop-group.groups) c.in-Some.group are is.here)

pub returns-in_err-filed-2-clause-reads : goal.returns-in_err-filed-2-clause-reads
returns-in_err-filed-2-clause-reads g c =
    let are = subst (AreGroupsOf c.args.names.items) (sym c.of-groups.ensures) c.in_ok-all.ensures in
    let is = next_of c.of-groups.result c.loop-group.groups c.next.new.self c.in-Some.group c.loop-group.invariant.rest c.in-Some.ensures in
    pass_stops (told_image (g.S.Store.state c.args.store.now)) (told_image (g.S.Store.state c.loop-group.store)) c.args.sup.now c.args.volume c.args.names.items c.of-groups.result (taken c.of-groups.result c.loop-group.groups) c.loop-group.filed c.in-Some.group
    c.args.looked.now.items c.loop-group.looked.items (ap told_image c.loop-group.invariant.same) c.requires.known are is.here c.loop-group.invariant.come
    c.in_err-filed-2.field-0.0 c.group_file.new.looked.items c.group_file.new.looked.items c.from_residual-in_err-filed-2.result c.from_residual-in_err-filed-2.ensures.0 c.from_residual-in_err-filed-2.ensures.1 c.in_err-filed-2.ensures.reads

pub loop-group-preserved : goal.loop-group-preserved
loop-group-preserved g c =
    let are = subst (AreGroupsOf c.args.names.items) (sym c.of-groups.ensures) c.in_ok-all.ensures in
    let is = next_of c.of-groups.result c.loop-group.groups c.next.new.self c.in-Some.group c.loop-group.invariant.rest c.in-Some.ensures in
    let Come : List Group → Type 0 = λ done. IsCome (told_image (g.S.Store.state c.args.store.now)) (named_files c.args.sup.now c.args.volume c.args.names.items) c.args.looked.now.items
    (through (number_file c.args.sup.now c.args.volume c.args.names.items) c.in_ok-filed-2.filed (drop (length done) (numbers_of c.args.names.items))) c.group_file.new.looked.items in
    let Made : List Group → Type 0 = λ done. AreMadeOf c.args.sup.now c.args.volume done c.in_ok-filed-2.filed.files in
    record {
      same = c.in_ok-filed-2.ensures.same ∙ c.loop-group.invariant.same;
      calm = c.in_ok-filed-2.ensures.counted ∙ c.loop-group.invariant.calm;
      rest = is.left;
      come =
          subst Come (sym is.more)
          (pass_goes_on (told_image (g.S.Store.state c.args.store.now)) (told_image (g.S.Store.state c.loop-group.store)) c.args.sup.now c.args.volume c.args.names.items c.of-groups.result (taken c.of-groups.result c.loop-group.groups) c.loop-group.filed
          c.in-Some.group c.args.looked.now.items c.loop-group.looked.items (ap told_image c.loop-group.invariant.same) c.requires.known are is.here c.loop-group.invariant.come
          c.in_ok-filed-2.filed c.group_file.new.looked.items c.in_ok-filed-2.ensures.reads);
      made = subst Made (sym is.more) (made_more c.args.sup.now c.args.volume (taken c.of-groups.result c.loop-group.groups) c.loop-group.filed c.in_ok-filed-2.filed c.in-Some.group c.loop-group.invariant.made c.in_ok-filed-2.ensures.added);
      few = c.in_ok-filed-2.ensures.added.few;
      kept = λ end last within. c.in_ok-filed-2.ensures.kept_within end last (c.loop-group.invariant.kept end last within);
    }

pub returns-clause-reads : goal.returns-clause-reads
returns-clause-reads g c =
    let are = subst (AreGroupsOf c.args.names.items) (sym c.of-groups.ensures) c.in_ok-all.ensures in
    let all = none_left c.of-groups.result c.loop-group.groups c.loop-group.invariant.rest c.in_default.ensures in
    pass_ends (told_image (g.S.Store.state c.args.store.now)) c.args.sup.now c.args.volume c.args.names.items c.of-groups.result (taken c.of-groups.result c.loop-group.groups) c.loop-group.filed c.args.looked.now.items c.loop-group.looked.items are
    (ap length all) c.loop-group.invariant.come

pub returns-clause-files : goal.returns-clause-files
returns-clause-files g c =
    let are = subst (AreGroupsOf c.args.names.items) (sym c.of-groups.ensures) c.in_ok-all.ensures in
    let all = none_left c.of-groups.result c.loop-group.groups c.loop-group.invariant.rest c.in_default.ensures in
    let P : List Group → Type 0 = λ groups. AreMadeOf c.args.sup.now c.args.volume groups c.loop-group.filed.files in
    made_files c.args.sup.now c.args.volume c.args.names.items c.of-groups.result c.loop-group.filed.files are c.requires.few c.requires.short
    (subst P all c.loop-group.invariant.made)

pub returns-clause-kept_within : goal.returns-clause-kept_within
returns-clause-kept_within g c = c.loop-group.invariant.kept

pub returns-clause-same : goal.returns-clause-same
returns-clause-same g c = c.loop-group.invariant.same

pub returns-clause-counted : goal.returns-clause-counted
returns-clause-counted g c = c.loop-group.invariant.calm
