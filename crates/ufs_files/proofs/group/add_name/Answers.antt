use Rattle.std.proofs.Common.{◌≡◌, ◌<◌, ◌++◌, ◌∷◌, [], ap, ◌∙◌, rules}
use Rattle.ufs_volume_defs.specs.Names.{Named}
use Rattle.ufs_files.specs.Groups.{group_of}
use Rattle.ufs_files.proofs.GroupLaws.{pushed_last, pushed_first, pushed_behind, some_last}
use Rattle.ufs_files.proofs.group.add_name.Goals.{in_default-via-in-None-1, in_default-via-in-Some+else-last-name}
use Rattle.ufs_files.proofs.group.add_name.Goals as goal

pub returns : goal.returns
returns c =
    pushed_last c.args.groups.now.items _ c.in-Some.last.now _ c.push.new.self c.args.name _ c.args.groups.now.ok.0 (some_last _ c.in-Some.ensures.variant) c.in-Some.ensures.value c.last.view_is c.name.view_is
    c.if-last-name.true c.in_ok-push.ensures

pub returns-2 : goal.returns-2
returns-2 c =
    let name : Named = record { number = c.name.inside.number; inode = c.name.inside.inode; path = c.name.inside.path; directory = c.name.inside.directory; offset = c.name.inside.offset } in
    let pushed : c.push-2.new.self.items ≡ c.in_default.groups.items ++ group_of name ∷ [] =
    c.in_ok-push-2.ensures.items ∙ ap (λ paths. c.in_default.groups.items ++ record { number = c.name.inside.number; inode = c.name.inside.inode; paths = paths } ∷ []) c.of.ensures in
    elim c.in_default.branch [
      | in_default-via-in-None-1 w ↦
          pushed ∙ ap (λ groups. groups.items ++ group_of name ∷ []) w.groups-is
          ∙ pushed_first c.args.groups.now.items c.args.groups.now.len c.args.name _ c.args.groups.now.ok.0 (let none : 0 < c.args.groups.now.len → ⊥ = λ some. search rules in none) c.name.view_is
      | in_default-via-in-Some+else-last-name w ↦
          pushed ∙ ap (λ groups. groups.items ++ group_of name ∷ []) w.groups-is
          ∙ pushed_behind c.args.groups.now.items _ w.in-Some.last.now _ c.args.name _ c.args.groups.now.ok.0 (some_last _ w.in-Some.ensures.variant) w.in-Some.ensures.value w.last.view_is c.name.view_is w.if-last-name.false
    ]
