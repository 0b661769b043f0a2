use Rattle.std.proofs.Common.{ap, ◌∙◌}
use Rattle.disk_defs.specs.Disk.{told_image}
use Rattle.ufs_super.specs.Magic.{has_magic}
use Rattle.ufs_super.proofs.Steps.{tested, first_told, second_told, neither_told}
use Rattle.ufs_super.proofs.read.read_super.Goals as goal

pub returns-then-branch-clause-told : goal.returns-then-branch-clause-told
returns-then-branch-clause-told g c =
    first_told _ _ (told_image (g.S.Store.state c.args.store.now)) _ c.read_fields.result (ap told_image c.in_ok-has_magic.ensures.same)
    (tested (told_image (g.S.Store.state c.args.store.now)) _ _ (λ image. has_magic image c.args.at c.args.len 1) c.if-branch.true c.in_ok-has_magic.ensures.told) c.read_fields.ensures.told

pub returns-then-branch-2-clause-told : goal.returns-then-branch-2-clause-told
returns-then-branch-2-clause-told g c =
    second_told _ _ (told_image (g.S.Store.state c.args.store.now)) (told_image (g.S.Store.state c.has_magic.new.store)) (told_image (g.S.Store.state c.has_magic-2.new.store)) c.read_fields-then-branch-2.result
    (ap told_image c.in_ok-has_magic.ensures.same) (ap told_image (c.in_ok-has_magic-2.ensures.same ∙ c.in_ok-has_magic.ensures.same))
    (tested (told_image (g.S.Store.state c.args.store.now)) _ _ (λ image. has_magic image c.args.at c.args.len 1) c.if-branch.false c.in_ok-has_magic.ensures.told)
    (tested (told_image (g.S.Store.state c.has_magic.new.store)) _ _ (λ image. has_magic image c.args.at c.args.len 2) c.if-branch-2.true c.in_ok-has_magic-2.ensures.told) c.read_fields-then-branch-2.ensures.told

pub returns-clause-told : goal.returns-clause-told
returns-clause-told g c =
    neither_told _ _ (told_image (g.S.Store.state c.args.store.now)) (told_image (g.S.Store.state c.has_magic.new.store)) (ap told_image c.in_ok-has_magic.ensures.same)
    (tested (told_image (g.S.Store.state c.args.store.now)) _ _ (λ image. has_magic image c.args.at c.args.len 1) c.if-branch.false c.in_ok-has_magic.ensures.told)
    (tested (told_image (g.S.Store.state c.has_magic.new.store)) _ _ (λ image. has_magic image c.args.at c.args.len 2) c.if-branch-2.false c.in_ok-has_magic-2.ensures.told)
