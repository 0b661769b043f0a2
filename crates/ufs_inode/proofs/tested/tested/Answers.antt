use Rattle.std.proofs.Common.{sym, ◌∙◌}
use Rattle.ufs_inode.proofs.InodeTests.{is_dead, is_kept, is_long, is_ext_long, is_sound, passes}
use Rattle.ufs_inode.proofs.tested.tested.Goals as goal

pub returns-then-inode-eq0-clause-answer : goal.returns-then-inode-eq0-clause-answer
returns-then-inode-eq0-clause-answer c = λ image. is_dead c.args.sup.now c.args.inode image c.if-inode-eq0.true

pub returns-then-is_snapshot-clause-answer : goal.returns-then-is_snapshot-clause-answer
returns-then-is_snapshot-clause-answer c =
    λ image. is_kept c.args.sup.now c.args.inode image c.if-inode-eq0.false c.flags_place.result c.flags_place.ensures (sym c.is_snapshot.ensures ∙ c.if-is_snapshot.true)

pub returns-then-is_too_long-clause-answer : goal.returns-then-is_too_long-clause-answer
returns-then-is_too_long-clause-answer c =
    λ image. is_long c.args.sup.now c.args.inode image c.if-inode-eq0.false c.size_place.result c.size_place.ensures (sym c.is_snapshot.ensures ∙ c.if-is_snapshot.false) (sym c.is_too_long.ensures ∙ c.if-is_too_long.true)

pub returns-then-is_ext_too_long-clause-answer : goal.returns-then-is_ext_too_long-clause-answer
returns-then-is_ext_too_long-clause-answer c =
    λ image. is_ext_long c.args.sup.now c.args.inode image c.if-inode-eq0.false
    (sym c.is_snapshot.ensures ∙ c.if-is_snapshot.false) (sym c.is_too_long.ensures ∙ c.if-is_too_long.false) (sym c.is_ext_too_long.ensures ∙ c.if-is_ext_too_long.true)

pub returns-clause-answer : goal.returns-clause-answer
returns-clause-answer c =
    λ image. passes c.args.sup.now c.args.inode image
    (is_sound c.args.sup.now c.args.inode c.if-inode-eq0.false
    (sym c.is_snapshot.ensures ∙ c.if-is_snapshot.false) (sym c.is_too_long.ensures ∙ c.if-is_too_long.false) (sym c.is_ext_too_long.ensures ∙ c.if-is_ext_too_long.false))

pub returns-clause-sound : goal.returns-clause-sound
returns-clause-sound c =
    is_sound c.args.sup.now c.args.inode c.if-inode-eq0.false
    (sym c.is_snapshot.ensures ∙ c.if-is_snapshot.false) (sym c.is_too_long.ensures ∙ c.if-is_too_long.false) (sym c.is_ext_too_long.ensures ∙ c.if-is_ext_too_long.false)
