use Rattle.std.proofs.Common.{Ok, Err, ap, sym, subst, ◌∙◌, arith, IfSome, length, ◌≡◌}
use Rattle.disk_defs.specs.Disk.{told_image}
use Rattle.disk_defs.specs.declared.Area.TheVariants.{Image}
use Rattle.image_reader.proofs.Reading.{long_tells, volume_tells, handed_on}
use Rattle.image_reader.proofs.read_image.Goals as goal

pub returns-then-len-gt-LONGEST_IMAGE-clause-told : goal.returns-then-len-gt-LONGEST_IMAGE-clause-told
returns-then-len-gt-LONGEST_IMAGE-clause-told g c =
    long_tells (told_image (g.S.Store.state c.args.store.now)) (told_image (g.S.Store.state c.len.new.self)) c.in_ok-len.len c.in_ok-is_other_kind.field-0 (ap told_image c.in_ok-len.ensures.same)
    (subst (λ size. IfSome (told_image (g.S.Store.state c.args.store.now)) (λ image. length image ≡ size)) (sym c.in_ok-len.ensures.size) (g.met.S.Store.tells_its_sizes c.args.store.now Image))
    c.in_ok-is_other_kind.ensures.told c.if-branch.false (omega arith)

pub returns-in_err-read_ufs-clause-told : goal.returns-in_err-read_ufs-clause-told
returns-in_err-read_ufs-clause-told g c =
    handed_on (told_image (g.S.Store.state c.args.store.now)) c.from_residual-in_err-read_ufs.result c.in_err-read_ufs.field-0.0 c.from_residual-in_err-read_ufs.ensures.0 c.from_residual-in_err-read_ufs.ensures.1
    (volume_tells (told_image (g.S.Store.state c.args.store.now)) (told_image (g.S.Store.state c.len.new.self)) c.in_ok-len.len c.in_ok-is_other_kind.field-0 (ap told_image c.in_ok-len.ensures.same)
    (subst (λ size. IfSome (told_image (g.S.Store.state c.args.store.now)) (λ image. length image ≡ size)) (sym c.in_ok-len.ensures.size) (g.met.S.Store.tells_its_sizes c.args.store.now Image))
    c.in_ok-is_other_kind.ensures.told c.if-branch.false (told_image (g.S.Store.state c.is_other_kind.new.store)) (Err c.in_err-read_ufs.field-0.0) (omega arith)
    (ap told_image (c.in_ok-is_other_kind.ensures.same ∙ c.in_ok-len.ensures.same)) c.in_err-read_ufs.ensures.told)

pub returns-clause-told : goal.returns-clause-told
returns-clause-told g c =
    volume_tells (told_image (g.S.Store.state c.args.store.now)) (told_image (g.S.Store.state c.len.new.self)) c.in_ok-len.len c.in_ok-is_other_kind.field-0 (ap told_image c.in_ok-len.ensures.same)
    (subst (λ size. IfSome (told_image (g.S.Store.state c.args.store.now)) (λ image. length image ≡ size)) (sym c.in_ok-len.ensures.size) (g.met.S.Store.tells_its_sizes c.args.store.now Image))
    c.in_ok-is_other_kind.ensures.told c.if-branch.false (told_image (g.S.Store.state c.is_other_kind.new.store)) (Ok c.in_ok-read_ufs.field-0) (omega arith)
    (ap told_image (c.in_ok-is_other_kind.ensures.same ∙ c.in_ok-len.ensures.same)) c.in_ok-read_ufs.ensures.told
