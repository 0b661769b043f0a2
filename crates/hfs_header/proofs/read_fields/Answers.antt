use Rattle.std.proofs.Common.{ap, sym, ◌∙◌}
use Rattle.disk_defs.specs.Disk.{told_image}
use Rattle.disk_defs.specs.declared.Area.TheVariants.{Image}
use Rattle.hfs_header.proofs.Steps.{short_told, magic_told, length_told, header_told, ends_in_reach, counts_nothing}
use Rattle.hfs_header.proofs.read_fields.Goals as goal

pub returns-then-len-lt1028-clause-told : goal.returns-then-len-lt1028-clause-told
returns-then-len-lt1028-clause-told g c = short_told (told_image (g.S.Store.state c.args.store.now)) _ _ c.if-len-lt1028.true

pub returns-then-not-is_magic-clause-told : goal.returns-then-not-is_magic-clause-told
returns-then-not-is_magic-clause-told g c =
    magic_told (told_image (g.S.Store.state c.args.store.now)) _ _ _ c.if-len-lt1028.false c.in_ok-magic.ensures.bytes (sym c.is_magic.ensures ∙ c.if-not-is_magic.true)

pub returns-then-len-lt2560-clause-told : goal.returns-then-len-lt2560-clause-told
returns-then-len-lt2560-clause-told g c =
    length_told (told_image (g.S.Store.state c.args.store.now)) _ _ _ c.if-len-lt1028.false c.in_ok-magic.ensures.bytes (sym c.is_magic.ensures ∙ c.if-not-is_magic.false) c.if-len-lt2560.true

pub checked-requires-clause-ends : goal.checked-requires-clause-ends
checked-requires-clause-ends g c = ends_in_reach _ _ _ _ c.from_bytes.result c.from_bytes.ensures c.requires.inside (g.met.S.Store.sizes_fit c.args.store.now Image)

pub returns-clause-told : goal.returns-clause-told
returns-clause-told g c =
    header_told (told_image (g.S.Store.state c.args.store.now)) _ _ _ _ _ c.from_bytes.result _ (ap told_image c.in_ok-magic.ensures.same) c.in_ok-magic.ensures.bytes
    (sym c.is_magic.ensures ∙ c.if-not-is_magic.false) c.if-len-lt2560.false c.in_ok-bytes.ensures.bytes c.from_bytes.ensures c.checked.ensures.answer

pub returns-clause-counted : goal.returns-clause-counted
returns-clause-counted g c = counts_nothing c.checked.result _ _ c.checked.ensures.calm (c.in_ok-bytes.ensures.counted ∙ c.in_ok-magic.ensures.counted)
