use Rattle.std.proofs.Common.{ap, sym, ◌∙◌, subst}
use Rattle.ntfs_boot.specs.Sector.{sector_boot, IsBootRefusal}
use Rattle.ntfs_boot.proofs.Sectors.{short_volume, boot_run, sound_boot, refusal_of_boot, told_all, told_map, answers_refusal}
use Rattle.ntfs_boot.proofs.read_boot.Goals as goal

pub returns-then-len-lt512-clause-told : goal.returns-then-len-lt512-clause-told
returns-then-len-lt512-clause-told g c = told_all _ (λ image. short_volume image c.args.at c.args.len c.if-len-lt512.true)

pub returns-in-Ok-boot_from-clause-told : goal.returns-in-Ok-boot_from-clause-told
returns-in-Ok-boot_from-clause-told g c =
    told_map _ c.in-Ok.ensures.bytes
    (λ image bytes. boot_run image c.args.at c.args.len c.if-len-lt512.false ∙ ap (sector_boot c.args.at c.args.len) (sym bytes) ∙ sym c.boot_from.ensures ∙ c.in-Ok-boot_from.is)

pub returns-in-Ok-boot_from-clause-sound : goal.returns-in-Ok-boot_from-clause-sound
returns-in-Ok-boot_from-clause-sound g c = sound_boot c.args.at c.args.len c.in-Ok.bytes c.in-Ok-boot_from.boot (sym c.boot_from.ensures ∙ c.in-Ok-boot_from.is)

pub returns-in-Err-boot_from-clause-told : goal.returns-in-Err-boot_from-clause-told
returns-in-Err-boot_from-clause-told g c =
    told_map _ c.in-Ok.ensures.bytes
    (λ image bytes. answers_refusal c.in-Err-boot_from.refusal c.from.result _
    (boot_run image c.args.at c.args.len c.if-len-lt512.false ∙ ap (sector_boot c.args.at c.args.len) (sym bytes) ∙ sym c.boot_from.ensures ∙ c.in-Err-boot_from.is) c.from.ensures)

pub returns-in-Err-boot_from-clause-refusals : goal.returns-in-Err-boot_from-clause-refusals
returns-in-Err-boot_from-clause-refusals g c =
    subst IsBootRefusal (sym c.from.ensures) (refusal_of_boot c.args.at c.args.len c.in-Ok.bytes c.in-Err-boot_from.refusal (sym c.boot_from.ensures ∙ c.in-Err-boot_from.is))
