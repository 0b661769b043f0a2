use Rattle.std.proofs.Common.{◌*◌, ◌%◌, ◌^◌, pos, ap, sym, ◌∙◌}
use Rattle.std.specs.Int.{w8}
use Rattle.std.proofs.lemmas.Int.{to_z-of_z}
use lib.Signed.{le_z}
use lib.IntN.{nat_abs}
use Rattle.ntfs_volume_defs.specs.Boot.{is_one_of}
use Rattle.ntfs_boot.specs.Sector.{record_sizes}
use Rattle.ntfs_boot.proofs.Sectors.{positive_size, negative_size, power_size}
use Rattle.ntfs_boot.proofs.sector.record_size.Goals as goal
use Rattle.ntfs_boot.proofs.sector.record_size.Goals.{then-size-ge0, else-size-ge0}
use Rattle.std.specs.Prelude.{min}

pub returns-else-is_record_size : goal.returns-else-is_record_size
returns-else-is_record_size c =
    let back = to_z-of_z w8 c.args.size c.ranges.size in
    let none = sym c.is_record_size.ensures ∙ c.if-is_record_size.false in
    elim c.if-size-ge0.branch [
      | then-size-ge0 w ↦
          let abs = w.unsigned_abs.ensures.value ∙ ap nat_abs back in
          let bytes = w.bytes-is ∙ ap (λ n. n * c.args.cluster) (w.from.ensures ∙ abs) ∙ positive_size c.args.cluster c.args.size (sym (ap (le_z (pos 0)) back) ∙ w.if-size-ge0.true) in
          sym (ap (is_one_of record_sizes) bytes) ∙ none
      | else-size-ge0 w ↦
          let abs = w.from-else-size-ge0.ensures ∙ w.unsigned_abs-else-size-ge0.ensures.value ∙ ap nat_abs back in
          let bytes = w.bytes-is ∙ ap (λ n. (1 * 2 ^ n) % 18446744073709551616) (w.min.ensures ∙ ap (λ n. min n 63) abs) in
          let power = negative_size c.args.cluster c.args.size (sym (ap (le_z (pos 0)) back) ∙ w.if-size-ge0.false) in
          sym (ap (is_one_of record_sizes) power) ∙ sym (power_size (nat_abs c.args.size)) ∙ sym (ap (is_one_of record_sizes) bytes) ∙ none
    ]
