use Rattle.std.proofs.Common.{◌≡◌, ◌-◌, true, arith}
use Rattle.ntfs_record_defs.specs.Attributes.{is_resident, is_length, header_size}
use Rattle.ntfs_record.proofs.Parts.{length_inside}
use Rattle.ntfs_record.proofs.walk.attribute_at.Goals as goal

pub part_of-header-requires : goal.part_of-header-requires
part_of-header-requires c =
    let long : is_length (c.args.used - c.args.at) c.part_of-start.result.now ≡ true = cc in
    let size : c.header_size.result ≡ header_size (is_resident c.part_of-start.result.now) = cc in
    omega (arith, length_inside (c.args.used - c.args.at) c.part_of-start.result.now long, size)

pub attribute_with-requires-clause-inside : goal.attribute_with-requires-clause-inside
attribute_with-requires-clause-inside c =
    let long : is_length (c.args.used - c.args.at) c.part_of-start.result.now ≡ true = cc in
    omega (arith, length_inside (c.args.used - c.args.at) c.part_of-start.result.now long)
