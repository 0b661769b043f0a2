use Rattle.std.proofs.Common.{◌<◌, ap, sym, ◌∙◌}
use Rattle.std.specs.Prelude.{slice_index}
use Rattle.std.proofs.Math.Facts.{Fits-lt-pow}
use Rattle.ntfs_volume_defs.specs.Boot.{is_one_of}
use Rattle.ntfs_boot.specs.Sector.{sector_sizes, cluster_counts, record_sizes}
use Rattle.ntfs_boot.proofs.Sectors.{AreSizes, record_size_is, sizes_pass, size_fails}
use Rattle.ntfs_boot.proofs.sector.boot_from.Goals as goal

pub placed-requires-clause-record : goal.placed-requires-clause-record
placed-requires-clause-record c =
    let small : slice_index c.args.bytes.now 0x40 < 256 = Fits-lt-pow (c.type_inv.bytes 0x40) in
    c.in-Some.ensures.0
    ∙ record_size_is c.args.bytes.now c.from-sector.result c.from-sectors.result c.cast_signed.result (c.from-sector.ensures ∙ c.u16_at.ensures) c.from-sectors.ensures c.cast_signed.ensures small

pub returns-in-Some : goal.returns-in-Some
returns-in-Some c =
    let small : slice_index c.args.bytes.now 0x40 < 256 = Fits-lt-pow (c.type_inv.bytes 0x40) in
    let size =
    c.in-Some.ensures.0
    ∙ record_size_is c.args.bytes.now c.from-sector.result c.from-sectors.result c.cast_signed.result (c.from-sector.ensures ∙ c.u16_at.ensures) c.from-sectors.ensures c.cast_signed.ensures small in
    let are : AreSizes c.args.bytes.now =
    record {
      magic = sym c.is_boot_sector.ensures ∙ c.if-not-is_boot_sector.false;
      sector = sym (ap (is_one_of sector_sizes) (c.from-sector.ensures ∙ c.u16_at.ensures)) ∙ sym c.is_sector_size.ensures ∙ c.if-not-is_sector_size.false;
      count = sym (ap (is_one_of cluster_counts) c.from-sectors.ensures) ∙ sym c.is_cluster_count.ensures ∙ c.if-not-is_cluster_count.false;
    } in
    c.placed.ensures ∙ sym (sizes_pass c.args.at c.args.len c.args.bytes.now are (sym (ap (is_one_of record_sizes) size) ∙ c.in-Some.ensures.1))

pub returns-in-None : goal.returns-in-None
returns-in-None c =
    let small : slice_index c.args.bytes.now 0x40 < 256 = Fits-lt-pow (c.type_inv.bytes 0x40) in
    let size = record_size_is c.args.bytes.now c.from-sector.result c.from-sectors.result c.cast_signed.result (c.from-sector.ensures ∙ c.u16_at.ensures) c.from-sectors.ensures c.cast_signed.ensures small in
    let are : AreSizes c.args.bytes.now =
    record {
      magic = sym c.is_boot_sector.ensures ∙ c.if-not-is_boot_sector.false;
      sector = sym (ap (is_one_of sector_sizes) (c.from-sector.ensures ∙ c.u16_at.ensures)) ∙ sym c.is_sector_size.ensures ∙ c.if-not-is_sector_size.false;
      count = sym (ap (is_one_of cluster_counts) c.from-sectors.ensures) ∙ sym c.is_cluster_count.ensures ∙ c.if-not-is_cluster_count.false;
    } in
    sym (size_fails c.args.at c.args.len c.args.bytes.now are (sym (ap (is_one_of record_sizes) size) ∙ c.in-None.ensures))
