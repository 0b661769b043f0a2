use Rattle.std.proofs.Common.{◌≡◌, true, arith, ap, ◌∙◌}
use Rattle.ntfs_record_defs.specs.Attributes.{is_resident, is_layout, body_length, length_of, form_of}
use Rattle.ntfs_record_defs.specs.Lent.{lent_form}
use Rattle.ntfs_record.specs.Seen.{form_seen}
use Rattle.ntfs_record.proofs.Parts.{body_inside, name_inside_at, given_lent, lent_is}
use Rattle.ntfs_record.proofs.walk.attribute_with.Goals as goal

pub part_of-body_bytes-requires : goal.part_of-body_bytes-requires
part_of-body_bytes-requires c =
    let layout : is_layout c.is_resident-resident.result c.args.start.now c.args.header.now ≡ true = cc in
    let length : c.u32_at-len.result ≡ length_of c.args.start.now = c.u32_at-len.ensures in
    let long : c.body_length.result ≡ body_length c.is_resident-resident.result (length_of c.args.start.now) c.args.header.now =
    c.body_length.ensures.value ∙ ap (λ n. body_length c.is_resident-resident.result n c.args.header.now) length in
    omega (arith, long, c.body_offset-body.ensures.value, c.requires.inside, body_inside c.is_resident-resident.result c.args.start.now c.args.header.now layout)

pub name_of-requires-clause-inside : goal.name_of-requires-clause-inside
name_of-requires-clause-inside c =
    let layout : is_layout c.is_resident-resident.result c.args.start.now c.args.header.now ≡ true = cc in
    name_inside_at c.is_resident-resident.result c.args.start.now c.args.header.now c.args.at _ layout c.requires.inside

pub returns : goal.returns
returns c =
    let layout : is_layout (is_resident c.args.start.now) c.args.start.now c.args.header.now ≡ true = cc in
    let form : form_seen c.form_of.result ≡ lent_form c.args.bytes.now (form_of (is_resident c.args.start.now) c.args.at (length_of c.args.start.now) c.args.header.now) =
    cc (given_lent (is_resident c.args.start.now) c.args.bytes.now c.args.at (length_of c.args.start.now) c.args.header.now) in
    lent_is c.args.bytes.now c.args.at c.args.start.now c.args.header.now _ layout (cc (form))
