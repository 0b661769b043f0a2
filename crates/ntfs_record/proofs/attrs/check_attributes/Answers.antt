use Rattle.std.proofs.Common.{◌≡◌, ℕ, List, ◌+◌, ◌≤◌, arith, ap, sym, ◌∙◌, Ok, Err, Some, None}
use Rattle.ntfs_record_defs.specs.Record.{header_of}
use Rattle.ntfs_record_defs.specs.Lent.{Lent, lent_next}
use Rattle.ntfs_record.specs.Mending.{attributes_check_from}
use Rattle.ntfs_record.proofs.Steps.{next_place, EndsBehind, next_is}
use Rattle.ntfs_record.proofs.Walks.{check_steps, check_passes, check_refuses}
use Rattle.ntfs_record.proofs.attrs.check_attributes.Goals as goal

module _ (bytes : List ℕ) (used at : ℕ) (one : Lent) (used_is : used ≡ (header_of bytes).used) (found : lent_next bytes used at ≡ Ok (Some one)) where
  at_used : lent_next bytes (header_of bytes).used at ≡ Ok (Some one)
  at_used = ap (λ used. lent_next bytes used at) (sym used_is) ∙ found

  behind : EndsBehind bytes (header_of bytes).used at (next_is bytes (header_of bytes).used at one at_used).found
  behind = (next_is bytes (header_of bytes).used at one at_used).behind

  inside : (at + 24 ≤ next_place bytes at) × (next_place bytes at ≤ used)
  inside = (behind.rises, omega (arith, behind.inside, used_is))

pub u32_at-requires : goal.u32_at-requires
unfolding header_of
u32_at-requires c =
    let next = inside c.args.bytes.now c.u32_at-used.result c.attributes.at c.in-Ok-Some.field-0-0 c.u32_at-used.ensures (cc) in
    omega (arith, next, c.u32_at-used.ensures, c.requires.inside)

pub attributes-smaller : goal.attributes-smaller
unfolding header_of
attributes-smaller c =
    let next = inside c.args.bytes.now c.u32_at-used.result c.attributes.at c.in-Ok-Some.field-0-0 c.u32_at-used.ensures (cc) in
    omega (arith, next, c.u32_at.ensures)

pub attributes-preserved : goal.attributes-preserved
unfolding header_of
attributes-preserved c =
    let found : lent_next c.args.bytes.now c.u32_at-used.result c.attributes.at ≡ Ok (Some c.in-Ok-Some.field-0-0) = cc in
    let next = inside c.args.bytes.now c.u32_at-used.result c.attributes.at c.in-Ok-Some.field-0-0 c.u32_at-used.ensures found in
    record {
      before = omega (arith, next, c.u32_at.ensures);
      same =
          c.attributes.invariant.same
          ∙ check_steps c.args.bytes.now c.attributes.at c.in-Ok-Some.field-0-0 (at_used c.args.bytes.now c.u32_at-used.result c.attributes.at c.in-Ok-Some.field-0-0 c.u32_at-used.ensures found)
          ∙ ap (λ n. attributes_check_from c.args.bytes.now (c.attributes.at + n)) (sym c.u32_at.ensures);
    }

pub returns-in-Ok-None : goal.returns-in-Ok-None
unfolding header_of
returns-in-Ok-None c =
    let is : lent_next c.args.bytes.now (header_of c.args.bytes.now).used c.attributes.at ≡ Ok None = cc in
    sym (c.attributes.invariant.same ∙ check_passes c.args.bytes.now c.attributes.at is)

pub returns-in-Err : goal.returns-in-Err
unfolding header_of
returns-in-Err c =
    let is : lent_next c.args.bytes.now (header_of c.args.bytes.now).used c.attributes.at ≡ Err c.in-Err.fault = cc in
    sym (c.attributes.invariant.same ∙ check_refuses c.args.bytes.now c.attributes.at c.in-Err.fault is)
