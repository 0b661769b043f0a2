-- How the parts of an attribute lie in it, and what a lent attribute is.
use Rattle.std.proofs.Common.{◌≡◌, ℕ, ◌+◌, ◌≤◌, ◌%◌, Bool, true, false, List, Result, Ok, Err, arith, ap, sym, ◌∙◌, ⊎_elim, inl, inr, refl}
use Rattle.std.specs.Prelude.{◌⊎◌, ◌==◌, nat_le, if◌then◌else◌}
use Rattle.std.proofs.lemmas.Bool.{and_parts, or_cases, leb-true, eqb-true}
use Rattle.bytes_defs.specs.Bytes.{part}
use Rattle.ntfs_record_defs.specs.Attributes.{is_resident, header_size, length_of, is_length, body_offset, body_length, name_offset, name_length, is_name_place, is_layout, attribute_of, form_of}
use Rattle.ntfs_record_defs.specs.declared.fault.RecordFault.{RecordFault}
use Rattle.ntfs_record_defs.specs.declared.fault.RecordFault.TheVariants.{BadField}
use Rattle.ntfs_record_defs.specs.Lent.{Lent, lent, lent_form, lent_with}
use Rattle.ntfs_record.specs.Seen.{form_given}

pub body_inside : (resident : Bool) (start header : List ℕ) → is_layout resident start header ≡ true → body_offset resident header + body_length resident (length_of start) header ≤ length_of start
unfolding is_layout
body_inside resident start header layout =
    let placed = and_parts (is_name_place (header_size resident) (name_offset start) (name_length start) (body_offset resident header)) _ layout in
    let body = and_parts (nat_le (header_size resident) (body_offset resident header)) _ placed.1 in
    leb-true _ _ body.1

pub name_inside : (resident : Bool) (start header : List ℕ) → is_layout resident start header ≡ true → (name_length start ≡ 0) ⊎ (name_offset start + name_length start ≤ length_of start)
unfolding is_layout
name_inside resident start header layout =
    let placed = and_parts (is_name_place (header_size resident) (name_offset start) (name_length start) (body_offset resident header)) _ layout in
    ⊎_elim
    (λ none. inl (eqb-true (name_length start) 0 none))
    (λ between.
    let both = and_parts (nat_le (header_size resident) (name_offset start)) _ between in
    inr (omega (arith, leb-true _ _ both.1, body_inside resident start header layout)))
    (or_cases (name_length start == 0) _ placed.0)

pub name_inside_at : (resident : Bool) (start header : List ℕ) (at size : ℕ) → is_layout resident start header ≡ true → at + length_of start ≤ size
    → (name_length start ≡ 0) ⊎ (at + name_offset start + name_length start ≤ size)
name_inside_at resident start header at size layout inside =
    ⊎_elim (λ none. inl none) (λ ends. inr (omega (arith, ends, inside))) (name_inside resident start header layout)

pub length_inside : (left : ℕ) (start : List ℕ) → is_length left start ≡ true → (header_size (is_resident start) ≤ length_of start) × (length_of start ≤ left)
unfolding is_length
length_inside left start length =
    let sizes = and_parts (length_of start % 8 == 0) _ length in
    let bounds = and_parts (nat_le (header_size (is_resident start)) (length_of start)) _ sizes.1 in
    (leb-true _ _ bounds.0, leb-true _ _ bounds.1)

pub given_lent : (resident : Bool) (bytes : List ℕ) (at len : ℕ) (header : List ℕ)
    → form_given resident (at + body_offset resident header) (part bytes (at + body_offset resident header) (body_length resident len header)) header ≡ lent_form bytes (form_of resident at len header)
given_lent true bytes at len header = refl
given_lent false bytes at len header = refl

-- an attribute with these parts is the one that is lent
pub lent_is : (bytes : List ℕ) (at : ℕ) (start header : List ℕ) (found : Lent) → is_layout (is_resident start) start header ≡ true → found ≡ lent bytes (attribute_of at start header)
    → (let given : Result Lent RecordFault = Ok found in given ≡ lent_with bytes at start header)
lent_is bytes at start header found layout is =
    ap Ok is ∙ sym (ap (λ (test : Bool). if test then Ok (lent bytes (attribute_of at start header)) else Err (BadField at)) layout)
