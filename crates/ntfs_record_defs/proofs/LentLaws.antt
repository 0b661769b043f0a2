-- Laws behind LentLaws: what a record lends is what its program finds.
use Rattle.std.specs.Prelude.{◌≡◌, ℕ, zero, suc, ◌+◌, ◌-◌, ◌%◌, ◌<◌, ◌≤◌, min, Bool, true, false, nat_le, if◌then◌else◌, Option, Some, None, Result, Ok, Err, IsOk, List, [], ◌∷◌, length, drop, map, refl}
use Rattle.std.specs.Option.{option_map}
use Rattle.std.proofs.Common.{arith, lit≤, lit<, ap, sym, ◌∙◌, subst, ⊎_elim}
use Rattle.std.proofs.lemmas.Bool.{leb-true}
use Rattle.std.proofs.lemmas.List.{length-take}
use Rattle.bytes_defs.specs.Bytes.{part}
use Rattle.image_defs.specs.Ask.{Ask, Done, result_of, look, check, ◌>>=◌, ◌>>◌}
use Rattle.image_defs.specs.Results.{with_value}
use Rattle.image_defs.proofs.Results.{result_bind_done}
use Rattle.image_defs.proofs.Looks.{bind_gives, check_gives}
use Rattle.bytes_defs.specs.declared.order.Order.TheVariants.{Little}
use Rattle.bytes_defs.proofs.NumberLaws.{number_at_part}
use Rattle.image_defs.specs.Via.{seen_from, seen}
use Rattle.image_defs.proofs.ViaLaws.{result_via, part_seen, seen_run}
use Rattle.ntfs_record_defs.specs.declared.fault.RecordFault.{RecordFault}
use Rattle.ntfs_record_defs.specs.declared.fault.RecordFault.TheVariants.{BadField}
use Rattle.ntfs_record_defs.specs.Stored.{stored_at}
use Rattle.ntfs_record_defs.proofs.StoredLaws.{kept}
use Rattle.ntfs_record_defs.specs.Attributes.{Form, Resident, NonResident, Attribute, Opened, is_content, body_of, is_end_mark, is_resident, is_length, is_layout, header_size, attribute_of, look_in, opened, attribute_with, attribute_from, attribute_at, unless_ended, next_attribute, and_behind, attributes_within, attributes_from}
use Rattle.ntfs_record_defs.proofs.AttributeLaws.{attribute_lies, next_some}
use Rattle.ntfs_record_defs.specs.Record.{Header, header_of, FileRecord, record_of}
use Rattle.ntfs_record_defs.proofs.RecordLaws.{record_found}
use Rattle.ntfs_record_defs.specs.Lent.{Lent, lent, lent_form, lent_with, lent_behind, lent_at, lent_next, lent_all, lent_from, body_place, body_bytes, RiseFrom, AreApart, IsMended, IsRecordSize, mended}
use Rattle.ntfs_record_defs.specs.LentLaws.{MendedLends, lent_of}

behind_check : {X Y : Type 0} (bytes : List ℕ) (test : Bool) (fault : RecordFault) (next : Ask RecordFault X) (change : X → Y) (result : Result Y RecordFault) → with_value change (result_of bytes next) ≡ result
    → with_value change (result_of bytes (check test fault >> next)) ≡ (if test then result else Err fault)
behind_check bytes true fault next change result is = is
behind_check bytes false fault next change result is = refl

opened_lent : (bytes : List ℕ) (attribute : Attribute) → with_value (lent_of bytes) (result_of bytes (opened attribute)) ≡ Ok (lent bytes attribute)
opened_lent bytes attribute = by_kind (is_content attribute)
  where
    by_kind : (content : Bool)
        → with_value (lent_of bytes) (result_of bytes (if◌then◌else◌ {A = Ask RecordFault (List ℕ)} content (Done []) (look_in (body_of attribute.form)) >>= (λ body. Done (record { attribute = attribute; name = part bytes attribute.name.at attribute.name.len; body = body }))))
        ≡ Ok (lent bytes attribute)
    by_kind true = refl
    by_kind false = refl

attribute_lent : (bytes : List ℕ) (used at : ℕ) → with_value (lent_of bytes) (result_of bytes (attribute_at used at)) ≡ lent_at bytes used at
attribute_lent bytes used at =
    let start = part bytes at 16 in
    let header = part bytes at (header_size (is_resident start)) in
    behind_check bytes (nat_le (at + 16) used) (BadField at) (look at 16 >>= attribute_from used at) (lent_of bytes) (lent_behind bytes used at start)
    (behind_check bytes (is_length (used - at) start) (BadField at) (look at (header_size (is_resident start)) >>= attribute_with at start) (lent_of bytes) (lent_with bytes at start header)
    (behind_check bytes (is_layout (is_resident start) start header) (BadField at) (opened (attribute_of at start header)) (lent_of bytes) (Ok (lent bytes (attribute_of at start header)))
    (opened_lent bytes (attribute_of at start header))))

some_lent : (bytes : List ℕ) (result : Result Opened RecordFault) → with_value (option_map (lent_of bytes)) (with_value Some result) ≡ with_value Some (with_value (lent_of bytes) result)
some_lent bytes (Ok found) = refl
some_lent bytes (Err fault) = refl

pub next_lent : (bytes : List ℕ) (used at : ℕ) → with_value (option_map (lent_of bytes)) (result_of bytes (next_attribute used at)) ≡ lent_next bytes used at
unfolding lent_next
next_lent bytes used at =
    behind_check bytes (nat_le (at + 4) used) (BadField at) (look at 4 >>= (λ mark. unless_ended used at (is_end_mark mark))) (option_map (lent_of bytes)) _ (by_mark (is_end_mark (part bytes at 4)))
  where
    by_mark : (ended : Bool) → with_value (option_map (lent_of bytes)) (result_of bytes (unless_ended used at ended)) ≡ (if ended then Ok None else with_value Some (lent_at bytes used at))
    by_mark true = refl
    by_mark false =
        ap (with_value (option_map (lent_of bytes))) (result_bind_done bytes (attribute_at used at) Some)
        ∙ some_lent bytes (result_of bytes (attribute_at used at))
        ∙ ap (with_value Some) (attribute_lent bytes used at)

-- ---- the spans of the attributes

rise_earlier : (end from at : ℕ) (found : List Lent) → from ≤ at → RiseFrom end at found → RiseFrom end from found
rise_earlier end from at [] before rise = omega (arith, before, rise)
rise_earlier end from at (one ∷ more) before rise = (omega (arith, before, rise.0), rise.1, rise.2)

body_is : (bytes : List ℕ) (form : Form) → (body_place (lent_form bytes form) ≡ (body_of form).at) × (length (body_bytes (lent_form bytes form)) ≤ (body_of form).len)
unfolding part
body_is bytes (Resident content) = (refl, omega (arith, length-take content.len (drop content.at bytes)))
body_is bytes (NonResident stream) = (refl, omega (arith, length-take stream.runs.len (drop stream.runs.at bytes)))

some_header : (resident : Bool) → 0 < header_size resident
some_header true = lit< tt
some_header false = lit< tt

attributes_rise : (bytes : List ℕ) (count used at : ℕ) (found : List Opened) → result_of bytes (attributes_within count used at) ≡ Ok found → RiseFrom used at (map (lent_of bytes) found)
unfolding attributes_within
attributes_rise bytes zero used at found gives = absurd cc
attributes_rise bytes (suc count) used at found gives =
    let first = bind_gives bytes (next_attribute used at) (and_behind (attributes_within count used)) found gives in
    by_first first.0 first.1 first.2 (λ place more is. attributes_rise bytes count used place more is)
  where
    by_first : (first : Option Opened) → result_of bytes (next_attribute used at) ≡ Ok first → result_of bytes (and_behind (attributes_within count used) first) ≡ Ok found
        → ((place : ℕ) (more : List Opened) → result_of bytes (attributes_within count used place) ≡ Ok more → RiseFrom used place (map (lent_of bytes) more)) → RiseFrom used at (map (lent_of bytes) found)
    by_first None next gives later =
        let room = check_gives bytes (nat_le (at + 4) used) (BadField at) (λ x. look at 4 >>= (λ mark. unless_ended used at (is_end_mark mark))) None next in
        let none : [] ≡ found = cc in
        subst (λ found. RiseFrom used at (map (lent_of bytes) found)) none (omega (arith, leb-true (at + 4) used room.0))
    by_first (Some one) next gives later =
        let place = one.attribute.at + one.attribute.len in
        let rest = bind_gives bytes (attributes_within count used place) (λ more. Done (one ∷ more)) found gives in
        let same : one ∷ rest.0 ≡ found = cc (rest.2) in
        let lies = attribute_lies bytes used at one (next_some bytes used at one next) in
        let body = body_is bytes one.attribute.form in
        let P : List Opened → Type 0 = λ found. RiseFrom used at (map (lent_of bytes) found) in
        subst P same (
          omega (arith, lies.begins),
          omega (arith, lies.begins, lies.behind_header, body.0, some_header (is_resident (part bytes at 16))),
          rise_earlier used _ place (map (lent_of bytes) rest.0) (omega (arith, body.0, body.1, lies.body_inside, lies.begins)) (later place rest.0 rest.1),
        )

pub mended_apart : (bytes : List ℕ) → IsMended bytes → AreApart bytes
unfolding lent_from
mended_apart bytes mended = by_result (result_of bytes (attributes_from (header_of bytes).used (header_of bytes).first)) refl mended.sound
  where
    by_result : (result : Result (List Opened) RecordFault) → result_of bytes (attributes_from (header_of bytes).used (header_of bytes).first) ≡ result → IsOk result
        → RiseFrom (header_of bytes).used (header_of bytes).first (lent_all bytes result)
    by_result (Ok found) is ok = attributes_rise bytes ((header_of bytes).used - (header_of bytes).first) (header_of bytes).used (header_of bytes).first found is
    by_result (Err fault) is ok = absurd cc

-- ---- the header, and what a mended record lends

pub header_front : (bytes : List ℕ) → header_of (part bytes 0 42) ≡ header_of bytes
unfolding header_of
header_front bytes =
    rw (
      number_at_part Little 2 bytes 0 42 4 (lit≤ tt),
      number_at_part Little 2 bytes 0 42 6 (lit≤ tt),
      number_at_part Little 2 bytes 0 42 16 (lit≤ tt),
      number_at_part Little 2 bytes 0 42 18 (lit≤ tt),
      number_at_part Little 2 bytes 0 42 20 (lit≤ tt),
      number_at_part Little 2 bytes 0 42 22 (lit≤ tt),
      number_at_part Little 4 bytes 0 42 24 (lit≤ tt),
      number_at_part Little 8 bytes 0 42 32 (lit≤ tt),
    ) refl

front_mended : (array : ℕ) (bytes : List ℕ) → 42 ≤ length bytes → part (seen bytes (stored_at array) (length bytes)) 0 42 ≡ part bytes 0 42
front_mended array bytes long =
    let all : min 42 (length bytes - 0) ≡ 42 = omega (arith, long) in
    part_seen bytes (stored_at array) (length bytes) 0 42
    ∙ ap (λ n. seen_from bytes (stored_at array) 0 n) all
    ∙ seen_run bytes (stored_at array) 0 42 0 (λ i below. ap Some (kept array (0 + i) (omega (arith, below)))) (omega (arith, long))

pub header_mended : (bytes : List ℕ) → 42 ≤ length bytes → header_of (mended bytes) ≡ header_of bytes
header_mended bytes long =
    sym (header_front (mended bytes)) ∙ ap header_of (front_mended (header_of bytes).array bytes long) ∙ header_front bytes

whole_record : (stored : List ℕ) → IsRecordSize (length stored) → (42 ≤ length stored) × (length stored % 512 ≡ 0)
whole_record stored size = ⊎_elim (λ small. (omega (arith, small), omega (arith, small))) (λ large. (omega (arith, large), omega (arith, large))) size

-- the true bytes have the attributes that the program found
pub true_attributes : (stored : List ℕ) (found : FileRecord) → IsRecordSize (length stored) → result_of stored (record_of (length stored)) ≡ Ok found
    → result_of (mended stored) (attributes_from found.header.used found.header.first) ≡ Ok found.attributes
true_attributes stored found size gives =
    let is = record_found stored (length stored) found (whole_record stored size).1 gives in
    let own : found.header ≡ header_of stored = sym is.header_is ∙ header_front stored in
    ap (λ (header : Header). result_of (seen stored (stored_at header.array) (length stored)) (attributes_from found.header.used found.header.first)) (sym own)
    ∙ sym (result_via stored (stored_at found.header.array) (length stored) (attributes_from found.header.used found.header.first))
    ∙ is.attributes

pub mended_lends : MendedLends
unfolding lent_from
mended_lends stored found size gives =
    let is = record_found stored (length stored) found (whole_record stored size).1 gives in
    let header : found.header ≡ header_of (mended stored) = sym is.header_is ∙ header_front stored ∙ sym (header_mended stored (whole_record stored size).0) in
    ap (lent_all (mended stored))
    (ap (λ (header : Header). result_of (mended stored) (attributes_from header.used header.first)) (sym header)
    ∙ true_attributes stored found size gives)
