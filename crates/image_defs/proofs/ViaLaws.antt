-- Laws behind ViaLaws: a program on bytes that stand elsewhere gives on the image what it gives on those bytes, and looks at their places alone.
use Rattle.std.specs.Prelude.{◌≡◌, ℕ, zero, suc, ◌+◌, ◌-◌, ◌<◌, ◌≤◌, min, Bool, true, false, ◌||◌, IsTrue, Option, Some, None, Result, Ok, Err, List, [], ◌∷◌, length, take, drop, replicate, get_or, slice_index, slice_get, refl}
use Rattle.std.specs.List.{All}
use Rattle.std.proofs.Common.{ap, sym, ◌∙◌, subst, arith}
use Rattle.std.proofs.lemmas.Bool.Decides.{nat_tests}
use Rattle.std.proofs.lemmas.List.{get_or-take, get_or-drop, length-take, length-drop, ext_get_or, length-replicate, get_or-replicate}
use Rattle.std.proofs.lemmas.List.Elements.{All-head, All-tail, All-cons, All-nil, All-weaker}
use Rattle.range_defs.specs.declared.Range.{Range}
use Rattle.range_defs.specs.Places.{in_range, covers}
use Rattle.bytes_defs.specs.Bytes.{part}
use Rattle.image_defs.specs.Ask.{Ask, Done, Stop, Look, result_of, visits, ◌>>=◌}
use Rattle.image_defs.specs.Agreement.{AgreeOn}
use Rattle.image_defs.proofs.Agreement.{covers_first, covers_behind, footprint_law}
use Rattle.image_defs.proofs.Results.{result_bind_ok}
use Rattle.image_defs.specs.Looks.{LooksAt}
use Rattle.image_defs.proofs.Looks.{looks_nowhere, looks_done, looks_weaker, looks_bind, looks_bind_ok, looks_look}
use Rattle.image_defs.specs.Via.{byte_of, seen_from, seen, look_byte, look_bytes, via, with_faults}
use Rattle.image_defs.specs.ViaLaws.{IsPlaceOfLooked, LiesIn, SetLaw, ViaLaw, ViaLooksLaw}

-- ---- what is seen

byte_of_part : (image : List ℕ) (place : ℕ) → slice_index (part image place 1) 0 ≡ slice_index image place
unfolding part
byte_of_part image place =
    get_or-take 1 (drop place image) 0 0 (omega arith) ∙ get_or-drop place image 0 0 ∙ ap (λ at. get_or image at 0) (omega arith)

run_look_byte : {E : Type 0} (image : List ℕ) (place : Option ℕ) → result_of image (look_byte {E = E} place) ≡ Ok (byte_of image place)
run_look_byte image None = refl
run_look_byte image (Some place) = ap Ok (byte_of_part image place)

pub result_look_bytes : {E : Type 0} (image : List ℕ) (place : ℕ → Option ℕ) (at count : ℕ) → result_of image (look_bytes {E = E} place at count) ≡ Ok (seen_from image place at count)
unfolding look_bytes seen_from
result_look_bytes image place at zero = refl
result_look_bytes {E = E} image place at (suc count) =
    result_bind_ok image (look_byte {E = E} (place at)) (λ byte. look_bytes place (suc at) count >>= (λ bytes. Done (byte ∷ bytes))) (byte_of image (place at)) (run_look_byte image (place at))
    ∙ result_bind_ok image (look_bytes {E = E} place (suc at) count) (λ bytes. Done (byte_of image (place at) ∷ bytes)) (seen_from image place (suc at) count) (result_look_bytes image place (suc at) count)

drop_seen : (image : List ℕ) (place : ℕ → Option ℕ) (from size at : ℕ) → drop at (seen_from image place from size) ≡ seen_from image place (from + at) (size - at)
unfolding seen_from
drop_seen image place from size zero =
    let same : from + 0 ≡ from = omega arith in
    let all : size - 0 ≡ size = omega arith in
    rw (same, all) refl
drop_seen image place from zero (suc at) =
    let none : zero - suc at ≡ 0 = omega arith in
    rw none refl
drop_seen image place from (suc size) (suc at) =
    let next : suc from + at ≡ from + suc at = omega arith in
    let less : size - at ≡ suc size - suc at = omega arith in
    drop_seen image place (suc from) size at ∙ rw (next, less) refl

take_seen : (image : List ℕ) (place : ℕ → Option ℕ) (from size len : ℕ) → take len (seen_from image place from size) ≡ seen_from image place from (min len size)
unfolding seen_from
take_seen image place from size zero =
    let none : min 0 size ≡ 0 = omega arith in
    rw none refl
take_seen image place from zero (suc len) =
    let none : min (suc len) 0 ≡ 0 = omega arith in
    rw none refl
take_seen image place from (suc size) (suc len) =
    let less : min (suc len) (suc size) ≡ suc (min len size) = omega arith in
    rw less (ap (λ rest. byte_of image (place from) ∷ rest) (take_seen image place (suc from) size len))

-- a part of what is seen
pub part_seen : (image : List ℕ) (place : ℕ → Option ℕ) (size at len : ℕ) → part (seen image place size) at len ≡ seen_from image place at (min len (size - at))
unfolding part
part_seen image place size at len =
    let from : 0 + at ≡ at = omega arith in
    ap (take len) (drop_seen image place 0 size at)
    ∙ take_seen image place (0 + at) (size - at) len
    ∙ ap (λ from. seen_from image place from (min len (size - at))) from

pub length_seen : (image : List ℕ) (place : ℕ → Option ℕ) (from size : ℕ) → length (seen_from image place from size) ≡ size
unfolding seen_from
length_seen image place from zero = refl
length_seen image place from (suc size) = ap suc (length_seen image place (suc from) size)

-- a byte of what is seen
pub seen_at : (image : List ℕ) (place : ℕ → Option ℕ) (from size i : ℕ) → i < size → slice_index (seen_from image place from size) i ≡ byte_of image (place (from + i))
unfolding seen_from
seen_at image place from zero i inside = absurd (omega arith)
seen_at image place from (suc size) zero inside = let same : from ≡ from + 0 = omega arith in ap (λ at. byte_of image (place at)) same
seen_at image place from (suc size) (suc i) inside =
    let next : suc from + i ≡ from + suc i = omega arith in
    seen_at image place (suc from) size i (omega arith) ∙ ap (λ at. byte_of image (place at)) next

-- ---- what the program gives

pub result_via : {E X : Type 0} (image : List ℕ) (place : ℕ → Option ℕ) (size : ℕ) (ask : Ask E X) → result_of image (via place size ask) ≡ result_of (seen image place size) ask
unfolding via
result_via image place size (Done x) = refl
result_via image place size (Stop e) = refl
result_via {E = E} image place size (Look at len next) =
    let bytes = seen_from image place at (min len (size - at)) in
    result_bind_ok image (look_bytes {E = E} place at (min len (size - at))) (λ bytes. via place size (next bytes)) bytes (result_look_bytes image place at (min len (size - at)))
    ∙ result_via image place size (next bytes)
    ∙ ap (λ bytes. result_of (seen image place size) (next bytes)) (sym (part_seen image place size at len))

-- ---- what it looks at

-- the place of each byte of a range has a property
abbrev pub AtPlaces : (ℕ → Option ℕ) → ℕ → (Range → Type 0) → Range → Type 0
AtPlaces place size P range = (i p : ℕ) → range.at ≤ i → i < range.at + range.len → i < size → place i ≡ Some p → P (record { at = p; len = 1 })

looks_byte : (E : Type 0) (P : Range → Type 0) (image : List ℕ) (place : Option ℕ) → ((p : ℕ) → place ≡ Some p → P (record { at = p; len = 1 })) → LooksAt P image (look_byte {E = E} place)
looks_byte E P image None holds = looks_done P image 0
looks_byte E P image (Some place) holds = looks_look P image place 1 _ (holds place refl) (looks_done P image _)

pub looks_bytes : (E : Type 0) (P : Range → Type 0) (image : List ℕ) (place : ℕ → Option ℕ) (at count : ℕ)
    → ((i p : ℕ) → at ≤ i → i < at + count → place i ≡ Some p → P (record { at = p; len = 1 })) → LooksAt P image (look_bytes {E = E} place at count)
unfolding look_bytes
looks_bytes E P image place at zero holds = looks_done P image []
looks_bytes E P image place at (suc count) holds =
    looks_bind P image (look_byte {E = E} (place at)) (λ byte. look_bytes place (suc at) count >>= (λ bytes. Done (byte ∷ bytes)))
    (looks_byte E P image (place at) (λ p is. holds at p (omega arith) (omega arith) is))
    (λ byte is. looks_bind P image (look_bytes {E = E} place (suc at) count) (λ bytes. Done (byte ∷ bytes))
    (looks_bytes E P image place (suc at) count (λ i p from to is. holds i p (omega arith) (omega arith) is))
    (λ bytes are. looks_done P image (byte ∷ bytes)))

pub looks_via : {E X : Type 0} (P : Range → Type 0) (image : List ℕ) (place : ℕ → Option ℕ) (size : ℕ) (ask : Ask E X)
    → LooksAt (AtPlaces place size P) (seen image place size) ask → LooksAt P image (via place size ask)
unfolding via
looks_via P image place size (Done x) looks = looks_done P image x
looks_via P image place size (Stop e) looks = looks_nowhere P image (Stop e) refl
looks_via {E = E} P image place size (Look at len next) looks =
    let bytes = seen_from image place at (min len (size - at)) in
    let Here : Range → Type 0 = AtPlaces place size P in
    let behind = next (part (seen image place size) at len) in
    let first : Here (record { at = at; len = len }) = All-head Here (record { at = at; len = len }) (visits (seen image place size) behind) looks.all in
    let later : LooksAt Here (seen image place size) behind = record { all = All-tail Here (record { at = at; len = len }) (visits (seen image place size) behind) looks.all } in
    let same : part (seen image place size) at len ≡ bytes = part_seen image place size at len in
    let Q : List ℕ → Type 0 = λ bytes. LooksAt Here (seen image place size) (next bytes) in
    looks_bind_ok P image (look_bytes {E = E} place at (min len (size - at))) (λ bytes. via place size (next bytes)) bytes (result_look_bytes image place at (min len (size - at)))
    (looks_bytes E P image place at (min len (size - at)) (λ i p from to is. first i p from (omega (arith, to)) (omega (arith, to)) is))
    (looks_via P image place size (next bytes) (subst Q same later))

-- ---- other faults

abbrev pub with_fault : {E F X : Type 0} → (E → F) → Result X E → Result X F
with_fault fault (Ok x) = Ok x
with_fault fault (Err e) = Err (fault e)

pub result_with_faults : {E F X : Type 0} (image : List ℕ) (fault : E → F) (ask : Ask E X) → result_of image (with_faults fault ask) ≡ with_fault fault (result_of image ask)
result_with_faults image fault (Done x) = refl
result_with_faults image fault (Stop e) = refl
result_with_faults image fault (Look at len next) = result_with_faults image fault (next (part image at len))

pub looks_with_faults : {E F X : Type 0} (P : Range → Type 0) (image : List ℕ) (fault : E → F) (ask : Ask E X) → LooksAt P image ask → LooksAt P image (with_faults fault ask)
looks_with_faults P image fault (Done x) looks = looks_done P image x
looks_with_faults P image fault (Stop e) looks = looks_nowhere P image (Stop (fault e)) refl
looks_with_faults P image fault (Look at len next) looks =
    looks_look P image at len (λ bytes. with_faults fault (next bytes)) (All-head P (record { at = at; len = len }) (visits image (next (part image at len))) looks.all)
    (looks_with_faults P image fault (next (part image at len)) (record { all = All-tail P (record { at = at; len = len }) (visits image (next (part image at len))) looks.all }))

in_range_bounds : (range : Range) (byte : ℕ) → IsTrue (in_range range byte) → (range.at ≤ byte) × (byte < range.at + range.len)
in_range_bounds range byte inside = (grind (arith, nat_tests), grind (arith, nat_tests))

covered_lies : (Q : ℕ → Type 0) (ranges : List Range) (byte : ℕ) → All (LiesIn Q) ranges → IsTrue (covers ranges byte) → Q byte
covered_lies Q [] byte lie covered = absurd cc
covered_lies Q (range ∷ ranges) byte lie covered =
    here_or_behind (in_range range byte) (in_range_bounds range byte) (covered_lies Q ranges byte (All-tail (LiesIn Q) range ranges lie)) covered
  where
    here_or_behind : (here : Bool) → (IsTrue here → (range.at ≤ byte) × (byte < range.at + range.len)) → (IsTrue (covers ranges byte) → Q byte) → IsTrue (here || covers ranges byte) → Q byte
    here_or_behind true bounds behind covered = All-head (LiesIn Q) range ranges lie byte (bounds refl).0 (bounds refl).1
    here_or_behind false bounds behind covered = behind covered

-- images that agree on a set of bytes agree where a program looks, if it looks at no others
pub agree_on_looks : {E X : Type 0} (Q : ℕ → Type 0) (ask : Ask E X) (a b : List ℕ) → length a ≡ length b
    → ((byte : ℕ) → Q byte → slice_get a byte ≡ slice_get b byte) → LooksAt (LiesIn Q) a ask → AgreeOn (visits a ask) a b
agree_on_looks Q ask a b same_length same looks = record {
  same_length = same_length;
  same_bytes = λ byte covered. same byte (covered_lies Q (visits a ask) byte looks.all covered);
}

pub set_law : (E X : Type 0) → SetLaw E X
set_law E X test ask a b same_length same looks = footprint_law E X ask a b (agree_on_looks (λ byte. IsTrue (test byte)) ask a b same_length same looks)

pub via_law : (E X : Type 0) → ViaLaw E X
via_law E X image place size ask = result_via image place size ask

-- each range lies in what all of them cover
lies_in_covered : (ranges : List Range) → All (LiesIn (λ byte. IsTrue (covers ranges byte))) ranges
lies_in_covered [] = All-nil (LiesIn (λ byte. IsTrue (covers [] byte)))
lies_in_covered (range ∷ ranges) =
    let Q : Range → Type 0 = LiesIn (λ byte. IsTrue (covers (range ∷ ranges) byte)) in
    All-cons Q range ranges (λ byte from to. covers_first range ranges byte from to)
    (All-weaker (LiesIn (λ byte. IsTrue (covers ranges byte))) Q (λ other lies byte from to. covers_behind range ranges byte (lies byte from to)) ranges (lies_in_covered ranges))

pub via_looks_law : (E X : Type 0) → ViaLooksLaw E X
via_looks_law E X image place size ask byte covered =
    let Q : ℕ → Type 0 = IsPlaceOfLooked image place size ask in
    let looked : ℕ → Type 0 = λ i. IsTrue (covers (visits (seen image place size) ask) i) in
    let own : LooksAt (LiesIn looked) (seen image place size) ask = record { all = lies_in_covered (visits (seen image place size) ask) } in
    let placed : LooksAt (AtPlaces place size (LiesIn Q)) (seen image place size) ask =
    looks_weaker (LiesIn looked) (AtPlaces place size (LiesIn Q)) (seen image place size) ask
    (λ range lies i p from to inside is b first last.
    let same : p ≡ b = omega (arith, first, last) in
    (i, inside, is ∙ ap Some same, lies i from to)) own in
    covered_lies Q (visits image (via place size ask)) byte (looks_via (LiesIn Q) image place size ask placed).all covered

-- ---- what a reader reads piece by piece

-- bytes that stand one behind another are a part of the image
pub seen_run : (image : List ℕ) (place : ℕ → Option ℕ) (at count from : ℕ) → ((i : ℕ) → i < count → place (at + i) ≡ Some (from + i)) → from + count ≤ length image
    → seen_from image place at count ≡ part image from count
unfolding part
seen_run image place at count from stand inside =
    let fits : length (part image from count) ≡ count = simp (length-take, length-drop) (omega (arith, inside)) in
    ext_get_or 0 (seen_from image place at count) (part image from count) (length_seen image place at count ∙ sym fits)
    (λ i below.
    let here : i < count = omega (arith, below, length_seen image place at count) in
    seen_at image place at count i here ∙ ap (byte_of image) (stand i here) ∙ sym (get_or-take count (drop from image) i 0 here ∙ get_or-drop from image i 0))

-- bytes that stand nowhere are zeros
pub seen_hole : (image : List ℕ) (place : ℕ → Option ℕ) (at count : ℕ) → ((i : ℕ) → i < count → place (at + i) ≡ None) → seen_from image place at count ≡ replicate count 0
seen_hole image place at count none =
    ext_get_or 0 (seen_from image place at count) (replicate count 0) (length_seen image place at count ∙ sym (length-replicate count 0))
    (λ i below.
    let here : i < count = omega (arith, below, length_seen image place at count) in
    seen_at image place at count i here ∙ ap (byte_of image) (none i here) ∙ sym (get_or-replicate count i 0 0 here))
