-- The text of units: that of the one in front, and that of the rest.
use Rattle.std.proofs.Common.{◌≡◌, ℕ, ◌<◌, true, false, List, [], ◌∷◌, ◌++◌, sym, ap, subst, ◌∙◌, append_assoc, append-nil, arith, length, drop, slice_index, ⊎_elim, refl}
use Rattle.std.specs.Char.Utf16.{surrogate_pair_char}
use Rattle.std.proofs.lemmas.List.{nil_from_length}
use Rattle.std.specs.Str.{encode_utf8_all}
use Rattle.std.specs.Prelude.{Result, OnOk}
use Rattle.std.specs.Char.{InScalarRange, OutOfScalarRange}
use Rattle.std.proofs.lemmas.Bool.{cases_Bool, and_right}
use Rattle.std.proofs.lemmas.Bool.Decides.{nat_tests}
use Rattle.name_defs.specs.Spelling.{name_spelling, unit_escape}
use Rattle.name_defs.specs.Texts.{items_text, units_text}
use Rattle.name_defs.specs.Items.{begins_pair}
use Rattle.name_defs.proofs.UnitLaws.{is_surrogate, unit_items-nil}
use Rattle.name_defs.proofs.TextLaws.{items_text-nil, units_text-pair, units_text-one, units_text-surrogate}

pub units_text-nil : units_text [] ≡ []
units_text-nil = ap items_text unit_items-nil ∙ items_text-nil

-- text in front of the text of no units
before_nil : (text : List ℕ) → text ++ units_text [] ≡ text
before_nil text = ap (λ t. text ++ t) units_text-nil ∙ append-nil text

-- one unit is no pair
one_alone : (unit : ℕ) → begins_pair (unit ∷ []) ≡ false
one_alone unit = and_right _ _ refl

-- a surrogate as the only unit
pub units_text-lone_surrogate : (unit : ℕ) → is_surrogate unit ≡ true → units_text (unit ∷ []) ≡ encode_utf8_all (unit_escape unit)
units_text-lone_surrogate unit is = units_text-surrogate unit [] is (one_alone unit) ∙ before_nil (encode_utf8_all (unit_escape unit))

-- another unit as the only one
pub units_text-single : (unit : ℕ) → unit < 0x1_0000 → is_surrogate unit ≡ false → units_text (unit ∷ []) ≡ encode_utf8_all (name_spelling unit)
units_text-single unit small none = units_text-one unit [] small none ∙ before_nil (encode_utf8_all (name_spelling unit))

-- a unit that begins no pair
pub units_text-alone : (unit : ℕ) (rest : List ℕ) → unit < 0x1_0000 → begins_pair (unit ∷ rest) ≡ false → units_text (unit ∷ rest) ≡ units_text (unit ∷ []) ++ units_text rest
units_text-alone unit rest small alone = ⊎_elim
    (λ (is : is_surrogate unit ≡ true).
    units_text-surrogate unit rest is alone ∙ ap (λ t. t ++ units_text rest) (sym (units_text-lone_surrogate unit is)))
    (λ (none : is_surrogate unit ≡ false).
    units_text-one unit rest small none ∙ ap (λ t. t ++ units_text rest) (sym (units_text-single unit small none)))
    (cases_Bool (is_surrogate unit))

-- a turn over a pair: its character is appended
pub pair_turn : (old new : List ℕ) (first c : ℕ) (after behind : List ℕ) → begins_pair (first ∷ after) ≡ true → c ≡ surrogate_pair_char first (slice_index after 0) → behind ≡ drop 1 after
    → new ≡ old ++ encode_utf8_all (name_spelling c) → new ++ units_text behind ≡ old ++ units_text (first ∷ after)
pair_turn old new first c after behind pair c_is behind_is grown =
    ap (λ t. t ++ units_text behind) grown ∙ append_assoc old (encode_utf8_all (name_spelling c)) (units_text behind)
    ∙ ap (λ d. old ++ (encode_utf8_all (name_spelling d) ++ units_text behind)) c_is
    ∙ ap (λ t. old ++ (encode_utf8_all (name_spelling (surrogate_pair_char first (slice_index after 0))) ++ units_text t)) behind_is
    ∙ ap (λ t. old ++ t) (sym (units_text-pair first after pair))

-- a turn over a unit that begins no pair
pub alone_turn : (old new : List ℕ) (first : ℕ) (after : List ℕ) → first < 0x1_0000 → begins_pair (first ∷ after) ≡ false
    → new ≡ old ++ units_text (first ∷ []) → new ++ units_text after ≡ old ++ units_text (first ∷ after)
alone_turn old new first after small alone grown =
    ap (λ t. t ++ units_text after) grown ∙ append_assoc old (units_text (first ∷ [])) (units_text after)
    ∙ ap (λ t. old ++ t) (sym (units_text-alone first after small alone))

-- the end: no unit is left
pub units_end : (made left whole : List ℕ) → made ++ units_text left ≡ whole → length left ≡ 0 → made ≡ whole
units_end made left whole so none = sym (before_nil made) ∙ ap (λ t. made ++ units_text t) (sym (nil_from_length left none)) ∙ so

-- a unit that is the code of a character is no surrogate, and another is one
pub no_surrogate : (code unit : ℕ) → code ≡ unit → InScalarRange code → is_surrogate unit ≡ false
no_surrogate code unit same range = ⊎_elim (λ low. grind (arith, nat_tests)) (λ high. grind (arith, nat_tests)) range

pub surrogate_from : (code unit : ℕ) → code ≡ unit → unit < 0x1_0000 → OutOfScalarRange code → is_surrogate unit ≡ true
surrogate_from code unit same small range = ⊎_elim (λ inside. grind (arith, nat_tests)) (λ high. absurd (omega arith)) range

-- a unit that is in no pair is appended
pub single_push : {E : Type 0} (r : Result (Unit {0}) E) (old new : List ℕ) (unit code c : ℕ) → c ≡ code → code ≡ unit → unit < 0x1_0000 → InScalarRange code
    → OnOk r (new ≡ old ++ encode_utf8_all (name_spelling c)) → OnOk r (new ≡ old ++ units_text (unit ∷ []))
single_push r old new unit code c c_is same small range pushed =
    let spelled : encode_utf8_all (name_spelling c) ≡ units_text (unit ∷ []) =
    ap (λ d. encode_utf8_all (name_spelling d)) (c_is ∙ same) ∙ sym (units_text-single unit small (no_surrogate code unit same range)) in
    subst (λ t. OnOk r (new ≡ old ++ t)) spelled pushed

pub surrogate_push : {E : Type 0} (r : Result (Unit {0}) E) (old new : List ℕ) (unit code : ℕ) → code ≡ unit → unit < 0x1_0000 → OutOfScalarRange code
    → OnOk r (new ≡ old ++ encode_utf8_all (unit_escape unit)) → OnOk r (new ≡ old ++ units_text (unit ∷ []))
surrogate_push r old new unit code same small range pushed =
    subst (λ t. OnOk r (new ≡ old ++ t)) (sym (units_text-lone_surrogate unit (surrogate_from code unit same small range))) pushed
