-- One more range is kept.
use Rattle.std.specs.Prelude.{◌≡◌, ℕ, zero, suc, true, IsTrue, ◌↔◌, refl, ◌-◌, ◌<◌, ◌||◌, List, [], ◌∷◌, ◌++◌, length, get_or}
use Rattle.std.proofs.Common.{ap, subst, arith, set}
use Rattle.std.proofs.lemmas.Bool.Decides.{nat_tests}
use Rattle.std.proofs.lemmas.List.{get_or_read}
use Rattle.range_defs.specs.declared.Range.{Range}
use Rattle.range_defs.specs.Places.{in_range}
use Rattle.image_reads.specs.Steps.{SameBytes}

-- a range has the bytes of two others
abbrev pub HasBoth : Range → Range → Range → Type 0
HasBoth both first second = (byte : ℕ) → in_range both byte ≡ (in_range first byte || in_range second byte)

-- the last range grew
pub grown : (ranges : List Range) (i : ℕ) (both range : Range) → suc i ≡ length ranges → HasBoth both (get_or ranges i both) range → SameBytes (set ranges i both) (ranges ++ range ∷ [])
grown [] i both range last has byte = absurd (omega (arith, last))
grown (one ∷ []) zero both range last has byte = let same = has byte in grind (arith, nat_tests)
grown (one ∷ []) (suc i) both range last has byte = absurd (omega (arith, last))
grown (one ∷ next ∷ ranges) zero both range last has byte = absurd (omega (arith, last))
grown (one ∷ next ∷ ranges) (suc i) both range last has byte = ap (λ rest. in_range one byte || rest) (grown (next ∷ ranges) i both range (omega (arith, last)) has byte)

pub grown_last : (ranges : List Range) (len : ℕ) (last both range : Range) → len ≡ length ranges → IsTrue true ↔ (0 < len) → last ≡ get_or ranges (len - 1) last → HasBoth both last range
    → SameBytes (set ranges (len - 1) both) (ranges ++ range ∷ [])
grown_last ranges len last both range long has is both_has =
    let some : 0 < len = has.0 refl in
    grown ranges (len - 1) both range (omega (arith, long, some)) (subst (λ one. HasBoth both one range) (get_or_read ranges (len - 1) last (omega (arith, long, some)) is both) both_has)
