-- Ranges that have the same bytes.
use Rattle.std.specs.Prelude.{◌≡◌, ℕ, zero, suc, if◌then◌else◌, ◌||◌, List, ◌++◌, refl}
use Rattle.std.proofs.Common.{ap, sym, ◌∙◌}
use Rattle.range_defs.specs.declared.Range.{Range}
use Rattle.range_defs.specs.Places.{covers, in_front, longest_ranges}
use Rattle.range_defs.proofs.RangeLaws.{covers_append}
use Rattle.image_reads.specs.Steps.{SameBytes}

-- the same ranges
pub same_ranges : (one other : List Range) → one ≡ other → SameBytes one other
same_ranges one other is byte = ap (λ ranges. covers ranges byte) is

pub same_then : (one other last : List Range) → SameBytes one other → SameBytes other last → SameBytes one last
same_then one other last first second byte = first byte ∙ second byte

-- with the same ranges behind them
pub same_front : (one other more : List Range) → SameBytes one other → SameBytes (one ++ more) (other ++ more)
same_front one other more same byte = covers_append one more byte ∙ ap (λ first. first || covers more byte) (same byte) ∙ sym (covers_append other more byte)

-- they have the same longest ranges
pub same_longest : (one other : List Range) → SameBytes one other → (from count : ℕ) → longest_ranges (covers one) from count ≡ longest_ranges (covers other) from count
unfolding longest_ranges
same_longest one other same from zero = refl
same_longest one other same from (suc count) =
    let rest : List Range = longest_ranges (covers one) (suc from) count in
    ap (λ test. if test then in_front from rest else rest) (same from)
    ∙ ap (λ ranges. if covers other from then in_front from ranges else ranges) (same_longest one other same (suc from) count)
