-- A list of ranges that has the bytes of others, and is the canonical one, is the longest ranges of them.
use Rattle.std.specs.Prelude.{◌≡◌, ℕ, Result, Ok, Err, List, IfOk}
use Rattle.std.specs.List.{All}
use Rattle.std.proofs.Common.{ap, ◌∙◌}
use Rattle.range_defs.specs.declared.Range.{Range}
use Rattle.range_defs.specs.Places.{covers, longest_ranges, IsRangeList}
use Rattle.range_defs.proofs.RangeLaws.{covers-past, ends_where_covered, same_as_longest_ranges}
use Rattle.hfs_extents.specs.Extents.{EndsBy}

pub longest : (end : ℕ) (rests all list : List Range) → rests ≡ all → All (EndsBy end) rests → ((byte : ℕ) → covers list byte ≡ covers rests byte) → IsRangeList list
    → list ≡ longest_ranges (covers all) 0 end
longest end rests all list same within agree kept =
    let is : (byte : ℕ) → covers list byte ≡ covers all byte = λ byte. agree byte ∙ ap (λ ranges. covers ranges byte) same in
    same_as_longest_ranges (covers all) end list kept is (ends_where_covered list end kept (λ byte past. agree byte ∙ covers-past end byte rests within past))

pub slack_found : {E : Type 0} (end : ℕ) (rests all : List Range) (result : Result (List Range) E) → rests ≡ all → All (EndsBy end) rests → IfOk result (λ list. (byte : ℕ) → covers list byte ≡ covers rests byte)
    → IfOk result IsRangeList → IfOk result (λ list. list ≡ longest_ranges (covers all) 0 end)
slack_found end rests all (Ok list) same within agree kept = longest end rests all list same within agree kept
slack_found end rests all (Err e) same within agree kept = tt
