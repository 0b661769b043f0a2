-- Ranges that are joined, ranges that are shared, and ranges that are kept.
use Rattle.std.specs.Prelude.{◌+◌, ◌-◌, min, max, nat_lt, if◌then◌else◌, List, [], ◌∷◌}
use Rattle.range_defs.specs.declared.Range.{Range}

-- the range from where the first of two begins to where the last ends
abbrev pub hull : Range → Range → Range
hull a b = record { at = min a.at b.at; len = max (a.at + a.len) (b.at + b.len) - min a.at b.at }

-- the range that two ranges share, which may be empty
abbrev pub overlap : Range → Range → Range
overlap a b = record { at = max a.at b.at; len = min (a.at + a.len) (b.at + b.len) - max a.at b.at }

-- a range, unless it is empty
abbrev pub unless_empty : Range → List Range
unless_empty range = if nat_lt 0 range.len then range ∷ [] else []
