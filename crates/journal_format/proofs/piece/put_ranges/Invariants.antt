use Rattle.std.proofs.Common.{take}
use Rattle.std.specs.List.{flat_map}
use Rattle.journal_defs.specs.Form.{range_bytes}
use Rattle.journal_format.specs.Filled.{FillsNext}
use Rattle.journal_format.proofs.piece.put_ranges.Given as goal

abbrev pub invariant-loop-i : goal.invariant-loop-i
invariant-loop-i l = FillsNext l.at 40 (flat_map range_bytes (take l.i l.ranges)) l.fn.piece l.piece
