use Rattle.std.proofs.Common.{◌≡◌, ◌+◌, ◌≤◌, length, max, sum_by, take}
use Rattle.std.specs.List.{flat_map}
use Rattle.journal_defs.specs.Form.{line_bytes}
use Rattle.journal_format.specs.Filled.{FillsNext}
use Rattle.rx_ranges.specs.PlanChecks.{listed_len}
use Rattle.journal_format.proofs.piece.put_lines.Given as goal

abbrev pub invariant-loop-line : goal.invariant-loop-line
invariant-loop-line l = record {
  fills : FillsNext l.at l.begin (flat_map line_bytes (take l.line l.lines)) l.fn.piece l.piece;
  place : l.place ≡ l.begin + sum_by listed_len (take l.line l.lines);
  passed : l.place ≤ max (l.at + length l.fn.piece) l.begin;
}
