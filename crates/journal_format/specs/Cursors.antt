-- Where the lines of a listing go on.
use Rattle.std.specs.Prelude.{◌≡◌, ℕ, ◌+◌, ◌*◌, ◌≤◌, max, take, sum_by, length}
use Rattle.journal_format.specs.declared.piece.Cursor.{Cursor}
use Rattle.rx_ranges.specs.PlanChecks.{listed_len}
use Rattle.rx_ranges.specs.declared.plan.Plan.{Plan}

-- a cursor in the journal of a plan with which the listing may go on at a byte: it has the place of its line, and the lines in
-- front of it end at most at that byte
pub record IsCursor (plan : Plan) (at : ℕ) (cursor : Cursor) : Type 0 where
  pub counted : cursor.line ≤ length plan.listing
  pub stands : cursor.place ≡ 40 + 24 * length plan.ranges + sum_by listed_len (take cursor.line plan.listing)
  pub passed : cursor.place ≤ max at (40 + 24 * length plan.ranges)
