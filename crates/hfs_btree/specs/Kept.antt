-- What a cursor keeps.
use Rattle.std.specs.Prelude.{◌≡◌, ℕ, ◌+◌, ◌-◌, ◌*◌, ◌<◌, ◌≤◌, Bool, true, List, length}
use Rattle.rx_ranges.specs.declared.pieces.Piece.{Piece}
use Rattle.piece_defs.specs.Joined.{AreInARow}
use Rattle.piece_defs.specs.Places.{AreWithin}
use Rattle.hfs_defs.specs.Nodes.{is_record, are_records}

-- The pieces have the bytes of the file in order, at places of 64 bits. The node has room for the offsets of its records,
-- those from the index on are sound, and so is the one in front of it where one stands there.
pub record IsKept (pieces : List Piece) (len : ℕ) (node : List ℕ) (count index : ℕ) (stands : Bool) : Type 0 where
  pub covered : AreInARow 0 len pieces
  pub reach : AreWithin 18446744073709551615 pieces
  pub long : 512 ≤ length node
  pub short : length node ≤ 65535
  pub few : index ≤ count
  pub room : 14 + 2 * (count + 1) ≤ length node
  pub records : are_records (count - index) node index ≡ true
  pub stands_behind : stands ≡ true → 0 < index
  pub record_before : stands ≡ true → is_record node (index - 1) ≡ true
