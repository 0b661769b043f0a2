-- Laws of writes in pieces.
use Rattle.std.proofs.Common.{◌≡◌, ℕ, suc, ◌+◌, ◌-◌, ◌<◌, min, List, [], ◌∷◌, length, take, drop, replicate, refl, sym, ◌∙◌, ap, arith, length-drop}
use Rattle.std.proofs.lemmas.List.{take-replicate, take_min, length-replicate}
use Rattle.disk_defs.specs.Story.{Write}
use Rattle.disk_defs.specs.declared.Area.{Area}
use Rattle.session_defs.specs.Script.{pieces_in, write_pieces, writes}
use Rattle.session_defs.specs.declared.TheConstants.{PIECE}
use Rattle.session_defs.specs.declared.Turn.{Turn}

pieces-more : (len : ℕ) → 0 < len → pieces_in len ≡ suc (pieces_in (len - PIECE))
pieces-more len some = omega arith

-- the first piece, and the others
pub writes_first : (turn : Turn) (area : Area) (at : ℕ) (bytes : List ℕ) → 0 < length bytes
    → writes turn area at bytes ≡ record { turn = turn; change = Write area at (take PIECE bytes) } ∷ writes turn area (at + PIECE) (drop PIECE bytes)
unfolding writes
writes_first turn area at bytes some =
    ap (write_pieces turn area at bytes) (pieces-more (length bytes) some)
    ∙ ap (λ count. record { turn = turn; change = Write area at (take PIECE bytes) } ∷ write_pieces turn area (at + PIECE) (drop PIECE bytes) (pieces_in count))
    (sym (length-drop PIECE bytes))

-- no byte is written in no piece
pub writes_none : (turn : Turn) (area : Area) (at : ℕ) → writes turn area at [] ≡ []
unfolding writes
writes_none turn area at = refl

-- the first piece of equal bytes
pub take_equal : (count byte : ℕ) → take PIECE (replicate count byte) ≡ replicate (min PIECE count) byte
take_equal count byte =
    sym (take_min PIECE (replicate count byte)) ∙ ap (λ n. take (min PIECE n) (replicate count byte)) (length-replicate count byte)
    ∙ take-replicate (min PIECE count) count byte (omega arith)
