-- What a sink took, piece after piece.
use Rattle.std.proofs.Common.{◌≡◌, ℕ, ◌+◌, ◌-◌, Option, Some, None, List, ◌++◌, length, take, drop, refl, ap, ◌∙◌, append_assoc, sym, arith}
use Rattle.std.proofs.Math.Seq.{take-add}
use Rattle.std.proofs.lemmas.Grind.{common_steps}
use Rattle.disk_defs.specs.Stream.{taken_with}

-- a slice from a place on is the rest from there
pub take-length-drop : (place : ℕ) (bytes : List ℕ) → take (length bytes - place) (drop place bytes) ≡ drop place bytes
take-length-drop place bytes = grind (arith, common_steps)

-- the first bytes of a text, and then the first bytes of its rest
pub taken_with-take_more : (taken : Option (List ℕ)) (done more : ℕ) (bytes : List ℕ) → taken_with (taken_with taken (take done bytes)) (take more (take (length bytes - done) (drop done bytes))) ≡ taken_with taken (take (done + more) bytes)
taken_with-take_more None done more bytes = refl
taken_with-take_more (Some before) done more bytes = ap Some (append_assoc before (take done bytes) (take more (take (length bytes - done) (drop done bytes))) ∙ ap (λ piece. before ++ piece) (ap (λ piece. take done bytes ++ take more piece) (take-length-drop done bytes) ∙ sym (take-add done more bytes)))
