-- What a source gave, block after block.
use Rattle.std.proofs.Common.{◌≡◌, ℕ, Option, Some, None, List, ◌++◌, length, take, drop, ap, ◌∙◌, append_assoc}
use Rattle.std.proofs.Math.Seq.{drop-append_seam}
use Rattle.std.proofs.lemmas.List.{take-append-drop}
use Rattle.disk_defs.specs.Stream.{GivesFirst, rest_after, IsPartlyRead}
use Rattle.disk_defs.proofs.Stream.{ReadSoFar}

-- one more block
pub ReadSoFar-more : (before now after : Option (List ℕ)) (text block : List ℕ) (count : ℕ) → ReadSoFar before now text → GivesFirst now block count → after ≡ rest_after now count → ReadSoFar before after (text ++ take count block)
ReadSoFar-more before None after text block count so_far given rest = cc
ReadSoFar-more before (Some now) after text block count so_far given rest =
    let e : (text ++ take count block) ++ drop count now ≡ text ++ now = append_assoc text (take count block) (drop count now) ∙ ap (λ piece. text ++ piece) (ap (λ piece. piece ++ drop count now) given.1 ∙ take-append-drop count now) in
    cc

-- what has come is a first part of what was to come
pub IsPartlyRead-so_far : (before after : Option (List ℕ)) (text : List ℕ) → ReadSoFar before after text → IsPartlyRead before after
IsPartlyRead-so_far before None text so_far = (0, cc)
IsPartlyRead-so_far before (Some after) text so_far = (length text, let e = drop-append_seam text after in cc)
