-- The bytes that pieces cover.
use Rattle.std.specs.Prelude.{◌≡◌, ℕ, ◌+◌, ◌-◌, ◌≤◌, ◌⊎◌, zero, suc, min, List, [], ◌∷◌, ◌++◌, length, take, drop, replicate}
use Rattle.std.proofs.Common.{ap, sym, ◌∙◌, arith, inl, inr, ⊎_elim, append-nil}
use Rattle.std.proofs.Math.Seq.{take-append-add}
use Rattle.std.proofs.lemmas.Bool.{cases_lt}
use Rattle.std.proofs.lemmas.List.{length-take, length-drop, length-append, length-replicate, drop-append-le, take-append-le, take_all, drop-take, take-take, drop-drop, drop-replicate, take-replicate}
use Rattle.bytes_defs.specs.Bytes.{part}
use Rattle.std.proofs.lemmas.List.Elements.{All-head, All-tail}
use Rattle.rx_ranges.specs.declared.pieces.Piece.{Piece}
use Rattle.rx_ranges.specs.declared.pieces.PieceKind.{PieceKind}
use Rattle.rx_ranges.specs.declared.pieces.PieceKind.TheVariants.{Disk, Zero}
use Rattle.piece_defs.specs.Places.{bytes_of_kind, bytes_through, IsWithin, AreWithin}
use Rattle.piece_defs.specs.Joined.{AreInARow}

-- a part of an image that lies in it has its bytes
pub length-part : (image : List ℕ) (at len : ℕ) → at + len ≤ length image → length (part image at len) ≡ len
unfolding part
length-part image at len inside = omega (arith, length-take len (drop at image), length-drop at image, inside)

pub length-of_kind : (image : List ℕ) (kind : PieceKind) (at len : ℕ) → IsWithin (length image) kind at len → length (bytes_of_kind image kind at len) ≡ len
length-of_kind image Disk at len within = length-part image at len within
length-of_kind image Zero at len within = length-replicate len 0

-- pieces in order cover as many bytes as they say
pub length-through : (image : List ℕ) (from size : ℕ) (pieces : List Piece) → AreInARow from size pieces → AreWithin (length image) pieces → from + length (bytes_through image pieces) ≡ size
length-through image from size [] row within = omega (arith, row)
length-through image from size (piece ∷ pieces) row within =
    let P : Piece → Type 0 = λ other. IsWithin (length image) other.kind other.at other.len in
    let first : length (bytes_of_kind image piece.kind piece.at piece.len) ≡ piece.len = length-of_kind image piece.kind piece.at piece.len (All-head P piece pieces within) in
    let rest : from + piece.len + length (bytes_through image pieces) ≡ size = length-through image (from + piece.len) size pieces row.2 (All-tail P piece pieces within) in
    omega (arith, first, rest, length-append (bytes_of_kind image piece.kind piece.at piece.len) (bytes_through image pieces))

-- ---- parts of what pieces cover

drop-behind : (first rest : List ℕ) (skip : ℕ) → length first ≤ skip → drop skip (first ++ rest) ≡ drop (skip - length first) rest
drop-behind [] rest skip past = let same : skip ≡ skip - 0 = omega arith in ap (λ n. drop n rest) same
drop-behind (x ∷ first) rest zero past = absurd (omega (arith, past))
drop-behind (x ∷ first) rest (suc skip) past =
    let same : skip - length first ≡ suc skip - suc (length first) = omega arith in
    drop-behind first rest skip (omega (arith, past)) ∙ ap (λ n. drop n rest) same

-- a part behind the first bytes
pub part-behind : (first rest : List ℕ) (skip m : ℕ) → length first ≤ skip → part (first ++ rest) skip m ≡ part rest (skip - length first) m
unfolding part
part-behind first rest skip m past = ap (take m) (drop-behind first rest skip past)

part-inside : (first rest : List ℕ) (skip m : ℕ) → skip + m ≤ length first → part (first ++ rest) skip m ≡ part first skip m
unfolding part
part-inside first rest skip m inside =
    ap (take m) (drop-append-le skip first rest (omega (arith, inside)))
    ∙ take-append-le m (drop skip first) rest (omega (arith, inside, length-drop skip first))

part-across : (first rest : List ℕ) (skip n m : ℕ) → skip + n ≡ length first → n ≤ m → part (first ++ rest) skip m ≡ part first skip n ++ part rest 0 (m - n)
unfolding part
part-across first rest skip n m whole few =
    let behind : length (drop skip first) ≡ n = omega (arith, whole, length-drop skip first) in
    let split : m ≡ length (drop skip first) + (m - n) = omega (arith, behind, few) in
    ap (take m) (drop-append-le skip first rest (omega (arith, whole)))
    ∙ ap (λ k. take k (drop skip first ++ rest)) split
    ∙ take-append-add (drop skip first) rest (m - n)
    ∙ ap (λ bytes. bytes ++ take (m - n) rest) (sym (take_all n (drop skip first) (omega (arith, behind))))

nothing : (rest : List ℕ) (m : ℕ) → m ≡ 0 → part rest 0 m ≡ []
unfolding part
nothing rest m none = ap (λ k. take k (drop 0 rest)) none

-- a part that begins in the first bytes: what it has of them, and the rest behind them
pub part-next : (first rest : List ℕ) (skip n m : ℕ) → skip ≤ length first → n ≡ min (length first - skip) m → part (first ++ rest) skip m ≡ part first skip n ++ part rest 0 (m - n)
part-next first rest skip n m current is =
    ⊎_elim
    (λ inside.
    let all : m ≡ n = omega (arith, is, inside) in
    let none : m - n ≡ 0 = omega (arith, all) in
    part-inside first rest skip m (omega (arith, inside)) ∙ ap (part first skip) all ∙ sym (ap (λ bytes. part first skip n ++ bytes) (nothing rest (m - n) none) ∙ append-nil (part first skip n)))
    (λ across. part-across first rest skip n m (omega (arith, is, current, across)) (omega (arith, is)))
    (cases_le (skip + m) (length first))
  where
    cases_le : (a b : ℕ) → (a ≤ b) ⊎ (b ≤ a)
    cases_le a b = ⊎_elim (λ below. inl (omega (arith, below))) (λ past. inr past) (cases_lt a b)

part-part : (image : List ℕ) (at len skip n : ℕ) → skip + n ≤ len → part (part image at len) skip n ≡ part image (at + skip) n
unfolding part
part-part image at len skip n fits =
    let split : len ≡ skip + (len - skip) = omega (arith, fits) in
    ap (λ k. take n (drop skip (take k (drop at image)))) split
    ∙ ap (take n) (drop-take skip (len - skip) (drop at image))
    ∙ take-take n (len - skip) (drop skip (drop at image)) (omega (arith, fits))
    ∙ ap (take n) (drop-drop skip at image)

part-zeros : (len skip n : ℕ) → skip + n ≤ len → part (replicate len 0) skip n ≡ replicate n 0
unfolding part
part-zeros len skip n fits = ap (take n) (drop-replicate skip len 0) ∙ take-replicate n (len - skip) 0 (omega (arith, fits))

-- a part of what a piece of the disk, and of zeros, has
pub part-disk : (image : List ℕ) (at len skip n : ℕ) → skip + n ≤ len → part (bytes_of_kind image Disk at len) skip n ≡ part image (at + skip) n
part-disk image at len skip n fits = part-part image at len skip n fits

pub part-hole : (image : List ℕ) (at len skip n : ℕ) → skip + n ≤ len → part (bytes_of_kind image Zero at len) skip n ≡ replicate n 0
part-hole image at len skip n fits = part-zeros len skip n fits

-- the laws by which a part of a piece is read
pub ruleset part_reads = (part-disk, part-hole)
