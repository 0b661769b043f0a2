-- What was read of a content, piece by piece.
use Rattle.std.specs.Prelude.{◌≡◌, ℕ, zero, suc, ◌+◌, ◌-◌, ◌<◌, ◌≤◌, min, Option, Some, None, IfSome, List, [], ◌∷◌, ◌++◌, length, take, drop, get_or, refl}
use Rattle.std.proofs.Common.{ap, sym, ◌∙◌, subst, arith, append_assoc, append-nil}
use Rattle.std.proofs.lemmas.List.{drop_more, drop_all, take_all, length-take}
use Rattle.std.proofs.lemmas.List.Elements.{All-head, All-tail}
use Rattle.std.proofs.lemmas.Slice.{take-put_mid}
use borrow.Rule.Slice.PartMut.{put_mid}
use Rattle.bytes_defs.specs.Bytes.{part}
use Rattle.rx_ranges.specs.declared.pieces.Piece.{Piece}
use Rattle.piece_defs.specs.Places.{bytes_of_kind, bytes_through, IsWithin, AreWithin}
use Rattle.piece_defs.specs.Joined.{AreInARow}
use Rattle.piece_defs.proofs.ByteLaws.{length-part, length-of_kind, length-through, part-behind, part-next}

-- a piece of pieces that lie in an image lies in it
pub within_at : (size : ℕ) (pieces : List Piece) (i : ℕ) (d : Piece) → i < length pieces → AreWithin size pieces → IsWithin size (get_or pieces i d).kind (get_or pieces i d).at (get_or pieces i d).len
within_at size [] i d inside within = absurd (omega (arith, inside))
within_at size (piece ∷ pieces) zero d inside within = All-head (λ other. IsWithin size other.kind other.at other.len) piece pieces within
within_at size (piece ∷ pieces) (suc i) d inside within = within_at size pieces i d (omega (arith, inside)) (All-tail (λ other. IsWithin size other.kind other.at other.len) piece pieces within)

-- the first bytes of the buffer, and what the pieces from one on have from an offset on, are all that was asked for
pub record IsRead (pieces : List Piece) (image : List ℕ) (from : ℕ) (buf : List ℕ) (done skip i : ℕ) : Type 0 where
  pub whole : take done buf ++ part (bytes_through image (drop i pieces)) skip (length buf - done) ≡ part (bytes_through image pieces) from (length buf)

bytes_from : (pieces : List Piece) (image : List ℕ) (i : ℕ) (d : Piece) → i < length pieces
    → bytes_through image (drop i pieces) ≡ bytes_of_kind image (get_or pieces i d).kind (get_or pieces i d).at (get_or pieces i d).len ++ bytes_through image (drop (i + 1) pieces)
bytes_from pieces image i d inside = ap (bytes_through image) (drop_more pieces i d inside)

pub read_skips : (pieces : List Piece) (image : List ℕ) (from : ℕ) (buf : List ℕ) (done skip i : ℕ) (d : Piece) → i < length pieces → AreWithin (length image) pieces
    → (get_or pieces i d).len ≤ skip → IsRead pieces image from buf done skip i → IsRead pieces image from buf done (skip - (get_or pieces i d).len) (i + 1)
read_skips pieces image from buf done skip i d inside within past read =
    let piece : Piece = get_or pieces i d in
    let first : List ℕ = bytes_of_kind image piece.kind piece.at piece.len in
    let rest : List ℕ = bytes_through image (drop (i + 1) pieces) in
    let long : length first ≡ piece.len = length-of_kind image piece.kind piece.at piece.len (within_at (length image) pieces i d inside within) in
    let m : ℕ = length buf - done in
    let moved : part (bytes_through image (drop i pieces)) skip m ≡ part rest (skip - piece.len) m =
    ap (λ bytes. part bytes skip m) (bytes_from pieces image i d inside) ∙ part-behind first rest skip m (omega (arith, long, past)) ∙ ap (λ n. part rest (skip - n) m) long in
    record { whole = ap (λ bytes. take done buf ++ bytes) (sym moved) ∙ read.whole }

pub read_fills : (pieces : List Piece) (image : List ℕ) (from : ℕ) (buf part_of : List ℕ) (done skip i count : ℕ) (d : Piece) → i < length pieces → AreWithin (length image) pieces
    → skip ≤ (get_or pieces i d).len → done ≤ length buf → count ≡ min ((get_or pieces i d).len - skip) (length buf - done) → length part_of ≡ count → length (put_mid done count buf part_of) ≡ length buf
    → part_of ≡ part (bytes_of_kind image (get_or pieces i d).kind (get_or pieces i d).at (get_or pieces i d).len) skip (length part_of)
    → IsRead pieces image from buf done skip i → IsRead pieces image from (put_mid done count buf part_of) (done + count) 0 (i + 1)
read_fills pieces image from buf part_of done skip i count d inside within begun few is many same_len given read =
    let piece : Piece = get_or pieces i d in
    let first : List ℕ = bytes_of_kind image piece.kind piece.at piece.len in
    let rest : List ℕ = bytes_through image (drop (i + 1) pieces) in
    let long : length first ≡ piece.len = length-of_kind image piece.kind piece.at piece.len (within_at (length image) pieces i d inside within) in
    let m : ℕ = length buf - done in
    let next : part (bytes_through image (drop i pieces)) skip m ≡ part first skip count ++ part rest 0 (m - count) =
    ap (λ bytes. part bytes skip m) (bytes_from pieces image i d inside) ∙ part-next first rest skip count m (omega (arith, long, begun)) (omega (arith, is, long)) in
    let filled : take (done + count) (put_mid done count buf part_of) ≡ take done buf ++ part_of = take-put_mid done count buf part_of (done + count) (omega (arith, many)) few in
    let piece_bytes : part_of ≡ part first skip count = given ∙ ap (part first skip) many in
    let left : length (put_mid done count buf part_of) - (done + count) ≡ m - count = omega (arith, same_len) in
    record {
      whole =
          ap (λ bytes. bytes ++ part rest 0 (length (put_mid done count buf part_of) - (done + count))) filled
          ∙ ap (λ n. (take done buf ++ part_of) ++ part rest 0 n) left
          ∙ append_assoc (take done buf) part_of (part rest 0 (m - count))
          ∙ ap (λ bytes. take done buf ++ (bytes ++ part rest 0 (m - count))) piece_bytes
          ∙ ap (λ bytes. take done buf ++ bytes) (sym next)
          ∙ read.whole
          ∙ ap (part (bytes_through image pieces) from) (sym same_len);
    }

no_part : (bytes : List ℕ) (skip m : ℕ) → m ≡ 0 → part bytes skip m ≡ []
unfolding part
no_part bytes skip m none = ap (λ n. take n (drop skip bytes)) none

past_all : (pieces : List Piece) (image : List ℕ) (i skip m : ℕ) → length pieces ≤ i → part (bytes_through image (drop i pieces)) skip m ≡ []
past_all pieces image i skip m past = ap (λ left. part (bytes_through image left) skip m) (drop_all i pieces past) ∙ part_of_nothing skip m
  where
    drop_nothing : (skip : ℕ) → drop {A = ℕ} skip [] ≡ []
    drop_nothing zero = refl
    drop_nothing (suc skip) = refl

    take_nothing : (m : ℕ) → take {A = ℕ} m [] ≡ []
    take_nothing zero = refl
    take_nothing (suc m) = refl

    part_of_nothing : (skip m : ℕ) → part [] skip m ≡ []
    part_of_nothing skip m = unfold part in (ap (take m) (drop_nothing skip) ∙ take_nothing m)

pub read_ends : (pieces : List Piece) (image : List ℕ) (from size : ℕ) (buf : List ℕ) (done skip i : ℕ) → length pieces ≤ i → done ≤ length buf → AreInARow 0 size pieces → AreWithin (length image) pieces
    → from + length buf ≤ size → IsRead pieces image from buf done skip i → buf ≡ part (bytes_through image pieces) from (length buf)
read_ends pieces image from size buf done skip i past few cover within fits read =
    let all : 0 + length (bytes_through image pieces) ≡ size = length-through image 0 size pieces cover within in
    let is : take done buf ≡ part (bytes_through image pieces) from (length buf) =
    sym (append-nil (take done buf)) ∙ ap (λ bytes. take done buf ++ bytes) (sym (past_all pieces image i skip (length buf - done) past)) ∙ read.whole in
    let long : length (part (bytes_through image pieces) from (length buf)) ≡ length buf = length-part (bytes_through image pieces) from (length buf) (omega (arith, all, fits)) in
    let taken : length (take done buf) ≡ length buf = ap length is ∙ long in
    let full : length buf ≤ done = omega (arith, taken, length-take done buf) in
    sym (take_all done buf full) ∙ is

-- ---- the same, where the image is told

within_image : (image : List ℕ) (size : ℕ) (pieces : List Piece) → length image ≡ size → AreWithin size pieces → AreWithin (length image) pieces
within_image image size pieces same within = let P : ℕ → Type 0 = λ n. AreWithin n pieces in subst P (sym same) within

pub skips_told : (told : Option (List ℕ)) (size : ℕ) (pieces : List Piece) (from : ℕ) (buf : List ℕ) (done skip i : ℕ) (d : Piece) → IfSome told (λ image. length image ≡ size) → i < length pieces → AreWithin size pieces
    → (get_or pieces i d).len ≤ skip → IfSome told (λ image. IsRead pieces image from buf done skip i) → IfSome told (λ image. IsRead pieces image from buf done (skip - (get_or pieces i d).len) (i + 1))
skips_told None size pieces from buf done skip i d same inside within past read = tt
skips_told (Some image) size pieces from buf done skip i d same inside within past read = read_skips pieces image from buf done skip i d inside (within_image image size pieces same within) past read

pub fills_told : (told : Option (List ℕ)) (size : ℕ) (pieces : List Piece) (from : ℕ) (buf part_of : List ℕ) (done skip i count : ℕ) (d : Piece) → IfSome told (λ image. length image ≡ size) → i < length pieces → AreWithin size pieces
    → skip ≤ (get_or pieces i d).len → done ≤ length buf → count ≡ min ((get_or pieces i d).len - skip) (length buf - done) → length part_of ≡ count → length (put_mid done count buf part_of) ≡ length buf
    → IfSome told (λ image. part_of ≡ part (bytes_of_kind image (get_or pieces i d).kind (get_or pieces i d).at (get_or pieces i d).len) skip (length part_of))
    → IfSome told (λ image. IsRead pieces image from buf done skip i) → IfSome told (λ image. IsRead pieces image from (put_mid done count buf part_of) (done + count) 0 (i + 1))
fills_told None size pieces from buf part_of done skip i count d same inside within begun few is many same_len given read = tt
fills_told (Some image) size pieces from buf part_of done skip i count d same inside within begun few is many same_len given read =
    read_fills pieces image from buf part_of done skip i count d inside (within_image image size pieces same within) begun few is many same_len given read

pub ends_told : (told : Option (List ℕ)) (size_of_image : ℕ) (pieces : List Piece) (from size : ℕ) (buf : List ℕ) (done skip i : ℕ) → IfSome told (λ image. length image ≡ size_of_image) → length pieces ≤ i → done ≤ length buf → AreInARow 0 size pieces → AreWithin size_of_image pieces
    → from + length buf ≤ size → IfSome told (λ image. IsRead pieces image from buf done skip i) → IfSome told (λ image. buf ≡ part (bytes_through image pieces) from (length buf))
ends_told None size_of_image pieces from size buf done skip i same past few cover within fits read = tt
ends_told (Some image) size_of_image pieces from size buf done skip i same past few cover within fits read = read_ends pieces image from size buf done skip i past few cover (within_image image size_of_image pieces same within) fits read

-- a buffer that is full has all that was asked for
full_is_all : (pieces : List Piece) (image : List ℕ) (from : ℕ) (buf : List ℕ) (done skip i : ℕ) → length buf ≤ done → IsRead pieces image from buf done skip i → buf ≡ part (bytes_through image pieces) from (length buf)
full_is_all pieces image from buf done skip i full read =
    let none : length buf - done ≡ 0 = omega (arith, full) in
    sym (ap (λ bytes. take done buf ++ bytes) (no_part (bytes_through image (drop i pieces)) skip (length buf - done) none) ∙ append-nil (take done buf) ∙ take_all done buf full) ∙ read.whole

pub all_told : (told : Option (List ℕ)) (pieces : List Piece) (from : ℕ) (buf : List ℕ) (done skip i : ℕ) → length buf ≤ done → IfSome told (λ image. IsRead pieces image from buf done skip i)
    → IfSome told (λ image. buf ≡ part (bytes_through image pieces) from (length buf))
all_told None pieces from buf done skip i full read = tt
all_told (Some image) pieces from buf done skip i full read = full_is_all pieces image from buf done skip i full read
