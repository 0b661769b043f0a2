-- Pieces that are put one behind another are those that are joined to the longest.
use Rattle.std.specs.Prelude.{◌≡◌, ℕ, ◌+◌, ◌*◌, ◌^◌, ◌<◌, ◌≤◌, Bool, true, false, nat_lt, if◌then◌else◌, List, [], ◌∷◌, ◌++◌, length, drop, get_or, refl}
use Rattle.std.specs.List.{All}
use Rattle.std.proofs.Common.{ap, sym, ◌∙◌, subst, arith, append_assoc, append-nil}
use Rattle.std.proofs.lemmas.Bool.Decides.{Decides-eqb}
use Rattle.std.proofs.lemmas.List.{at_drop_more}
use Rattle.std.proofs.lemmas.List.Elements.{All-push}
use Rattle.range_defs.specs.declared.Range.{Range}
use Rattle.rx_ranges.specs.declared.pieces.Piece.{Piece}
use Rattle.rx_ranges.specs.declared.pieces.PieceKind.{PieceKind}
use Rattle.rx_ranges.specs.declared.pieces.PieceKind.TheVariants.{Disk, Zero}
use Rattle.piece_defs.specs.Covering.{is_contiguous}
use Rattle.piece_defs.specs.Joined.{grown, joined_onto, joined_pieces}
use Rattle.piece_defs.specs.Places.{IsWithin, AreWithin}
use Rattle.piece_defs.specs.Put.{put}
use Rattle.piece_defs.proofs.Joined.{joined_onto_grows, joined_onto_stands}
use Rattle.piece_reads.proofs.Putting.{put_within}
use Rattle.range_defs.specs.declared.TheConstants.{LONGEST_IMAGE}
use Rattle.hfs_defs.specs.Forks.{blocks_in, extent_bytes, extent_piece, extent_rest, piece_in_front, range_in_front, pieces_from, rests_from}
use Rattle.hfs_defs.specs.declared.forks.Extent.{Extent}
use Rattle.hfs_defs.specs.declared.header.Header.{Header}
use Rattle.hfs_extents.specs.Extents.{EndsBy, put_some}

-- pieces put behind others, one by one
abbrev pub puts : List Piece → List Piece → List Piece
puts done [] = done
puts done (piece ∷ pieces) = puts (put done piece) pieces

put_behind : (done : List Piece) (last piece : Piece) → put (done ++ last ∷ []) piece ≡ done ++ joined_onto last (piece ∷ [])
put_behind [] last piece = refl
put_behind (first ∷ []) last piece = refl
put_behind (first ∷ next ∷ rest) last piece = ap (λ list. first ∷ list) (put_behind (next ∷ rest) last piece)

puts-joined : (done : List Piece) (last : Piece) (pieces : List Piece) → puts (done ++ last ∷ []) pieces ≡ done ++ joined_onto last pieces
puts-joined done last [] = refl
puts-joined done last (piece ∷ pieces) =
    either (is_contiguous last piece) refl (puts-joined done (grown last piece) pieces) (puts-joined (done ++ last ∷ []) piece pieces)
  where
    either : (goes : Bool) → is_contiguous last piece ≡ goes
        → puts (done ++ grown last piece ∷ []) pieces ≡ done ++ joined_onto (grown last piece) pieces
        → puts ((done ++ last ∷ []) ++ piece ∷ []) pieces ≡ (done ++ last ∷ []) ++ joined_onto piece pieces
        → puts (put (done ++ last ∷ []) piece) pieces ≡ done ++ joined_onto last (piece ∷ pieces)
    either true goes one other =
        ap (λ list. puts list pieces) (put_behind done last piece ∙ ap (λ list. done ++ list) (joined_onto_grows last piece [] goes))
        ∙ one ∙ ap (λ list. done ++ list) (sym (joined_onto_grows last piece pieces goes))
    either false apart one other =
        ap (λ list. puts list pieces) (put_behind done last piece ∙ ap (λ list. done ++ list) (joined_onto_stands last piece [] apart) ∙ sym (append_assoc done (last ∷ []) (piece ∷ [])))
        ∙ other ∙ append_assoc done (last ∷ []) (joined_onto piece pieces) ∙ ap (λ list. done ++ list) (sym (joined_onto_stands last piece pieces apart))

-- put one by one, they are joined
pub puts-all : (pieces : List Piece) → puts [] pieces ≡ joined_pieces pieces
puts-all [] = refl
puts-all (piece ∷ pieces) = puts-joined [] piece pieces

-- a piece that may be empty is put in front of the others
pub puts-in_front : (done : List Piece) (piece : Piece) (pieces : List Piece) → puts done (piece_in_front piece pieces) ≡ puts (put_some done piece) pieces
puts-in_front done piece pieces = either (nat_lt 0 piece.len)
  where
    either : (some : Bool) → puts done (if some then piece ∷ pieces else pieces) ≡ puts (if some then put done piece else done) pieces
    either true = refl
    either false = refl

-- ---- one extent on

pub pieces-more : (header : Header) (size from : ℕ) (extents : List Extent) (i : ℕ) (d : Extent) (done : List Piece) (all : List Piece) (piece : Piece) (bytes : ℕ) → i < length extents
    → piece ≡ extent_piece header size from (get_or extents i d) → bytes ≡ extent_bytes header (get_or extents i d)
    → puts done (pieces_from header size from (drop i extents)) ≡ all → puts (put_some done piece) (pieces_from header size (from + bytes) (drop (i + 1) extents)) ≡ all
pieces-more header size from extents i d done all piece bytes inside is long so_far =
    ap (λ one. puts (put_some done one) (pieces_from header size (from + bytes) (drop (i + 1) extents))) is
    ∙ ap (λ n. puts (put_some done (extent_piece header size from (get_or extents i d))) (pieces_from header size (from + n) (drop (i + 1) extents))) long
    ∙ sym (puts-in_front done (extent_piece header size from (get_or extents i d)) (pieces_from header size (from + extent_bytes header (get_or extents i d)) (drop (i + 1) extents)))
    ∙ sym (at_drop_more (λ list. puts done (pieces_from header size from list)) extents i d inside)
    ∙ so_far

in_front-append : (range : Range) (done ranges : List Range) → done ++ range_in_front range ranges ≡ (done ++ range_in_front range []) ++ ranges
in_front-append range done ranges = either (nat_lt 0 range.len)
  where
    either : (some : Bool) → done ++ (if some then range ∷ ranges else ranges) ≡ (done ++ (if some then range ∷ [] else [])) ++ ranges
    either true = sym (append_assoc done (range ∷ []) ranges)
    either false = sym (append_assoc done [] ranges)

pub rests-more : (header : Header) (size from : ℕ) (extents : List Extent) (i : ℕ) (d : Extent) (done all : List Range) (rest : Range) (bytes : ℕ) → i < length extents
    → rest ≡ extent_rest header size from (get_or extents i d) → bytes ≡ extent_bytes header (get_or extents i d)
    → all ≡ done ++ rests_from header size from (drop i extents) → all ≡ (done ++ range_in_front rest []) ++ rests_from header size (from + bytes) (drop (i + 1) extents)
rests-more header size from extents i d done all rest bytes inside is long so_far =
    so_far
    ∙ at_drop_more (λ list. done ++ rests_from header size from list) extents i d inside
    ∙ in_front-append (extent_rest header size from (get_or extents i d)) done (rests_from header size (from + extent_bytes header (get_or extents i d)) (drop (i + 1) extents))
    ∙ ap (λ n. (done ++ range_in_front (extent_rest header size from (get_or extents i d)) []) ++ rests_from header size (from + n) (drop (i + 1) extents)) (sym long)
    ∙ ap (λ one. (done ++ range_in_front one []) ++ rests_from header size (from + bytes) (drop (i + 1) extents)) (sym is)

pub passed-more : (header : Header) (extents : List Extent) (i : ℕ) (d : Extent) (from all bytes : ℕ) → i < length extents → bytes ≡ extent_bytes header (get_or extents i d)
    → from + blocks_in (drop i extents) * header.block_size ≡ all → from + bytes + blocks_in (drop (i + 1) extents) * header.block_size ≡ all
passed-more header extents i d from all bytes inside long so_far =
    let one : blocks_in (drop i extents) ≡ (get_or extents i d).count + blocks_in (drop (i + 1) extents) = at_drop_more blocks_in extents i d inside in
    let split : ((get_or extents i d).count + blocks_in (drop (i + 1) extents)) * header.block_size ≡ (get_or extents i d).count * header.block_size + blocks_in (drop (i + 1) extents) * header.block_size = omega arith in
    let same : blocks_in (drop i extents) * header.block_size ≡ ((get_or extents i d).count + blocks_in (drop (i + 1) extents)) * header.block_size = ap (λ n. n * header.block_size) one in
    omega (arith, same, split, long, so_far)

-- ---- pieces with one more lie in the volume

grown_fits : (kind other : PieceKind) (from len at next_from next_len next_at : ℕ) → IsWithin LONGEST_IMAGE kind at len → other ≡ Disk → next_at + next_len ≤ LONGEST_IMAGE
    → is_contiguous (record { from = from; len = len; kind = kind; at = at }) (record { from = next_from; len = next_len; kind = other; at = next_at }) ≡ true → len + next_len < 2 ^ 64
grown_fits Disk Disk from len at next_from next_len next_at within disk fits goes = let meets : at + len ≡ next_at = (Decides-eqb (at + len) next_at).0 goes in omega (arith, meets, fits)
grown_fits Zero Disk from len at next_from next_len next_at within disk fits goes = absurd cc
grown_fits kind Zero from len at next_from next_len next_at within disk fits goes = absurd cc

-- a piece of the disk makes none too long
pub disk_fits : (pieces : List Piece) (piece : Piece) → AreWithin LONGEST_IMAGE pieces → piece.kind ≡ Disk → piece.at + piece.len ≤ LONGEST_IMAGE → All (λ last. is_contiguous last piece ≡ true → last.len + piece.len < 2 ^ 64) pieces
disk_fits pieces piece within disk fits = λ k d inside goes.
    let last : Piece = get_or pieces k d in grown_fits last.kind piece.kind last.from last.len last.at piece.from piece.len piece.at (within k d inside) disk fits goes

pub put_some-within : (end : ℕ) (pieces : List Piece) (piece : Piece) → AreWithin end pieces → piece.kind ≡ Disk → piece.at + piece.len ≤ end → AreWithin end (put_some pieces piece)
put_some-within end pieces piece within disk fits = either (nat_lt 0 piece.len) (put_within end pieces piece within (is_in piece.kind disk))
  where
    is_in : (kind : PieceKind) → kind ≡ Disk → IsWithin end kind piece.at piece.len
    is_in Disk same = fits
    is_in Zero same = absurd cc

    either : (some : Bool) → AreWithin end (put pieces piece) → AreWithin end (if some then put pieces piece else pieces)
    either true more = more
    either false more = within

pub range-within : (end : ℕ) (ranges : List Range) (range : Range) → All (EndsBy end) ranges → EndsBy end range → All (EndsBy end) (ranges ++ range_in_front range [])
range-within end ranges range within fits = either (nat_lt 0 range.len)
  where
    either : (some : Bool) → All (EndsBy end) (ranges ++ (if some then range ∷ [] else []))
    either true = All-push (EndsBy end) ranges range within fits
    either false = let P : List Range → Type 0 = λ list. All (EndsBy end) list in subst P (sym (append-nil ranges)) within
