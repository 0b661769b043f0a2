-- What a tree file gives: the bytes that its pieces cover, and their leaf records.
use Rattle.std.specs.Prelude.{◌≡◌, Result, Ok, Err, ℕ, List, [], ◌∷◌, ◌++◌, refl}
use Rattle.std.specs.List.{flat_map}
use Rattle.std.proofs.Common.{ap, ◌∙◌}
use Rattle.image_defs.specs.Ask.{Ask, Done, result_of, given, each, ◌>>=◌}
use Rattle.image_defs.proofs.Results.{result_bind_ok}
use Rattle.rx_ranges.specs.declared.pieces.Piece.{Piece}
use Rattle.rx_ranges.specs.declared.pieces.PieceKind.{PieceKind}
use Rattle.rx_ranges.specs.declared.pieces.PieceKind.TheVariants.{Disk, Zero}
use Rattle.piece_defs.specs.Places.{bytes_of_kind, bytes_through}
use Rattle.hfs_defs.specs.Forks.{found_fork, FoundFork}
use Rattle.hfs_defs.specs.Leaves.{tree_file, leaves_of}
use Rattle.hfs_defs.specs.TreeFiles.{look_of_kind, look_through, tree_leaves, fork_leaves}
use Rattle.fault_defs.specs.declared.Refusal.{Refusal}
use Rattle.hfs_defs.specs.declared.forks.Fork.{Fork}
use Rattle.hfs_defs.specs.declared.forks.OverflowRecord.{OverflowRecord}
use Rattle.hfs_defs.specs.declared.header.Header.{Header}

-- a given value in front of a program, and a given fault
result_given_ok : {E X Y : Type 0} (image : List ℕ) (result : Result X E) (next : X → Ask E Y) (x : X) → result ≡ Ok x → result_of image (given result >>= next) ≡ result_of image (next x)
result_given_ok image result next x is = ap (λ r. result_of image (given r >>= next)) is

result_given_err : {E X Y : Type 0} (image : List ℕ) (result : Result X E) (next : X → Ask E Y) (e : E) → result ≡ Err e → result_of image (given result >>= next) ≡ Err e
result_given_err image result next e is = ap (λ r. result_of image (given r >>= next)) is

run_kind : (image : List ℕ) (kind : PieceKind) (at len : ℕ) → result_of image (look_of_kind kind at len) ≡ Ok (bytes_of_kind image kind at len)
run_kind image Disk at len = refl
run_kind image Zero at len = refl

-- the bytes of each piece
abbrev bytes_each : List ℕ → List Piece → List (List ℕ)
bytes_each image [] = []
bytes_each image (piece ∷ pieces) = bytes_of_kind image piece.kind piece.at piece.len ∷ bytes_each image pieces

run_pieces : (image : List ℕ) (pieces : List Piece) → result_of image (each (λ piece. look_of_kind piece.kind piece.at piece.len) pieces) ≡ Ok (bytes_each image pieces)
run_pieces image [] = refl
run_pieces image (piece ∷ pieces) =
    let rest : Ask Refusal (List (List ℕ)) = each (λ other. look_of_kind other.kind other.at other.len) pieces in
    result_bind_ok image (look_of_kind piece.kind piece.at piece.len) (λ y. rest >>= (λ ys. Done (y ∷ ys))) _ (run_kind image piece.kind piece.at piece.len)
    ∙ result_bind_ok image rest (λ ys. Done (bytes_of_kind image piece.kind piece.at piece.len ∷ ys)) _ (run_pieces image pieces)

all_bytes : (image : List ℕ) (pieces : List Piece) → flat_map (λ list. list) (bytes_each image pieces) ≡ bytes_through image pieces
all_bytes image [] = refl
all_bytes image (piece ∷ pieces) = ap (λ bytes. bytes_of_kind image piece.kind piece.at piece.len ++ bytes) (all_bytes image pieces)

-- the bytes that pieces cover
pub run_look_through : (image : List ℕ) (pieces : List Piece) → result_of image (look_through pieces) ≡ Ok (bytes_through image pieces)
unfolding look_through
run_look_through image pieces =
    result_bind_ok image (each (λ piece. look_of_kind piece.kind piece.at piece.len) pieces) (λ bytes. Done (flat_map (λ list. list) bytes)) _ (run_pieces image pieces)
    ∙ ap Ok (all_bytes image pieces)

-- the leaf records of a fork that was found, and the fault of one that wasn't
pub fork_leaves_found : (image : List ℕ) (header : Header) (records : List OverflowRecord) (fork : Fork) (place : ℕ) (found : FoundFork) → found_fork header records fork place ≡ Ok found
    → result_of image (fork_leaves header records fork place) ≡ Ok (leaves_of (tree_file (bytes_through image found.pieces) found.pieces place))
unfolding fork_leaves tree_leaves
fork_leaves_found image header records fork place found is =
    result_given_ok image (found_fork header records fork place) (λ found. tree_leaves place found.pieces) found is
    ∙ result_bind_ok image (look_through found.pieces) (λ bytes. Done (leaves_of (tree_file bytes found.pieces place))) _ (run_look_through image found.pieces)

pub fork_leaves_refused : (image : List ℕ) (header : Header) (records : List OverflowRecord) (fork : Fork) (place : ℕ) (fault : Refusal) → found_fork header records fork place ≡ Err fault
    → result_of image (fork_leaves header records fork place) ≡ Err fault
unfolding fork_leaves
fork_leaves_refused image header records fork place fault is = result_given_err image (found_fork header records fork place) (λ found. tree_leaves place found.pieces) fault is
