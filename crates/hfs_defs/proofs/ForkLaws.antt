-- The pieces of a fork cover it in order, are as long as possible, and have each byte where it stands.
use Rattle.std.specs.Prelude.{◌≡◌, ℕ, ◌+◌, ◌-◌, ◌*◌, ◌/◌, ◌%◌, ◌<◌, ◌≤◌, ◌&&◌, ◌==◌, min, Bool, true, false, nat_lt, nat_le, if◌then◌else◌, Option, Some, None, List, [], ◌∷◌, refl}
use Rattle.std.specs.List.{All}
use Rattle.std.proofs.Common.{ap, sym, ◌∙◌, subst, arith}
use Rattle.std.proofs.lemmas.Bool.{lt-ltb, le-ltb, ltb-true, ltb-false, leb-true, and_parts}
use Rattle.std.proofs.lemmas.Bool.Decides.{Decides-eqb}
use Rattle.std.proofs.lemmas.List.Elements.{All-cons, All-nil}
use Rattle.std.proofs.lemmas.Nat.{div_below, div-mul-add, mod-mul-add, div-add-mod', mod_below}
use Rattle.rx_ranges.specs.declared.pieces.Piece.{Piece}
use Rattle.piece_defs.specs.Joined.{AreInARow}
use Rattle.piece_defs.specs.Places.{IsPlaced, ArePiecesAt}
use Rattle.piece_defs.proofs.JoinedLaws.{joined_law}
use Rattle.hfs_defs.specs.Forks.{blocks_in, block_place, byte_place, extent_bytes, extent_piece, piece_in_front, pieces_from, pieces_of, extents_with, is_whole, ForkLaw, fork_fault, first_damage, first_passing, written_extents, follow_on}
use Rattle.hfs_defs.specs.declared.forks.Extent.{Extent}
use Rattle.hfs_defs.specs.declared.forks.Fork.{Fork}
use Rattle.hfs_defs.specs.declared.forks.OverflowRecord.{OverflowRecord}
use Rattle.hfs_defs.specs.declared.header.Header.{Header}

-- ---- where a byte stands, one extent on

-- a byte of the first extent stands in its blocks
pub byte_place-first : (header : Header) (extent : Extent) (extents : List Extent) (byte : ℕ) → 0 < header.block_size → byte < extent_bytes header extent
    → byte_place header (extent ∷ extents) byte ≡ Some (block_place header extent.start + byte)
unfolding byte_place
byte_place-first header extent extents byte some inside =
    let size : ℕ = header.block_size in
    let block : ℕ = byte / size in
    let offset : ℕ = byte % size in
    let below : block < extent.count = div_below byte size extent.count some inside in
    let whole : block * size + offset ≡ byte = div-add-mod' byte size in
    let split : (extent.start + block) * size ≡ extent.start * size + block * size = omega arith in
    let same : header.at + (extent.start + block) * size + offset ≡ header.at + extent.start * size + byte = omega (arith, whole, split) in
    rw (lt-ltb block extent.count below) (ap Some same)

-- a byte behind it stands in the extents behind
pub byte_place-behind : (header : Header) (extent : Extent) (extents : List Extent) (byte : ℕ) → 0 < header.block_size → extent_bytes header extent ≤ byte
    → byte_place header (extent ∷ extents) byte ≡ byte_place header extents (byte - extent_bytes header extent)
unfolding byte_place
byte_place-behind header extent extents byte some behind =
    let size : ℕ = header.block_size in
    let rest : ℕ = byte - extent.count * size in
    let block : ℕ = rest / size in
    let offset : ℕ = rest % size in
    let whole : block * size + offset ≡ rest = div-add-mod' rest size in
    let split : (extent.count + block) * size ≡ extent.count * size + block * size = omega arith in
    let is : (extent.count + block) * size + offset ≡ byte = omega (arith, whole, split, behind) in
    let number : byte / size ≡ extent.count + block = ap (λ n. n / size) (sym is) ∙ div-mul-add (extent.count + block) size offset (mod_below rest size some) in
    let place : byte % size ≡ offset = ap (λ n. n % size) (sym is) ∙ mod-mul-add (extent.count + block) size offset (mod_below rest size some) in
    let past : nat_lt (byte / size) extent.count ≡ false = le-ltb (byte / size) extent.count (omega (arith, number)) in
    let back : byte / size - extent.count ≡ block = omega (arith, number) in
    rw (past, back, place) refl

-- ---- the pieces of extents

in_front-row : (from size : ℕ) (piece : Piece) (rest : List Piece) → piece.from ≡ from → piece.len ≤ size - from
    → AreInARow (min (from + piece.len) size) size rest → (piece.len ≡ 0 → AreInARow (min from size) size rest) → AreInARow (min from size) size (piece_in_front piece rest)
in_front-row from size piece rest begins fits behind none = either (nat_lt 0 piece.len) refl
  where
    either : (some : Bool) → nat_lt 0 piece.len ≡ some → AreInARow (min from size) size (if some then piece ∷ rest else rest)
    either true is =
        let long : 0 < piece.len = ltb-true 0 piece.len is in
        let P : ℕ → Type 0 = λ place. AreInARow place size rest in
        let same : min (from + piece.len) size ≡ min from size + piece.len = omega (arith, fits, long) in
        (omega (arith, begins, fits, long), long, subst P same behind)
    either false is =
        let short : piece.len ≤ 0 = ltb-false 0 piece.len is in
        none (omega (arith, short))

-- they follow one on another
pieces_from-row : (header : Header) (size from : ℕ) (extents : List Extent) → size ≤ from + blocks_in extents * header.block_size
    → AreInARow (min from size) size (pieces_from header size from extents)
pieces_from-row header size from [] enough = omega (arith, enough)
pieces_from-row header size from (extent ∷ extents) enough =
    let P : ℕ → Type 0 = λ place. AreInARow place size (pieces_from header size (from + extent_bytes header extent) extents) in
    let split : (extent.count + blocks_in extents) * header.block_size ≡ extent.count * header.block_size + blocks_in extents * header.block_size = omega arith in
    let rest : AreInARow (min (from + extent_bytes header extent) size) size (pieces_from header size (from + extent_bytes header extent) extents) =
    pieces_from-row header size (from + extent_bytes header extent) extents (omega (arith, enough, split)) in
    in_front-row from size (extent_piece header size from extent) (pieces_from header size (from + extent_bytes header extent) extents) refl (omega arith)
    (subst P (meet (extent_bytes header extent)) rest)
    (λ none. subst P (stay (extent_bytes header extent) none) rest)
  where
    meet : (bytes : ℕ) → min (from + bytes) size ≡ min (from + min bytes (size - from)) size
    meet bytes = omega arith

    stay : (bytes : ℕ) → min bytes (size - from) ≡ 0 → min (from + bytes) size ≡ min from size
    stay bytes none = omega (arith, none)

in_front-placed : (place : ℕ → Option ℕ) (piece : Piece) (rest : List Piece) → IsPlaced place piece → All (IsPlaced place) rest → All (IsPlaced place) (piece_in_front piece rest)
in_front-placed place piece rest first others = either (nat_lt 0 piece.len)
  where
    either : (some : Bool) → All (IsPlaced place) (if some then piece ∷ rest else rest)
    either true = All-cons (IsPlaced place) piece rest first others
    either false = others

-- each has its bytes where they stand
pieces_from-placed : (place : ℕ → Option ℕ) (header : Header) (size from : ℕ) (extents : List Extent) → 0 < header.block_size
    → ((byte : ℕ) → from ≤ byte → place byte ≡ byte_place header extents (byte - from))
    → All (IsPlaced place) (pieces_from header size from extents)
pieces_from-placed place header size from [] some stands = All-nil (IsPlaced place)
pieces_from-placed place header size from (extent ∷ extents) some stands =
    in_front-placed place (extent_piece header size from extent) (pieces_from header size (from + extent_bytes header extent) extents)
    (record {
      plain = tt;
      bytes = λ byte current before. stands byte current ∙ byte_place-first header extent extents (byte - from) some (inside byte (extent_bytes header extent) current before);
    })
    (pieces_from-placed place header size (from + extent_bytes header extent) extents some
    (λ byte current.
    stands byte (omega (arith, current))
    ∙ byte_place-behind header extent extents (byte - from) some (past byte (extent_bytes header extent) current)
    ∙ ap (byte_place header extents) (back byte (extent_bytes header extent) current)))
  where
    inside : (byte bytes : ℕ) → from ≤ byte → byte < from + min bytes (size - from) → byte - from < bytes
    inside byte bytes current before = omega (arith, current, before)

    past : (byte bytes : ℕ) → from + bytes ≤ byte → bytes ≤ byte - from
    past byte bytes current = omega (arith, current)

    back : (byte bytes : ℕ) → from + bytes ≤ byte → byte - from - bytes ≡ byte - (from + bytes)
    back byte bytes current = omega (arith, current)

-- the pieces of a fork cover it in order, are as long as possible, and have each byte where it stands
abbrev pub PiecesLaw : Type 0
PiecesLaw = (header : Header) (size : ℕ) (extents : List Extent) → 0 < header.block_size → size ≤ blocks_in extents * header.block_size
    → ArePiecesAt (byte_place header extents) size (pieces_of header size extents)

pub pieces_law : PiecesLaw
unfolding pieces_of
pieces_law header size extents some enough =
    joined_law (byte_place header extents) size (pieces_from header size 0 extents)
    (let P : ℕ → Type 0 = λ from. AreInARow from size (pieces_from header size 0 extents) in subst P none_before (pieces_from-row header size 0 extents (omega (arith, enough))))
    (pieces_from-placed (byte_place header extents) header size 0 extents some (λ byte current. ap (byte_place header extents) (same byte)))
  where
    none_before : min 0 size ≡ 0
    none_before = omega arith

    same : (byte : ℕ) → byte ≡ byte - 0
    same byte = omega arith

-- ---- a fork without a fault

fork_whole : (header : Header) (records : List OverflowRecord) (fork : Fork) (place : ℕ) → fork_fault header records fork place ≡ None → is_whole header records fork ≡ true
unfolding fork_fault
fork_whole header records fork place none = either (first_passing header.total_blocks (written_extents records fork place)) (is_whole header records fork) none
  where
    either : (passing : Option ℕ) (whole : Bool) → first_damage place passing whole ≡ None → whole ≡ true
    either (Some at) whole is = absurd cc
    either None true is = refl
    either None false is = absurd cc

fork_enough : (header : Header) (records : List OverflowRecord) (fork : Fork) → is_whole header records fork ≡ true → fork.logical_size ≤ blocks_in (extents_with records fork) * header.block_size
fork_enough header records fork whole =
    let parts = and_parts (follow_on (blocks_in fork.extents) records) (blocks_in (extents_with records fork) == fork.total_blocks && nat_le fork.logical_size (fork.total_blocks * header.block_size)) whole in
    let both = and_parts (blocks_in (extents_with records fork) == fork.total_blocks) (nat_le fork.logical_size (fork.total_blocks * header.block_size)) parts.1 in
    let all : blocks_in (extents_with records fork) ≡ fork.total_blocks = (Decides-eqb (blocks_in (extents_with records fork)) fork.total_blocks).0 both.0 in
    let fits : fork.logical_size ≤ fork.total_blocks * header.block_size = leb-true fork.logical_size (fork.total_blocks * header.block_size) both.1 in
    let P : ℕ → Type 0 = λ blocks. fork.logical_size ≤ blocks * header.block_size in
    subst P (sym all) fits

pub fork_law : ForkLaw
fork_law header records fork place some none =
    pieces_law header fork.logical_size (extents_with records fork) some (fork_enough header records fork (fork_whole header records fork place none))
