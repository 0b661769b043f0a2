-- Laws of extents, one overflow record on.
use Rattle.std.specs.Prelude.{◌≡◌, ℕ, ◌+◌, ◌*◌, ◌<◌, ◌≤◌, Bool, true, false, if◌then◌else◌, Some, None, List, [], ◌∷◌, ◌++◌, length, drop, get_or, refl}
use Rattle.std.specs.List.{flat_map}
use Rattle.std.proofs.Common.{◌∙◌, arith}
use Rattle.std.proofs.Math.Nat.{mul-le-mul_right}
use Rattle.std.proofs.lemmas.Bool.Decides.{Decides-eqb}
use Rattle.std.proofs.lemmas.List.{at_drop_more}
use Rattle.hfs_defs.specs.Forks.{blocks_in, passes, first_passing, written_from, follow_on}
use Rattle.hfs_defs.specs.ForkDamage.{extents_in}
use Rattle.hfs_defs.specs.declared.forks.Extent.{Extent}
use Rattle.hfs_defs.specs.declared.forks.OverflowRecord.{OverflowRecord}
use Rattle.hfs_defs.specs.declared.header.Header.{Header}
use Rattle.hfs_extents.specs.Extents.{LiesInImage}

pub blocks_in-append : (one other : List Extent) → blocks_in (one ++ other) ≡ blocks_in one + blocks_in other
blocks_in-append [] other = omega arith
blocks_in-append (extent ∷ one) other = omega (arith, blocks_in-append one other)

-- what passes first in front is the first, and where nothing does, it is what passes first behind
pub passing-front : (total : ℕ) (front behind : List (Extent × ℕ)) (at : ℕ) → first_passing total front ≡ Some at → first_passing total (front ++ behind) ≡ Some at
passing-front total [] behind at is = absurd cc
passing-front total (written ∷ front) behind at is = either (passes total written.0) (passing-front total front behind at) is
  where
    either : (here : Bool) → (first_passing total front ≡ Some at → first_passing total (front ++ behind) ≡ Some at) → (if here then Some written.1 else first_passing total front) ≡ Some at → (if here then Some written.1 else first_passing total (front ++ behind)) ≡ Some at
    either true later first = first
    either false later first = later first

pub passing-behind : (total : ℕ) (front behind : List (Extent × ℕ)) → first_passing total front ≡ None → first_passing total (front ++ behind) ≡ first_passing total behind
passing-behind total [] behind is = refl
passing-behind total (written ∷ front) behind is = either (passes total written.0) (passing-behind total front behind) is
  where
    either : (here : Bool) → (first_passing total front ≡ None → first_passing total (front ++ behind) ≡ first_passing total behind) → (if here then Some written.1 else first_passing total front) ≡ None → (if here then Some written.1 else first_passing total (front ++ behind)) ≡ first_passing total behind
    either true later none = absurd cc
    either false later none = later none

-- the extents of overflow records, and the places at which they are written
abbrev pub written_in : List OverflowRecord → List (Extent × ℕ)
written_in records = flat_map (λ overflow. written_from (overflow.at + 12) overflow.extents) records

pub passing-found : (total : ℕ) (records : List OverflowRecord) (i : ℕ) (d : OverflowRecord) (at : ℕ) → i < length records
    → first_passing total (written_from ((get_or records i d).at + 12) (get_or records i d).extents) ≡ Some at → first_passing total (written_in (drop i records)) ≡ Some at
passing-found total records i d at inside found =
    at_drop_more (λ list. first_passing total (written_in list)) records i d inside
    ∙ passing-front total (written_from ((get_or records i d).at + 12) (get_or records i d).extents) (written_in (drop (i + 1) records)) at found

pub passing-more : (total : ℕ) (records : List OverflowRecord) (i : ℕ) (d : OverflowRecord) → i < length records
    → first_passing total (written_from ((get_or records i d).at + 12) (get_or records i d).extents) ≡ None → first_passing total (written_in (drop i records)) ≡ first_passing total (written_in (drop (i + 1) records))
passing-more total records i d inside none =
    at_drop_more (λ list. first_passing total (written_in list)) records i d inside
    ∙ passing-behind total (written_from ((get_or records i d).at + 12) (get_or records i d).extents) (written_in (drop (i + 1) records)) none

pub blocks-more : (records : List OverflowRecord) (i : ℕ) (d : OverflowRecord) → i < length records
    → blocks_in (extents_in (drop i records)) ≡ blocks_in (get_or records i d).extents + blocks_in (extents_in (drop (i + 1) records))
blocks-more records i d inside =
    at_drop_more (λ list. blocks_in (extents_in list)) records i d inside ∙ blocks_in-append (get_or records i d).extents (extents_in (drop (i + 1) records))

-- ---- extents that lie in their volume

-- what an extent has of a content ends in the volume
pub inside_volume : (header : Header) (extent : Extent) (start size len : ℕ) → start ≡ extent.start → size ≡ header.block_size → len ≤ extent.count * header.block_size
    → LiesInImage header → extent.start + extent.count ≤ header.total_blocks → header.at + start * size + len ≤ header.at + header.len
inside_volume header extent start size len begins sized fits lies inside =
    let all : (extent.start + extent.count) * header.block_size ≤ header.total_blocks * header.block_size = mul-le-mul_right header.block_size inside in
    let split : (extent.start + extent.count) * header.block_size ≡ extent.start * header.block_size + extent.count * header.block_size = omega arith in
    let same : start * size ≡ extent.start * header.block_size = rw (begins, sized) refl in
    omega (arith, all, split, same, fits, lies.blocks)

-- where a record begins with the block behind those in front, the others have to go on behind it
pub follow-more : (sum : ℕ) (records : List OverflowRecord) (i : ℕ) (d : OverflowRecord) (blocks : ℕ) → i < length records → (get_or records i d).start ≡ sum → blocks ≡ blocks_in (get_or records i d).extents
    → follow_on sum (drop i records) ≡ follow_on (sum + blocks) (drop (i + 1) records)
follow-more sum records i d blocks inside begins is =
    at_drop_more (follow_on sum) records i d inside
    ∙ rw (begins, is, (Decides-eqb sum sum).1 refl) refl

-- the blocks of all extents, with one record more in the sum
pub sum_more : (records : List OverflowRecord) (i : ℕ) (d : OverflowRecord) (all sum blocks : ℕ) → i < length records → all ≡ sum + blocks_in (extents_in (drop i records)) → blocks ≡ blocks_in (get_or records i d).extents
    → all ≡ sum + blocks + blocks_in (extents_in (drop (i + 1) records))
sum_more records i d all sum blocks inside is one = omega (arith, is, one, blocks-more records i d inside)
