-- The damage that is told of a fork is a false clause, and a fork without a fault has none.
use Rattle.std.specs.Prelude.{◌≡◌, ℕ, ◌+◌, ◌*◌, ◌<◌, ◌≤◌, ◌&&◌, ◌==◌, Bool, true, false, nat_le, if◌then◌else◌, Option, Some, None, List, [], ◌∷◌, ◌++◌, refl}
use Rattle.std.proofs.Common.{ap, subst, arith, ⊎_elim}
use Rattle.std.proofs.lemmas.Bool.{and_cases, and_parts, leb-false, leb-true, eqb-false}
use Rattle.std.proofs.lemmas.Bool.Decides.{Decides-eqb, nat_tests}
use Rattle.hfs_defs.specs.Forks.{blocks_in, extents_with, written_extents, passes, first_passing, follow_on, is_whole, first_damage, fork_fault}
use Rattle.hfs_defs.specs.Damage.{IsDamage}
use Rattle.hfs_defs.specs.ForkDamage.{extents_in, IsFalseInFork, PassesVolume, BeginsElsewhere, HasOtherSum, HasMoreBytes, ForkDamageLaw}
use Rattle.fault_defs.specs.declared.Refusal.{Refusal}
use Rattle.fault_defs.specs.declared.Refusal.TheVariants.{Damaged}
use Rattle.fault_defs.specs.declared.Sort.{Sort}
use Rattle.fault_defs.specs.declared.Sort.TheVariants.{ForkExtent, ForkSum}
use Rattle.hfs_defs.specs.declared.forks.Extent.{Extent}
use Rattle.hfs_defs.specs.declared.forks.Fork.{Fork}
use Rattle.hfs_defs.specs.declared.forks.OverflowRecord.{OverflowRecord}
use Rattle.hfs_defs.specs.declared.header.Header.{Header}

blocks_in-append : (one other : List Extent) → blocks_in (one ++ other) ≡ blocks_in one + blocks_in other
blocks_in-append [] other = omega arith
blocks_in-append (extent ∷ one) other = omega (arith, blocks_in-append one other)

-- ---- extents that pass the volume's end

-- the first written extent that passes a number of blocks
record Passing (total : ℕ) (written : List (Extent × ℕ)) (at : ℕ) : Type 0 where
  front : List (Extent × ℕ)
  extent : Extent
  behind : List (Extent × ℕ)
  whole : written ≡ front ++ (extent, at) ∷ behind
  over : passes total extent ≡ true

same_place : (a b : ℕ) → Some a ≡ Some b → a ≡ b
same_place a b same = cc

passing : (total : ℕ) (written : List (Extent × ℕ)) (at : ℕ) → first_passing total written ≡ Some at → Passing total written at
passing total [] at is = absurd cc
passing total (one ∷ rest) at is = either (passes total one.0) refl (passing total rest at) is
  where
    either : (over : Bool) → passes total one.0 ≡ over → (first_passing total rest ≡ Some at → Passing total rest at) → (if over then Some one.1 else first_passing total rest) ≡ Some at → Passing total (one ∷ rest) at
    either true this later found =
        let same : one.1 ≡ at = same_place one.1 at found in
        record { front = []; extent = one.0; behind = rest; whole = ap (λ n. (one.0, n) ∷ rest) same; over = this }
    either false this later found =
        let behind = later found in
        record { front = one ∷ behind.front; extent = behind.extent; behind = behind.behind; whole = ap (λ list. one ∷ list) behind.whole; over = behind.over }

none_passes : (total : ℕ) (front : List (Extent × ℕ)) (extent : Extent) (at : ℕ) (behind : List (Extent × ℕ)) → first_passing total (front ++ (extent, at) ∷ behind) ≡ None → passes total extent ≡ false
none_passes total [] extent at behind none = either (passes total extent) none
  where
    either : (over : Bool) → (if over then Some at else first_passing total behind) ≡ None → over ≡ false
    either true is = absurd cc
    either false is = refl
none_passes total (one ∷ front) extent at behind none = either (passes total one.0) none (none_passes total front extent at behind)
  where
    either : (over : Bool) → (if over then Some one.1 else first_passing total (front ++ (extent, at) ∷ behind)) ≡ None → (first_passing total (front ++ (extent, at) ∷ behind) ≡ None → passes total extent ≡ false) → passes total extent ≡ false
    either true is later = absurd cc
    either false is later = later is

-- ---- overflow records that begin elsewhere

record Elsewhere (sum : ℕ) (records : List OverflowRecord) : Type 0 where
  front : List OverflowRecord
  next : OverflowRecord
  behind : List OverflowRecord
  whole : records ≡ front ++ next ∷ behind
  apart : next.start ≡ sum + blocks_in (extents_in front) → ⊥

elsewhere : (sum : ℕ) (records : List OverflowRecord) → follow_on sum records ≡ false → Elsewhere sum records
elsewhere sum [] is = absurd cc
elsewhere sum (overflow ∷ records) is = either (overflow.start == sum) refl (elsewhere (sum + blocks_in overflow.extents) records) is
  where
    either : (same : Bool) → (overflow.start == sum) ≡ same → (follow_on (sum + blocks_in overflow.extents) records ≡ false → Elsewhere (sum + blocks_in overflow.extents) records)
        → (same && follow_on (sum + blocks_in overflow.extents) records) ≡ false → Elsewhere sum (overflow ∷ records)
    either true this later wrong =
        let rest = later wrong in
        record {
          front = overflow ∷ rest.front;
          next = rest.next;
          behind = rest.behind;
          whole = ap (λ list. overflow ∷ list) rest.whole;
          apart = λ same. rest.apart (omega (arith, same, blocks_in-append overflow.extents (extents_in rest.front)));
        }
    either false this later wrong = record {
      front = [];
      next = overflow;
      behind = records;
      whole = refl;
      apart = λ same. let is : overflow.start ≡ sum = omega (arith, same) in eqb-false overflow.start sum this is;
    }

follows : (sum : ℕ) (front : List OverflowRecord) (next : OverflowRecord) (behind : List OverflowRecord) → follow_on sum (front ++ next ∷ behind) ≡ true → next.start ≡ sum + blocks_in (extents_in front)
follows sum [] next behind is =
    let parts = and_parts (next.start == sum) (follow_on (sum + blocks_in next.extents) behind) is in
    let same : next.start ≡ sum = (Decides-eqb next.start sum).0 parts.0 in
    omega (arith, same)
follows sum (overflow ∷ front) next behind is =
    let parts = and_parts (overflow.start == sum) (follow_on (sum + blocks_in overflow.extents) (front ++ next ∷ behind)) is in
    let rest : next.start ≡ sum + blocks_in overflow.extents + blocks_in (extents_in front) = follows (sum + blocks_in overflow.extents) front next behind parts.1 in
    omega (arith, rest, blocks_in-append overflow.extents (extents_in front))

-- ---- the laws

same_fault : (one other : Refusal) → Some one ≡ Some other → one ≡ other
same_fault one other same = cc

over_end : (total : ℕ) (extent : Extent) → passes total extent ≡ true → (0 < extent.count) × (total < extent.start + extent.count)
over_end total extent over = (grind (arith, nat_tests), grind (arith, nat_tests))

not_whole : (header : Header) (records : List OverflowRecord) (fork : Fork) (place : ℕ) → is_whole header records fork ≡ false → IsFalseInFork header records fork place ForkSum place
not_whole header records fork place is =
    ⊎_elim
    (λ apart. let found = elsewhere (blocks_in fork.extents) records apart in BeginsElsewhere found.front found.next found.behind found.whole found.apart)
    (λ rest. ⊎_elim
    (λ other. HasOtherSum (eqb-false (blocks_in (extents_with records fork)) fork.total_blocks other))
    (λ more. HasMoreBytes (leb-false fork.logical_size (fork.total_blocks * header.block_size) more))
    (and_cases (blocks_in (extents_with records fork) == fork.total_blocks) (nat_le fork.logical_size (fork.total_blocks * header.block_size)) rest))
    (and_cases (follow_on (blocks_in fork.extents) records) (blocks_in (extents_with records fork) == fork.total_blocks && nat_le fork.logical_size (fork.total_blocks * header.block_size)) is)

-- a fault is a clause that is false
fork_stops : (header : Header) (records : List OverflowRecord) (fork : Fork) (place : ℕ) (fault : Refusal) → fork_fault header records fork place ≡ Some fault → IsDamage (IsFalseInFork header records fork place) fault
unfolding fork_fault
fork_stops header records fork place fault is = either (first_passing header.total_blocks (written_extents records fork place)) (is_whole header records fork) refl refl is
  where
    either : (first : Option ℕ) (whole : Bool) → first_passing header.total_blocks (written_extents records fork place) ≡ first → is_whole header records fork ≡ whole
        → first_damage place first whole ≡ Some fault → IsDamage (IsFalseInFork header records fork place) fault
    either (Some first) whole found its same =
        let over = passing header.total_blocks (written_extents records fork place) first found in
        let far = over_end header.total_blocks over.extent over.over in
        subst (IsDamage (IsFalseInFork header records fork place)) (same_fault (Damaged ForkExtent first) fault same) (PassesVolume over.front over.extent first over.behind over.whole far.0 far.1)
    either None true found its same = absurd cc
    either None false found its same = subst (IsDamage (IsFalseInFork header records fork place)) (same_fault (Damaged ForkSum place) fault same) (not_whole header records fork place its)

whole_parts : (header : Header) (records : List OverflowRecord) (fork : Fork) → is_whole header records fork ≡ true
    → (follow_on (blocks_in fork.extents) records ≡ true) × (blocks_in (extents_with records fork) ≡ fork.total_blocks) × (fork.logical_size ≤ fork.total_blocks * header.block_size)
whole_parts header records fork whole =
    let parts = and_parts (follow_on (blocks_in fork.extents) records) (blocks_in (extents_with records fork) == fork.total_blocks && nat_le fork.logical_size (fork.total_blocks * header.block_size)) whole in
    let both = and_parts (blocks_in (extents_with records fork) == fork.total_blocks) (nat_le fork.logical_size (fork.total_blocks * header.block_size)) parts.1 in
    (parts.0, (Decides-eqb (blocks_in (extents_with records fork)) fork.total_blocks).0 both.0, leb-true fork.logical_size (fork.total_blocks * header.block_size) both.1)

no_fault : (header : Header) (records : List OverflowRecord) (fork : Fork) (place : ℕ) → fork_fault header records fork place ≡ None
    → (first_passing header.total_blocks (written_extents records fork place) ≡ None) × (is_whole header records fork ≡ true)
unfolding fork_fault
no_fault header records fork place none = either (first_passing header.total_blocks (written_extents records fork place)) (is_whole header records fork) none
  where
    either : (first : Option ℕ) (whole : Bool) → first_damage place first whole ≡ None → (first ≡ None) × (whole ≡ true)
    either (Some first) whole same = absurd cc
    either None true same = (refl, refl)
    either None false same = absurd cc

-- a fork without a fault has no false clause
pub fork_true : (header : Header) (records : List OverflowRecord) (fork : Fork) (place : ℕ) (sort : Sort) (at : ℕ) → fork_fault header records fork place ≡ None → IsFalseInFork header records fork place sort at → ⊥
fork_true header records fork place sort at none (PassesVolume front extent to behind whole some over) =
    let P : List (Extent × ℕ) → Type 0 = λ list. first_passing header.total_blocks list ≡ None in
    let not_over : passes header.total_blocks extent ≡ false = none_passes header.total_blocks front extent to behind (subst P whole (no_fault header records fork place none).0) in
    absurd (grind (arith, nat_tests))
fork_true header records fork place sort at none (BeginsElsewhere front next behind whole apart) =
    let P : List OverflowRecord → Type 0 = λ list. follow_on (blocks_in fork.extents) list ≡ true in
    apart (follows (blocks_in fork.extents) front next behind (subst P whole (whole_parts header records fork (no_fault header records fork place none).1).0))
fork_true header records fork place sort at none (HasOtherSum other) = other (whole_parts header records fork (no_fault header records fork place none).1).1
fork_true header records fork place sort at none (HasMoreBytes more) =
    let fits = (whole_parts header records fork (no_fault header records fork place none).1).2 in
    absurd (omega (arith, more, fits))

pub fork_damage_law : ForkDamageLaw
fork_damage_law header records fork place = record {
  stops = fork_stops header records fork place;
  passes_all = fork_true header records fork place;
}
