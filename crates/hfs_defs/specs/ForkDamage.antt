-- What is wrong with a fork, in the words of the table of damage.
use Rattle.std.specs.Prelude.{◌≡◌, ℕ, ◌+◌, ◌*◌, ◌<◌, Some, None, List, ◌∷◌, ◌++◌}
use Rattle.std.specs.List.{flat_map}
use Rattle.hfs_defs.specs.Forks.{blocks_in, extents_with, written_extents, fork_fault}
use Rattle.hfs_defs.specs.Damage.{IsDamage}
use Rattle.fault_defs.specs.declared.Refusal.{Refusal}
use Rattle.fault_defs.specs.declared.Sort.{Sort}
use Rattle.fault_defs.specs.declared.Sort.TheVariants.{ForkExtent, ForkSum}
use Rattle.hfs_defs.specs.declared.forks.Extent.{Extent}
use Rattle.hfs_defs.specs.declared.forks.Fork.{Fork}
use Rattle.hfs_defs.specs.declared.forks.OverflowRecord.{OverflowRecord}
use Rattle.hfs_defs.specs.declared.header.Header.{Header}

-- the extents of overflow records
abbrev pub extents_in : List OverflowRecord → List Extent
extents_in records = flat_map (λ overflow. overflow.extents) records

-- the clauses of a fork that are false, and where
pub data IsFalseInFork (header : Header) (records : List OverflowRecord) (fork : Fork) (place : ℕ) : Sort → ℕ → Type 0 where
  PassesVolume : (front : List (Extent × ℕ)) (extent : Extent) (at : ℕ) (behind : List (Extent × ℕ)) → written_extents records fork place ≡ front ++ (extent, at) ∷ behind
      → 0 < extent.count → header.total_blocks < extent.start + extent.count → IsFalseInFork header records fork place ForkExtent at
  BeginsElsewhere : (front : List OverflowRecord) (next : OverflowRecord) (behind : List OverflowRecord) → records ≡ front ++ next ∷ behind
      → (next.start ≡ blocks_in fork.extents + blocks_in (extents_in front) → ⊥) → IsFalseInFork header records fork place ForkSum place
  HasOtherSum : (blocks_in (extents_with records fork) ≡ fork.total_blocks → ⊥) → IsFalseInFork header records fork place ForkSum place
  HasMoreBytes : fork.total_blocks * header.block_size < fork.logical_size → IsFalseInFork header records fork place ForkSum place

-- a fault of a fork is a clause that is false at its place, and a fork without one has no false clause
pub record ForkDamageIsTrue (header : Header) (records : List OverflowRecord) (fork : Fork) (place : ℕ) : Type 0 where
  pub stops : (fault : Refusal) → fork_fault header records fork place ≡ Some fault → IsDamage (IsFalseInFork header records fork place) fault
  pub passes_all : (sort : Sort) (at : ℕ) → fork_fault header records fork place ≡ None → IsFalseInFork header records fork place sort at → ⊥

abbrev pub ForkDamageLaw : Type 0
ForkDamageLaw = (header : Header) (records : List OverflowRecord) (fork : Fork) (place : ℕ) → ForkDamageIsTrue header records fork place
