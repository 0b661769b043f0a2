-- A walk over the pointers of a stream that is under way: what holds of it over every store.
use Rattle.std.specs.Prelude.{◌≡◌, ◌⊎◌, ℕ, zero, suc, ◌+◌, ◌*◌, ◌<◌, ◌≤◌, min, ℤ, pos, negsuc, true, if◌then◌else◌, Option, Some, None, Result, Ok, Err, []}
use Rattle.range_defs.specs.Places.{IsRangeList}
use Rattle.image_defs.specs.Ask.{Ask, Done, Stop}
use Rattle.piece_defs.specs.Covering.{covers_from}
use Rattle.piece_defs.specs.Places.{AreWithin}
use Rattle.rx_tree.specs.PartPieces.{ArePlain}
use Rattle.rx_tree.specs.Within.{AreRangesWithin}
use Rattle.fault_defs.specs.declared.Refusal.{Refusal}
use Rattle.fault_defs.specs.declared.Refusal.TheVariants as refusal
use Rattle.fault_defs.specs.declared.Sort.TheVariants.{BlockPointer}
use Rattle.rx_store.specs.declared.read_fault.ReadFault.{ReadFault}
use Rattle.rx_store.specs.declared.read_fault.ReadFault.TheVariants.{Device, NoMemory, NotThis, Damaged, Unsupported, Limit}
use Rattle.ufs_inode_defs.specs.Superblock.{block_size}
use Rattle.ufs_inode_defs.specs.Stream.{Pointer, block_count}
use Rattle.ufs_inode_defs.specs.Blocks.{Laid, runs_of, most_runs, fragment_place, lies_within}
use Rattle.ufs_inode_defs.specs.declared.superblock.Super.{Super}
use Rattle.ufs_blocks.specs.Placed.{DoBlocksLieWithin}

-- the runs are within their limit; the pieces cover the blocks that were passed; they, each block and the slack lie in the
-- volume, and the slack is one range at most, behind the last block
pub record IsUnderWay (sup : Super) (size : ℕ) (laid : Laid) : Type 0 where
  pub few : runs_of laid ≤ most_runs
  pub covered : covers_from 0 (min (laid.block * block_size sup) size) laid.pieces ≡ true
  pub plain : ArePlain laid.pieces
  pub within : AreWithin (sup.at + sup.len) laid.pieces
  pub blocks_lie_within : DoBlocksLieWithin sup size laid.pieces
  pub slack_within : AreRangesWithin (sup.at + sup.len) laid.slack
  pub ended : laid.block < block_count sup size → laid.slack ≡ []
  pub kept : IsRangeList laid.slack

-- a walk went on by so many blocks, or came to the end
abbrev pub HasGone : Super → ℕ → ℕ → Laid → Laid → Type 0
HasGone sup size blocks before after = (after.block ≡ before.block + blocks) ⊎ (block_count sup size ≤ after.block)

-- where a pointer leads: nowhere, or to a place from which on so many bytes lie in the volume
abbrev pub led_to : Super → Pointer → ℕ → Result (Option ℕ) Refusal
led_to sup pointer len = by_value pointer.value
  where
    by_value : ℤ → Result (Option ℕ) Refusal
    by_value (pos zero) = Ok None
    by_value (pos (suc before)) =
        if lies_within sup (suc before) len then Ok (Some (fragment_place sup (suc before))) else Err (refusal.Damaged BlockPointer pointer.at)
    by_value (negsuc n) = Err (refusal.Damaged BlockPointer pointer.at)

-- What a step that reads nothing says of its program: it is done with the value, or stops with the refusal. Want of memory
-- says nothing.
abbrev pub Settles : {X : Type 0} → Result X ReadFault → Ask Refusal X → Type 0
Settles (Ok x) program = program ≡ Done x
Settles (Err Device) program = Unit {0}
Settles (Err NoMemory) program = Unit {0}
Settles (Err NotThis) program = program ≡ Stop refusal.NotThis
Settles (Err (Damaged sort place)) program = program ≡ Stop (refusal.Damaged sort place)
Settles (Err (Unsupported what place)) program = program ≡ Stop (refusal.Unsupported what place)
Settles (Err (Limit bound number)) program = program ≡ Stop (refusal.Limit bound number)
