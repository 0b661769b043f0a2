-- What is kept of the inode table.
use Rattle.std.specs.Prelude.{◌≡◌, ℕ, suc, ◌+◌, ◌-◌, ◌*◌, ◌%◌, ◌≤◌, true, min, Option, None, Some, IfSome, IsErr, IsErrAnd, OnOk, Result, Ok, Err, List, [], length}
use Rattle.std.proofs.Common.{arith, ap, sym, subst, ◌∙◌}
use Rattle.std.proofs.Math.Nat.{mul-le-mul_left}
use Rattle.bytes_defs.specs.Bytes.{part}
use Rattle.piece_defs.proofs.ByteLaws.{part-disk}
use Rattle.image_defs.specs.Ask.{result_of}
use Rattle.image_reads.specs.Steps.{IsNoRefusal}
use Rattle.image_reads.proofs.Steps.{nothing_says}
use Rattle.rx_store.specs.Answers.{Answers}
use Rattle.rx_store.specs.declared.read_fault.ReadFault.{ReadFault}
use Rattle.ufs_inode_defs.specs.Layout.{layout_of}
use Rattle.ufs_inode_defs.specs.Superblock.{block_size, has_inode, inode_place, wrong_field}
use Rattle.ufs_inode_defs.specs.Inode.{inode_of, inode_named}
use Rattle.ufs_inode_defs.specs.declared.superblock.Super.{Super}
use Rattle.ufs_inode_defs.specs.declared.inode.Inode.{Inode}
use Rattle.ufs_inode.specs.Block.{HasRange, IsBlockOf}
use Rattle.ufs_inode.proofs.Sound.{has_inodes}
use Rattle.ufs_inode.proofs.Steps.{lies_inside}
use Rattle.ufs_inode.specs.declared.block.InodeBlock.{InodeBlock}

-- no bytes are those of any place
pub no_bytes : (told : Option (List ℕ)) (block : InodeBlock) → block.bytes.items ≡ [] → IsBlockOf told block
unfolding part
no_bytes None block none = tt
no_bytes (Some image) block none = none ∙ sym (ap (λ bytes. part image block.at (length bytes)) none)

-- a range among the bytes is that of the image
pub range_is : (image : List ℕ) (block : InodeBlock) (at len : ℕ) → block.bytes.items ≡ part image block.at (length block.bytes.items) → HasRange block at len
    → part block.bytes.items (at - block.at) len ≡ part image at len
range_is image block at len is has =
    let place : block.at + (at - block.at) ≡ at = omega (arith, has.begins) in
    ap (λ bytes. part bytes (at - block.at) len) is
    ∙ part-disk image block.at (length block.bytes.items) (at - block.at) len (omega (arith, has.begins, has.ends))
    ∙ ap (λ from. part image from len) place

-- an inode that the volume has stands in a block of the table
pub record InTable (sup : Super) (number at : ℕ) : Type 0 where
  pub begins : (layout_of sup.version).inode_len * (number % sup.inopb) ≤ at
  pub ends : (layout_of sup.version).inode_len * (number % sup.inopb) + (layout_of sup.version).inode_len ≤ block_size sup
  pub inside : at + (layout_of sup.version).inode_len ≤ sup.at + sup.len

pub in_table : (sup : Super) (number at : ℕ) → wrong_field sup ≡ None → has_inode sup number ≡ true → at ≡ inode_place sup number → InTable sup number at
unfolding inode_place
in_table sup number at none has is =
    let inodes = has_inodes sup none in
    let below : suc (number % sup.inopb) ≤ sup.inopb = omega (arith, inodes.in_block) in
    let most = mul-le-mul_left (layout_of sup.version).inode_len below in
    let lies = lies_inside sup number has in
    record {
      begins = omega (arith, is);
      ends = omega (arith, most, inodes.whole);
      inside = omega (arith, lies, is);
    }

-- the inode that a block holds is that of the image
pub held_is : (told : Option (List ℕ)) (sup : Super) (block : InodeBlock) (at : ℕ) (inode : Inode) → IsBlockOf told block → HasRange block at (layout_of sup.version).inode_len
    → inode ≡ inode_of sup at (part block.bytes.items (at - block.at) (layout_of sup.version).inode_len)
    → IfSome told (λ image. inode ≡ inode_of sup at (part image at (layout_of sup.version).inode_len))
held_is None sup block at inode kept has is = tt
held_is (Some image) sup block at inode kept has is = is ∙ ap (inode_of sup at) (range_is image block at (layout_of sup.version).inode_len kept has)

-- which holds it after that block of the table was read
pub has_read : {E : Type 0} (result : Result (Unit {0}) E) (block : InodeBlock) (sup : Super) (number at front len : ℕ) → InTable sup number at → front ≡ (layout_of sup.version).inode_len * (number % sup.inopb)
    → len ≡ min (block_size sup) (sup.at + sup.len - (at - front)) → OnOk result (block.at ≡ at - front) → OnOk result (length block.bytes.items ≡ len) → OnOk result (HasRange block at (layout_of sup.version).inode_len)
has_read (Err fault) block sup number at front len stands is long begins whole = tt
has_read (Ok done) block sup number at front len stands is long begins whole = record {
  begins = omega (arith, begins);
  ends = omega (arith, stands.begins, stands.ends, stands.inside, is, long, begins, whole);
}

-- memory that ran out, and a device that failed, say nothing of an inode
pub nothing_known : (told : Option (List ℕ)) (sup : Super) (number entry : ℕ) (result : Result Inode ReadFault) (fault : ReadFault) → IsErr result → IsErrAnd result (λ other. other ≡ fault) → IsNoRefusal fault
    → IfSome told (λ image. Answers result (result_of image (inode_named sup number entry)))
nothing_known None sup number entry result fault is passed none = tt
nothing_known (Some image) sup number entry (Ok inode) fault is passed none = absurd cc
nothing_known (Some image) sup number entry (Err other) fault is passed none = (nothing_says (Some image) (inode_named sup number entry) [] [] other (subst IsNoRefusal (sym passed) none)).given
