-- What an inode that is read says.
use Rattle.std.specs.Prelude.{◌≡◌, ℕ, suc, ◌+◌, ℤ, ◌==◌, Bool, true, false, not, if◌then◌else◌, Result, Ok, List, [], ◌∷◌, length, refl}
use Rattle.std.proofs.Common.{ap, subst}
use Rattle.bytes_defs.specs.declared.order.Order.{Order}
use Rattle.image_defs.specs.Ask.{Done, result_of, check}
use Rattle.image_defs.proofs.Looks.{bind_gives, check_gives}
use Rattle.fault_defs.specs.declared.Refusal.{Refusal}
use Rattle.fault_defs.specs.declared.Refusal.TheVariants.{Damaged, Unsupported}
use Rattle.fault_defs.specs.declared.Sort.TheVariants.{DeadInode, FileSize}
use Rattle.fault_defs.specs.declared.What.TheVariants.{Snapshot}
use Rattle.ufs_inode_defs.specs.Inode.{stored_inode, inode_1, inode_2, inode_of, is_snapshot, is_too_long, is_ext_too_long, size_place, ext_size_place, flags_place, sound_inode, inode_at}
use Rattle.ufs_inode_defs.specs.Stream.{pointers_from}
use Rattle.ufs_inode_defs.specs.declared.superblock.Super.{Super}
use Rattle.ufs_inode_defs.specs.declared.inode.Inode.{Inode}

-- what is tested of an inode
pub record IsSoundInode (sup : Super) (inode : Inode) : Type 0 where
  pub alive : (inode.mode == 0) ≡ false
  pub supported : is_snapshot inode ≡ false
  pub short : is_too_long sup inode ≡ false
  pub ext_short : is_ext_too_long sup inode ≡ false

not_so : (test : Bool) → not test ≡ true → test ≡ false
not_so true is = absurd cc
not_so false is = refl

passed : (image : List ℕ) (test : Bool) (fault : Refusal) (done : Unit {0}) → result_of image (check test fault) ≡ Ok done → test ≡ true
passed image true fault done is = refl
passed image false fault done is = absurd cc

pub sound_gives : (image : List ℕ) (sup : Super) (inode : Inode) (done : Unit {0}) → result_of image (sound_inode sup inode) ≡ Ok done → IsSoundInode sup inode
unfolding sound_inode
sound_gives image sup inode done gives =
    let first = check_gives image (not (inode.mode == 0)) (Damaged DeadInode inode.at) _ done gives in
    let second = check_gives image (not (is_snapshot inode)) (Unsupported Snapshot (flags_place sup inode)) _ done first.1 in
    let third = check_gives image (not (is_too_long sup inode)) (Damaged FileSize (size_place sup inode)) _ done second.1 in
    let last = passed image (not (is_ext_too_long sup inode)) (Damaged FileSize (ext_size_place inode)) done third.1 in
    record {
      alive = not_so (inode.mode == 0) first.0;
      supported = not_so (is_snapshot inode) second.0;
      short = not_so (is_too_long sup inode) third.0;
      ext_short = not_so (is_ext_too_long sup inode) last;
    }

-- an inode that is read is the one that is stored, and sound
pub record IsRead (image : List ℕ) (sup : Super) (number : ℕ) (inode : Inode) : Type 0 where
  pub is : stored_inode image sup number ≡ inode
  pub sound : IsSoundInode sup inode

same_value : {X : Type 0} (first second : X) → (let x : Result X Refusal = Ok first in let y : Result X Refusal = Ok second in x ≡ y) → first ≡ second
same_value first second same = cc

pub inode_read : (image : List ℕ) (sup : Super) (number : ℕ) (inode : Inode) → result_of image (inode_at sup number) ≡ Ok inode → IsRead image sup number inode
unfolding inode_at
inode_read image sup number inode gives =
    let stored : Inode = stored_inode image sup number in
    let first = bind_gives image (sound_inode sup stored) (λ done. Done stored) inode gives in
    let same : stored ≡ inode = same_value stored inode first.2 in
    record { is = same; sound = subst (IsSoundInode sup) same (sound_gives image sup stored first.0 first.1) }

-- ---- its pointers

-- an inode has two pointers for its extended area, twelve to blocks, and three to blocks of pointers
pub record HasRows (inode : Inode) : Type 0 where
  pub ext : length inode.ext ≡ 2
  pub direct : length inode.direct ≡ 12
  pub indirect : length inode.indirect ≡ 3

has_rows_1 : (order : Order) (at : ℕ) (bytes : List ℕ) → HasRows (inode_1 order at bytes)
unfolding inode_1
has_rows_1 order at bytes = record { ext = refl; direct = refl; indirect = refl }

has_rows_2 : (order : Order) (at : ℕ) (bytes : List ℕ) → HasRows (inode_2 order at bytes)
unfolding inode_2
has_rows_2 order at bytes = record { ext = refl; direct = refl; indirect = refl }

pub has_rows : (sup : Super) (at : ℕ) (bytes : List ℕ) → HasRows (inode_of sup at bytes)
has_rows sup at bytes = either (sup.version == 1)
  where
    either : (first : Bool) → HasRows (if first then inode_1 sup.order at bytes else inode_2 sup.order at bytes)
    either true = has_rows_1 sup.order at bytes
    either false = has_rows_2 sup.order at bytes

pub pointers_from-length : (at len : ℕ) (values : List ℤ) → length (pointers_from at len values) ≡ length values
pointers_from-length at len [] = refl
pointers_from-length at len (value ∷ values) = ap suc (pointers_from-length (at + len) len values)
