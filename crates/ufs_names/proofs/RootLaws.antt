-- The root, in the order of a read: its inode, and whether that is a directory.
use Rattle.std.specs.Prelude.{◌≡◌, ℕ, true, false, IsErr, IsErrAnd, Option, Result, Ok, Err, List, refl}
use Rattle.range_defs.specs.declared.Range.{Range}
use Rattle.image_defs.specs.Ask.{Done, check, ◌>>=◌}
use Rattle.image_reads.specs.Steps.{ReadsAs}
use Rattle.image_reads.proofs.Coming.{IsCome}
use Rattle.image_reads.proofs.Steps.{begins, comes_past, comes_value, comes_fault, comes_rest, comes_stop, comes_done, ends_with}
use Rattle.fault_defs.specs.declared.Refusal.TheVariants as refusal
use Rattle.fault_defs.specs.declared.Sort.TheVariants.{RootKind}
use Rattle.rx_store.specs.declared.read_fault.ReadFault.{ReadFault}
use Rattle.rx_store.specs.declared.read_fault.ReadFault.TheVariants.{Damaged}
use Rattle.ufs_inode_defs.specs.Superblock.{super_place}
use Rattle.ufs_inode_defs.specs.Inode.{is_directory, inode_named}
use Rattle.ufs_inode_defs.specs.declared.superblock.Super.{Super}
use Rattle.ufs_inode_defs.specs.declared.inode.Inode.{Inode}
use Rattle.ufs_volume_defs.specs.Names.{Walk, names_from, root_inode, volume_names}
use Rattle.ufs_names.proofs.FoundLaws.{named_as}

module _ (told : Option (List ℕ)) (sup : Super) (before looked : List Range) where
  -- the root can't be read
  pub root_stops : (place : ℕ) (result : Result Inode ReadFault) (fault : ReadFault) → IsErr result → IsErrAnd result (λ other. other ≡ fault) → place ≡ super_place sup
      → (let failed : Result Inode ReadFault = Err fault in ReadsAs told (inode_named sup 2 place) before looked failed) → ReadsAs told (root_inode sup) before looked result
  unfolding root_inode
  root_stops place result fault is passed there read =
      ends_with told (root_inode sup) before looked result fault is passed
      (comes_fault told (root_inode sup) before told (inode_named sup 2 (super_place sup)) (λ inode. check (is_directory inode) (refusal.Damaged RootKind inode.at) >>= (λ x. Done inode)) before refl
      (begins told (root_inode sup) before) fault looked looked (named_as told sup before looked 2 2 place (super_place sup) (Err fault) refl there read))

  -- its inode was read
  comes_root : (place : ℕ) (inode : Inode) → place ≡ super_place sup → (let found : Result Inode ReadFault = Ok inode in ReadsAs told (inode_named sup 2 place) before looked found)
      → IsCome told (root_inode sup) before (check (is_directory inode) (refusal.Damaged RootKind inode.at) >>= (λ x. Done inode)) looked
  unfolding root_inode
  comes_root place inode there read =
      comes_value told (root_inode sup) before told (inode_named sup 2 (super_place sup)) (λ inode. check (is_directory inode) (refusal.Damaged RootKind inode.at) >>= (λ x. Done inode)) before refl
      (begins told (root_inode sup) before) inode looked (named_as told sup before looked 2 2 place (super_place sup) (Ok inode) refl there read)

  -- it is no directory
  pub root_other : (place : ℕ) (inode : Inode) → is_directory inode ≡ false → place ≡ super_place sup → (let found : Result Inode ReadFault = Ok inode in ReadsAs told (inode_named sup 2 place) before looked found)
      → ReadsAs told (root_inode sup) before looked (Err (Damaged RootKind inode.at))
  root_other place inode other there read =
      comes_stop told (root_inode sup) before (refusal.Damaged RootKind inode.at) looked looked
      (comes_past told (root_inode sup) before (is_directory inode) (refusal.Damaged RootKind inode.at) (λ x. Done inode) looked false other (comes_root place inode there read))

  -- it is one
  pub root_found : (place : ℕ) (inode : Inode) → is_directory inode ≡ true → place ≡ super_place sup → (let found : Result Inode ReadFault = Ok inode in ReadsAs told (inode_named sup 2 place) before looked found)
      → ReadsAs told (root_inode sup) before looked (Ok inode)
  root_found place inode is there read =
      comes_done told (root_inode sup) before inode looked
      (comes_past told (root_inode sup) before (is_directory inode) (refusal.Damaged RootKind inode.at) (λ x. Done inode) looked true is (comes_root place inode there read))

  -- a volume without a root
  pub names_stop : (result : Result Walk ReadFault) (fault : ReadFault) → IsErr result → IsErrAnd result (λ other. other ≡ fault)
      → (let failed : Result Inode ReadFault = Err fault in ReadsAs told (root_inode sup) before looked failed) → ReadsAs told (volume_names sup) before looked result
  unfolding volume_names
  names_stop result fault is passed read =
      ends_with told (volume_names sup) before looked result fault is passed
      (comes_fault told (volume_names sup) before told (root_inode sup) (names_from sup) before refl (begins told (volume_names sup) before) fault looked looked read)

  -- and the names below it
  pub names_go : (later : Option (List ℕ)) (inode : Inode) (last : List Range) (result : Result Walk ReadFault) → later ≡ told → (let found : Result Inode ReadFault = Ok inode in ReadsAs told (root_inode sup) before looked found)
      → ReadsAs later (names_from sup inode) looked last result → ReadsAs told (volume_names sup) before last result
  unfolding volume_names
  names_go later inode last result same read rest =
      comes_rest told (volume_names sup) before later (names_from sup inode) looked last result same
      (comes_value told (volume_names sup) before told (root_inode sup) (names_from sup) before refl (begins told (volume_names sup) before) inode looked read) rest
