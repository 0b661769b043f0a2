-- The names that the entries of a block give, in the order of a read: the bytes, the entries, and their names.
use Rattle.std.specs.Prelude.{◌≡◌, ℕ, IsErr, IsErrAnd, Option, Result, Ok, Err, List, refl}
use Rattle.std.proofs.Common.{subst}
use Rattle.range_defs.specs.declared.Range.{Range}
use Rattle.image_defs.specs.Ask.{Ask, look, given, ◌>>=◌}
use Rattle.image_reads.specs.Steps.{ReadsAs}
use Rattle.image_reads.proofs.Coming.{IsCome}
use Rattle.image_defs.specs.Through.{through}
use Rattle.image_reads.proofs.Steps.{begins, comes_value, comes_fault, comes_rest, ends_with}
use Rattle.fault_defs.specs.declared.Refusal.{Refusal}
use Rattle.rx_store.specs.Answers.{Answers}
use Rattle.rx_store.specs.declared.read_fault.ReadFault.{ReadFault}
use Rattle.ufs_inode_defs.specs.Stream.{content_len}
use Rattle.ufs_inode_defs.specs.declared.superblock.Super.{Super}
use Rattle.ufs_volume_defs.specs.Directory.{Entry, entries_of}
use Rattle.ufs_volume_defs.specs.Names.{Named, Walk, Block, block_names, entry_name, leading}
use Rattle.ufs_names.proofs.BlockLaws.{given_reads}

module _ (told : Option (List ℕ)) (sup : Super) (directory : Named) (walk : Walk) (block : Block) (before looked : List Range) (at len : ℕ) (bytes seen : List ℕ) where
  -- the entries are left
  entries_left : Ask Refusal Walk
  entries_left = given (leading block.at (entries_of sup.order bytes)) >>= (λ entries. through (entry_name sup directory block) walk entries)

  -- the bytes were read
  comes_bytes : at ≡ block.at → len ≡ content_len sup directory.inode.size block.index → ReadsAs told (look at len) before looked (Ok bytes) → IsCome told (block_names sup directory walk block) before entries_left looked
  unfolding block_names entries_left
  comes_bytes place long read =
      let P : ℕ → Type 0 = λ n. ReadsAs told (look n len) before looked (Ok bytes) in
      let Q : ℕ → Type 0 = λ n. ReadsAs told (look block.at n) before looked (Ok bytes) in
      comes_value told (block_names sup directory walk block) before told (look block.at (content_len sup directory.inode.size block.index))
      (λ bytes. given (leading block.at (entries_of sup.order bytes)) >>= (λ entries. through (entry_name sup directory block) walk entries)) before refl
      (begins told (block_names sup directory walk block) before) bytes looked (subst Q long (subst P place read))

  -- what was said of the bytes that were seen at a place
  said : (result : Result (List Entry) ReadFault) → at ≡ block.at → seen ≡ bytes → Answers result (leading at (entries_of sup.order seen)) → Answers result (leading block.at (entries_of sup.order bytes))
  said result place same says =
      let P : ℕ → Type 0 = λ n. Answers result (leading n (entries_of sup.order seen)) in
      let Q : List ℕ → Type 0 = λ list. Answers result (leading block.at (entries_of sup.order list)) in
      subst Q same (subst P place says)

  -- a record is no entry
  pub block_stops : (result : Result Walk ReadFault) (fault : ReadFault) → IsErr result → IsErrAnd result (λ other. other ≡ fault) → at ≡ block.at → len ≡ content_len sup directory.inode.size block.index → seen ≡ bytes
      → ReadsAs told (look at len) before looked (Ok bytes)
      → (let failed : Result (List Entry) ReadFault = Err fault in Answers failed (leading at (entries_of sup.order seen)))
      → ReadsAs told (block_names sup directory walk block) before looked result
  unfolding entries_left
  block_stops result fault is passed place long same read says =
      ends_with told (block_names sup directory walk block) before looked result fault is passed
      (comes_fault told (block_names sup directory walk block) before told (given (leading block.at (entries_of sup.order bytes))) (λ entries. through (entry_name sup directory block) walk entries) looked refl
      (comes_bytes place long read) fault looked looked (given_reads told looked (leading block.at (entries_of sup.order bytes)) (Err fault) (said (Err fault) place same says)))

  -- the names of the entries follow
  pub block_goes : (later : Option (List ℕ)) (entries listed : List Entry) (last : List Range) (result : Result Walk ReadFault) → later ≡ told → at ≡ block.at → len ≡ content_len sup directory.inode.size block.index → seen ≡ bytes → listed ≡ entries
      → ReadsAs told (look at len) before looked (Ok bytes)
      → (let found : Result (List Entry) ReadFault = Ok entries in Answers found (leading at (entries_of sup.order seen)))
      → ReadsAs later (through (entry_name sup directory block) walk listed) looked last result
      → ReadsAs told (block_names sup directory walk block) before last result
  unfolding entries_left
  block_goes later entries listed last result after place long same all read says rest =
      let P : List Entry → Type 0 = λ list. ReadsAs later (through (entry_name sup directory block) walk list) looked last result in
      comes_rest told (block_names sup directory walk block) before later (through (entry_name sup directory block) walk entries) looked last result after
      (comes_value told (block_names sup directory walk block) before told (given (leading block.at (entries_of sup.order bytes))) (λ entries. through (entry_name sup directory block) walk entries) looked refl
      (comes_bytes place long read) entries looked (given_reads told looked (leading block.at (entries_of sup.order bytes)) (Ok entries) (said (Ok entries) place same says)))
      (subst P all rest)
