-- The names that the entries of a directory give, in the order of a read: its size, its blocks, and their names.
use Rattle.std.specs.Prelude.{◌≡◌, ◌≢◌, ℕ, ◌+◌, ◌%◌, ◌≤◌, true, false, ◌==◌, IsErr, IsErrAnd, Option, Result, Ok, Err, List, refl}
use Rattle.std.proofs.Common.{arith, ap, sym, subst, ◌∙◌}
use Rattle.std.proofs.lemmas.Bool.Decides.{nat_tests}
use Rattle.range_defs.specs.declared.Range.{Range}
use Rattle.range_defs.specs.declared.TheConstants.{LONGEST_IMAGE}
use Rattle.rx_ranges.specs.declared.pieces.Piece.{Piece}
use Rattle.image_defs.specs.Ask.{Ask, ◌>>=◌}
use Rattle.image_reads.specs.Steps.{ReadsAs}
use Rattle.image_reads.proofs.Coming.{IsCome}
use Rattle.image_reads.proofs.Steps.{begins, comes_past, comes_value, comes_fault, comes_rest, comes_stop, ends_with}
use Rattle.fault_defs.specs.declared.Refusal.{Refusal}
use Rattle.fault_defs.specs.declared.Refusal.TheVariants as refusal
use Rattle.fault_defs.specs.declared.Sort.TheVariants.{DirSize}
use Rattle.rx_store.specs.declared.read_fault.ReadFault.{ReadFault}
use Rattle.rx_store.specs.declared.read_fault.ReadFault.TheVariants.{Damaged}
use Rattle.ufs_inode_defs.specs.Inode.{size_place}
use Rattle.ufs_inode_defs.specs.Stream.{content_stream}
use Rattle.ufs_inode_defs.specs.Blocks.{Laid, runs_of, stream_blocks}
use Rattle.ufs_inode_defs.specs.declared.superblock.Super.{Super}
use Rattle.ufs_inode_defs.specs.declared.inode.Inode.{Inode}
use Rattle.ufs_volume_defs.specs.Names.{Named, Walk, directory_names, with_runs}
use Rattle.ufs_names.specs.Walked.{IsNamed, blocks_names}
use Rattle.ufs_names.proofs.FoundLaws.{inode_inside}

-- the inode of a name stands in the longest image
pub named_stands : (sup : Super) (name : Named) (inode : Inode) → IsNamed sup name → sup.at + sup.len ≤ LONGEST_IMAGE → inode ≡ name.inode → inode.at ≤ LONGEST_IMAGE
named_stands sup name inode named near same =
    let inside = inode_inside sup name.number named.inode.within in
    omega (arith, inside, near, named.inode.place, ap (λ one. one.at) same)

module _ (told : Option (List ℕ)) (sup : Super) (walk : Walk) (directory : Named) (before : List Range) where
  -- the names of its blocks, which were found
  abbrev blocks_left : Laid → Ask Refusal Walk
  blocks_left laid = blocks_names sup directory (with_runs walk (runs_of laid)) laid.pieces

  -- the size is whole, and the blocks are left
  comes_whole : directory.inode.size % 512 ≡ 0
      → IsCome told (directory_names sup walk directory) before (stream_blocks sup (content_stream sup directory.inode) walk.runs >>= (λ laid. blocks_left laid)) before
  unfolding directory_names
  comes_whole whole =
      let is : (directory.inode.size % 512 == 0) ≡ true = grind (arith, nat_tests) in
      comes_past told (directory_names sup walk directory) before (directory.inode.size % 512 == 0) (refusal.Damaged DirSize (size_place sup directory.inode)) _ before true is
      (begins told (directory_names sup walk directory) before)

  -- the size isn't whole
  pub not_whole : (inode : Inode) (place : ℕ) (looked : List Range) → inode ≡ directory.inode → inode.size % 512 ≢ 0 → place ≡ size_place sup inode
      → ReadsAs told (directory_names sup walk directory) before looked (Err (Damaged DirSize place))
  unfolding directory_names
  not_whole inode place looked same not there =
      let size : inode.size ≡ directory.inode.size = ap (λ one. one.size) same in
      let is : (directory.inode.size % 512 == 0) ≡ false = grind (arith, nat_tests) in
      let P : ℕ → Type 0 = λ at. ReadsAs told (directory_names sup walk directory) before looked (Err (Damaged DirSize at)) in
      subst P (sym (there ∙ ap (size_place sup) same))
      (comes_stop told (directory_names sup walk directory) before (refusal.Damaged DirSize (size_place sup directory.inode)) before looked
      (comes_past told (directory_names sup walk directory) before (directory.inode.size % 512 == 0) (refusal.Damaged DirSize (size_place sup directory.inode)) _ before false is
      (begins told (directory_names sup walk directory) before)))

  module _ (inode : Inode) (runs : ℕ) (same : inode ≡ directory.inode) (counted : runs ≡ walk.runs) (whole : inode.size % 512 ≡ 0) where
    whole_size : directory.inode.size % 512 ≡ 0
    whole_size = let P : Inode → Type 0 = λ one. one.size % 512 ≡ 0 in subst P same whole

    -- the step that finds the blocks, in the words of the program
    laid_read : (looked : List Range) (result : Result Laid ReadFault) → ReadsAs told (stream_blocks sup (content_stream sup inode) runs) before looked result
        → ReadsAs told (stream_blocks sup (content_stream sup directory.inode) walk.runs) before looked result
    laid_read looked result read =
        let P : Inode → Type 0 = λ one. ReadsAs told (stream_blocks sup (content_stream sup one) runs) before looked result in
        let Q : ℕ → Type 0 = λ n. ReadsAs told (stream_blocks sup (content_stream sup directory.inode) n) before looked result in
        subst Q counted (subst P same read)

    -- a pointer leads to no block
    pub laid_stops : (looked : List Range) (result : Result Walk ReadFault) (fault : ReadFault) → IsErr result → IsErrAnd result (λ other. other ≡ fault)
        → (let failed : Result Laid ReadFault = Err fault in ReadsAs told (stream_blocks sup (content_stream sup inode) runs) before looked failed) → ReadsAs told (directory_names sup walk directory) before looked result
    laid_stops looked result fault is passed read =
        ends_with told (directory_names sup walk directory) before looked result fault is passed
        (comes_fault told (directory_names sup walk directory) before told (stream_blocks sup (content_stream sup directory.inode) walk.runs)
        (λ laid. blocks_left laid) before refl (comes_whole whole_size) fault looked looked (laid_read looked (Err fault) read))

    -- the names of the blocks follow
    pub blocks_go : (looked : List Range) (laid : Laid) (pieces : List Piece) (later : Option (List ℕ)) (after : Walk) (last : List Range) (result : Result Walk ReadFault) → pieces ≡ laid.pieces → later ≡ told → after ≡ with_runs walk (runs_of laid)
        → (let found : Result Laid ReadFault = Ok laid in ReadsAs told (stream_blocks sup (content_stream sup inode) runs) before looked found)
        → ReadsAs later (blocks_names sup directory after pieces) looked last result → ReadsAs told (directory_names sup walk directory) before last result
    blocks_go looked laid pieces later after last result cut then is read rest =
        let P : List Piece → Type 0 = λ list. ReadsAs later (blocks_names sup directory after list) looked last result in
        let Q : Walk → Type 0 = λ one. ReadsAs later (blocks_names sup directory one laid.pieces) looked last result in
        comes_rest told (directory_names sup walk directory) before later (blocks_left laid) looked last result then
        (comes_value told (directory_names sup walk directory) before told (stream_blocks sup (content_stream sup directory.inode) walk.runs) (λ laid. blocks_left laid) before refl (comes_whole whole_size) laid looked
        (laid_read looked (Ok laid) read)) (subst Q is (subst P cut rest))
