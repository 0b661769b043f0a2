-- What is found of an inode in an image that isn't too long.
use Rattle.std.specs.Prelude.{◌≡◌, ℕ, ◌+◌, ◌≤◌, nat_le, Option, Some, None, IfSome, Result, Ok, All, List, [], ◌++◌, length}
use Rattle.std.proofs.Common.{ap, sym, ◌∙◌, subst, arith}
use Rattle.std.proofs.lemmas.Bool.{le-leb}
use Rattle.std.proofs.lemmas.List.Elements.{All-nil}
use Rattle.range_defs.specs.declared.Range.{Range}
use Rattle.range_defs.specs.declared.TheConstants.{LONGEST_IMAGE}
use Rattle.range_defs.specs.Places.{covers, IsRangeList, longest_ranges}
use Rattle.range_defs.proofs.RangeLaws.{covers-past, ends_where_covered, same_as_longest_ranges}
use Rattle.image_defs.specs.Ask.{visits}
use Rattle.image_defs.specs.Results.{with_value}
use Rattle.image_defs.proofs.Results.{result_check_true}
use Rattle.image_reads.specs.Steps.{ReadsAs, KeptWithin, SameBytes}
use Rattle.fault_defs.specs.declared.Refusal.TheVariants.{Limit}
use Rattle.fault_defs.specs.declared.Bound.TheVariants.{Image}
use Rattle.rx_tree.specs.PartValue.{PartValue}
use Rattle.rx_store.specs.Answers.{Answers}
use Rattle.rx_store.specs.declared.read_fault.ReadFault.{ReadFault}
use Rattle.ufs_inode_defs.specs.declared.superblock.Super.{Super}
use Rattle.ufs_inode_defs.specs.declared.inode.Inode.{Inode}
use Rattle.ufs_volume_defs.specs.Files.{Parted, inode_parts}
use Rattle.ufs_blocks.specs.Found.{FoundBlocks, found_in, blocks_found}

pub blocks_told : (told later : Option (List ℕ)) (sup : Super) (inode : Inode) (size end : ℕ) (none looked : List Range) (parted : Parted) (parts : List PartValue) (list : List Range) → later ≡ told → IfSome told (λ image. length image ≡ size) → size ≤ LONGEST_IMAGE
    → end ≤ size → none ≡ [] → ReadsAs later (inode_parts sup 0 inode) none looked (Ok parted) → KeptWithin end none looked → IsRangeList list → ((byte : ℕ) → covers list byte ≡ covers looked byte) → parts ≡ parted.parts
    → IfSome told (λ image. let found : Result FoundBlocks ReadFault = Ok (record { parts = parts; indirect = list }) in Answers found (blocks_found image sup inode))
blocks_told told later sup inode size end none looked parted parts list same sized short inside is_none read kept canonical covered is_parts =
    let P : Option (List ℕ) → Type 0 = λ found. ReadsAs found (inode_parts sup 0 inode) none looked (Ok parted) in
    by_told told sized (subst P same read)
  where
    by_told : (found : Option (List ℕ)) → IfSome found (λ image. length image ≡ size) → ReadsAs found (inode_parts sup 0 inode) none looked (Ok parted)
        → IfSome found (λ image. let answer : Result FoundBlocks ReadFault = Ok (record { parts = parts; indirect = list }) in Answers answer (blocks_found image sup inode))
    by_told None sized read = tt
    by_told (Some image) sized read =
        let looks : SameBytes looked (visits image (inode_parts sup 0 inode)) = let N : List Range → Type 0 = λ ranges. SameBytes looked (ranges ++ visits image (inode_parts sup 0 inode)) in subst N is_none read.looks in
        let ends = kept size inside (let E : List Range → Type 0 = λ ranges. All (λ range. range.at + range.len ≤ size) ranges in subst E (sym is_none) (All-nil _)) in
        let indirect : list ≡ longest_ranges (covers (visits image (inode_parts sup 0 inode))) 0 size =
        same_as_longest_ranges (covers (visits image (inode_parts sup 0 inode))) size list canonical (λ byte. covered byte ∙ looks byte) (ends_where_covered list size canonical (λ byte past. covered byte ∙ covers-past size byte looked ends past)) in
        ap (with_value (found_in image sup inode))
        (result_check_true image (nat_le (length image) LONGEST_IMAGE) (Limit Image LONGEST_IMAGE) (λ done. inode_parts sup 0 inode) (le-leb (length image) LONGEST_IMAGE (omega (arith, sized, short))) ∙ read.given)
        ∙ ap (λ one. Ok (record { parts = one; indirect = longest_ranges (covers (visits image (inode_parts sup 0 inode))) 0 (length image) })) (sym is_parts)
        ∙ ap (λ n. Ok (record { parts = parts; indirect = longest_ranges (covers (visits image (inode_parts sup 0 inode))) 0 n })) sized
        ∙ ap (λ ranges. Ok (record { parts = parts; indirect = ranges })) (sym indirect)
