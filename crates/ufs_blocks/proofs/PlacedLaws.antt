-- The parts of an inode are its streams.
use Rattle.std.specs.Prelude.{◌≡◌, ℕ, true, false, Option, Some, None, IfSome, Result, Ok, Err, IfOk, List, [], ◌∷◌, ◌++◌, refl}
use Rattle.std.proofs.Common.{sym, subst}
use Rattle.rx_tree.specs.PartValue.{PartValue}
use Rattle.rx_store.specs.declared.read_fault.ReadFault.{ReadFault}
use Rattle.ufs_inode_defs.specs.BlockPlace.{AreStreamPieces, slack_of}
use Rattle.ufs_inode_defs.specs.Stream.{content_stream, extended_stream}
use Rattle.ufs_inode_defs.specs.Blocks.{Laid}
use Rattle.ufs_inode_defs.specs.declared.superblock.Super.{Super}
use Rattle.ufs_inode_defs.specs.declared.inode.Inode.{Inode}
use Rattle.ufs_volume_defs.specs.Files.{Section, Parted, sections_of, content_section, extended_section}
use Rattle.ufs_blocks.specs.Placed.{IsPartOf, ArePartsOf, AreExtendedBy}
use Rattle.ufs_blocks.specs.Sections.{has_content, has_extended, extended_list}
use Rattle.ufs_blocks.proofs.PartLaws.{sections_none, sections_some}

-- what was found of a stream, as a part
abbrev pub found_part : Section → ℕ → Laid → PartValue
found_part section size laid = record { role = section.role; name = section.name; size = size; pieces = laid.pieces; slack = laid.slack; unreadable = false }

part_is : (image : List ℕ) (sup : Super) (section : Section) (size : ℕ) (laid : Laid) → size ≡ section.stream.size → AreStreamPieces image sup section.stream laid.pieces → laid.slack ≡ slack_of image sup section.stream
    → IsPartOf image sup section (found_part section size laid)
part_is image sup section size laid long placed behind = record { role = refl; name = refl; size = long; placed = placed; behind = behind }

one_more : (image : List ℕ) (sup : Super) (first : List Section) (section : Section) (before : List PartValue) (part : PartValue) → ArePartsOf image sup first before → IsPartOf image sup section part
    → ArePartsOf image sup (first ++ section ∷ []) (before ++ part ∷ [])
one_more image sup [] section [] part are is = (is, tt)
one_more image sup [] section (other ∷ parts) part are is = absurd are
one_more image sup (other ∷ first) section [] part are is = absurd are
one_more image sup (other ∷ first) section (head ∷ parts) part are is = (are.0, one_more image sup first section parts part are.1 is)

-- ---- the extended area

pub is_extended : (sup : Super) (inode : Inode) (before after : List PartValue) (size : ℕ) (laid : Laid) → has_extended inode ≡ true → size ≡ inode.extsize
    → ((image : List ℕ) → AreStreamPieces image sup (extended_stream inode) laid.pieces × (laid.slack ≡ slack_of image sup (extended_stream inode)))
    → after ≡ before ++ found_part (extended_section inode) size laid ∷ [] → AreExtendedBy sup (extended_list inode) before after
is_extended sup inode before after size laid some long placed more image first are =
    let P : List PartValue → Type 0 = ArePartsOf image sup (first ++ extended_section inode ∷ []) in
    let S : List Section → Type 0 = λ sections. ArePartsOf image sup (first ++ sections) after in
    let list : extended_list inode ≡ extended_section inode ∷ [] = rw some refl in
    let found = part_is image sup (extended_section inode) size laid long (placed image).0 (placed image).1 in
    subst S (sym list) (subst P (sym more) (one_more image sup first (extended_section inode) before _ are found))

-- ---- all parts

module _ (told : Option (List ℕ)) (sup : Super) (inode : Inode) (before : List PartValue) (result : Result Parted ReadFault) (extends : IfOk result (λ after. AreExtendedBy sup (extended_list inode) before after.parts)) where
  placed_as : (sections : List Section) → sections_of sup inode ≡ sections ++ extended_list inode → IfSome told (λ image. ArePartsOf image sup sections before)
      → IfOk result (λ after. IfSome told (λ image. ArePartsOf image sup (sections_of sup inode) after.parts))
  placed_as sections same are = by_both result told extends are
    where
      by_both : (answer : Result Parted ReadFault) (found : Option (List ℕ)) → IfOk answer (λ after. AreExtendedBy sup (extended_list inode) before after.parts) → IfSome found (λ image. ArePartsOf image sup sections before)
          → IfOk answer (λ after. IfSome found (λ image. ArePartsOf image sup (sections_of sup inode) after.parts))
      by_both (Err fault) found extends are = tt
      by_both (Ok after) None extends are = tt
      by_both (Ok after) (Some image) extends are = let S : List Section → Type 0 = λ all. ArePartsOf image sup all after.parts in subst S (sym same) (extends image sections are)

  pub bare_placed : has_content sup inode ≡ false → before ≡ [] → IfOk result (λ after. IfSome told (λ image. ArePartsOf image sup (sections_of sup inode) after.parts))
  bare_placed bare none = placed_as [] (sections_none sup inode bare) (by_told told)
    where
      by_told : (found : Option (List ℕ)) → IfSome found (λ image. ArePartsOf image sup [] before)
      by_told None = tt
      by_told (Some image) = let B : List PartValue → Type 0 = ArePartsOf image sup [] in subst B (sym none) tt

  pub filled_placed : has_content sup inode ≡ true → (size : ℕ) (laid : Laid) → size ≡ inode.size → before ≡ found_part (content_section sup inode) size laid ∷ []
      → IfSome told (λ image. AreStreamPieces image sup (content_stream sup inode) laid.pieces) → IfSome told (λ image. laid.slack ≡ slack_of image sup (content_stream sup inode))
      → IfOk result (λ after. IfSome told (λ image. ArePartsOf image sup (sections_of sup inode) after.parts))
  filled_placed some size laid long one placed behind = placed_as (content_section sup inode ∷ []) (sections_some sup inode some) (by_told told placed behind)
    where
      by_told : (found : Option (List ℕ)) → IfSome found (λ image. AreStreamPieces image sup (content_stream sup inode) laid.pieces) → IfSome found (λ image. laid.slack ≡ slack_of image sup (content_stream sup inode))
          → IfSome found (λ image. ArePartsOf image sup (content_section sup inode ∷ []) before)
      by_told None placed behind = tt
      by_told (Some image) placed behind =
          let B : List PartValue → Type 0 = ArePartsOf image sup (content_section sup inode ∷ []) in
          subst B (sym one) (part_is image sup (content_section sup inode) size laid long placed behind, tt)
