-- What the inode of a number gives.
use Rattle.std.specs.Prelude.{◌≡◌, ℕ, ◌+◌, ◌*◌, ◌^◌, ◌<◌, ◌≤◌, ◌==◌, ◌&&◌, Bool, true, false, if◌then◌else◌, nat_lt, Option, Some, None, IfSome, Result, Ok, Err, List, [], ◌∷◌, ◌++◌}
use Rattle.std.proofs.Common.{ap, sym, subst, ◌∙◌, arith}
use Rattle.std.proofs.lemmas.Bool.{leb-true}
use Rattle.range_defs.specs.declared.Range.{Range}
use Rattle.bytes_defs.specs.Bytes.{part}
use Rattle.image_defs.specs.Ask.{result_of, visits}
use Rattle.image_defs.proofs.Results.{result_check_true, result_check_false, visits_check_true}
use Rattle.image_reads.specs.Steps.{ReadsAs, SameBytes}
use Rattle.image_reads.proofs.Bytes.{same_ranges, same_then}
use Rattle.fault_defs.specs.declared.Refusal.{Refusal}
use Rattle.fault_defs.specs.declared.Refusal.TheVariants.{Damaged}
use Rattle.fault_defs.specs.declared.Sort.TheVariants.{InodeNumber}
use Rattle.rx_store.specs.Answers.{Answers}
use Rattle.rx_store.specs.declared.read_fault.ReadFault.{ReadFault}
use Rattle.ufs_inode_defs.specs.Layout.{Layout, layout_1, layout_2, layout_of}
use Rattle.ufs_inode_defs.specs.Superblock.{inode_place, has_inode}
use Rattle.ufs_inode_defs.specs.Inode.{inode_of, tested_inode, inode_at, inode_named}
use Rattle.ufs_inode_defs.specs.declared.superblock.Super.{Super}
use Rattle.ufs_inode_defs.specs.declared.inode.Inode.{Inode}
use Rattle.ufs_inode.proofs.InodeTests.{tests_look_nowhere}

-- ---- no inode of the number

pub refused : (told : Option (List ℕ)) (sup : Super) (number entry : ℕ) → has_inode sup number ≡ false → IfSome told (λ image. result_of image (inode_named sup number entry) ≡ Err (Damaged InodeNumber entry))
unfolding inode_named
refused None sup number entry none = tt
refused (Some image) sup number entry none = result_check_false image (has_inode sup number) (Damaged InodeNumber entry) _ none

-- ---- an inode that stands in the volume

both_hold : (first second : Bool) → (first && second) ≡ true → second ≡ true
both_hold true second both = both
both_hold false second both = absurd cc

pub lies_inside : (sup : Super) (number : ℕ) → has_inode sup number ≡ true → inode_place sup number + (layout_of sup.version).inode_len ≤ sup.at + sup.len
unfolding has_inode
lies_inside sup number has = leb-true (inode_place sup number + (layout_of sup.version).inode_len) (sup.at + sup.len) (both_hold (nat_lt number (sup.ncg * sup.ipg)) _ has)

named_gives : (image : List ℕ) (sup : Super) (number entry : ℕ) → has_inode sup number ≡ true
    → result_of image (inode_named sup number entry) ≡ result_of image (tested_inode sup (inode_of sup (inode_place sup number) (part image (inode_place sup number) (layout_of sup.version).inode_len)))
unfolding inode_named inode_at
named_gives image sup number entry has = result_check_true image (has_inode sup number) (Damaged InodeNumber entry) _ has

pub named_told : (told : Option (List ℕ)) (sup : Super) (number entry at : ℕ) (inode : Inode) (result : Result Inode ReadFault) → has_inode sup number ≡ true → at ≡ inode_place sup number
    → IfSome told (λ image. inode ≡ inode_of sup at (part image at (layout_of sup.version).inode_len)) → ((image : List ℕ) → Answers result (result_of image (tested_inode sup inode)))
    → IfSome told (λ image. Answers result (result_of image (inode_named sup number entry)))
named_told None sup number entry at inode result has here stored answer = tt
named_told (Some image) sup number entry at inode result has here stored answer =
    let P : Result Inode Refusal → Type 0 = λ given. Answers result given in
    let is : inode ≡ inode_of sup (inode_place sup number) (part image (inode_place sup number) (layout_of sup.version).inode_len) = stored ∙ ap (λ from. inode_of sup from (part image from (layout_of sup.version).inode_len)) here in
    subst P (ap (λ found. result_of image (tested_inode sup found)) is ∙ sym (named_gives image sup number entry has)) (answer image)

-- ---- the ranges

named_visits : (image : List ℕ) (sup : Super) (number entry : ℕ) → has_inode sup number ≡ true → visits image (inode_named sup number entry) ≡ record { at = inode_place sup number; len = (layout_of sup.version).inode_len } ∷ []
unfolding inode_named inode_at
named_visits image sup number entry has =
    visits_check_true image (has_inode sup number) (Damaged InodeNumber entry) _ has
    ∙ ap (λ ranges. record { at = inode_place sup number; len = (layout_of sup.version).inode_len } ∷ ranges)
    (tests_look_nowhere sup (inode_of sup (inode_place sup number) (part image (inode_place sup number) (layout_of sup.version).inode_len)) image)

pub keeps_inode : (told : Option (List ℕ)) (sup : Super) (number entry : ℕ) (inode : Inode) (before looked : List Range) → has_inode sup number ≡ true → inode.at ≡ inode_place sup number
    → IfSome told (λ image. result_of image (inode_named sup number entry) ≡ Ok inode) → SameBytes looked (before ++ record { at = inode.at; len = (layout_of sup.version).inode_len } ∷ [])
    → ReadsAs told (inode_named sup number entry) before looked (Ok inode)
keeps_inode None sup number entry inode before looked has here gives kept = tt
keeps_inode (Some image) sup number entry inode before looked has here gives kept = record {
  given = gives;
  looks =
      same_then looked (before ++ record { at = inode.at; len = (layout_of sup.version).inode_len } ∷ []) (before ++ visits image (inode_named sup number entry)) kept
      (same_ranges (before ++ record { at = inode.at; len = (layout_of sup.version).inode_len } ∷ []) (before ++ visits image (inode_named sup number entry))
      (ap (λ from. before ++ record { at = from; len = (layout_of sup.version).inode_len } ∷ []) here ∙ ap (λ ranges. before ++ ranges) (sym (named_visits image sup number entry has))));
}

-- ---- places that fit

-- an inode has at least 128 bytes
least_inode : (first : Bool) → (let layout : Layout = if first then layout_1 else layout_2 in 128 ≤ layout.inode_len)
least_inode true = omega arith
least_inode false = omega arith

pub fields_fit : (sup : Super) (number at : ℕ) → has_inode sup number ≡ true → at ≡ inode_place sup number → sup.at + sup.len < 2 ^ 64 → at + 128 ≤ 18446744073709551615
fields_fit sup number at has here fits =
    let lies = lies_inside sup number has in
    let least = least_inode (sup.version == 1) in
    omega (arith, lies, least, here, fits)
