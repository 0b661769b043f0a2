-- The second pass over a volume, group by group.
use Rattle.std.specs.Prelude.{◌≡◌, ℕ, ◌+◌, ◌*◌, ◌^◌, ◌<◌, ◌≤◌, Bool, true, false, ◌&&◌, nat_lt, nat_le, Option, Some, None, Result, Ok, Err, List, [], ◌∷◌, ◌++◌, refl}
use Rattle.std.specs.Result.{IsErr, IsErrAnd}
use Rattle.std.proofs.Common.{ap, sym, ◌∙◌, subst, arith, append_assoc}
use Rattle.std.proofs.lemmas.Bool.{leb-true}
use Rattle.range_defs.specs.declared.Range.{Range}
use Rattle.range_defs.specs.declared.TheConstants.{LONGEST_IMAGE}
use Rattle.range_defs.specs.Places.{covers}
use Rattle.image_defs.specs.Ask.{Ask, Done, visits, ◌>>=◌}
use Rattle.image_reads.specs.Steps.{ReadsAs, SameBytes, KeptWithin}
use Rattle.image_reads.proofs.Coming.{IsCome}
use Rattle.image_reads.proofs.Bytes.{same_front}
use Rattle.image_reads.proofs.Steps.{comes_value, comes_fault, comes_done, ends_with}
use Rattle.rx_store.specs.declared.read_fault.ReadFault.{ReadFault}
use Rattle.fault_defs.specs.declared.Refusal.{Refusal}
use Rattle.ufs_inode_defs.specs.Layout.{layout_of}
use Rattle.ufs_inode_defs.specs.Superblock.{inode_place, has_inode}
use Rattle.ufs_inode_defs.specs.Blocks.{most_runs}
use Rattle.ufs_inode_defs.specs.declared.superblock.Super.{Super}
use Rattle.ufs_inode_defs.specs.declared.inode.Inode.{Inode}
use Rattle.ufs_volume_defs.specs.Files.{Filed, Parted, inode_parts}
use Rattle.ufs_names.specs.Walked.{IsInodeOf}
use Rattle.ufs_files.specs.Groups.{Group}
use Rattle.ufs_files.specs.Filed.{with_group, group_file, IsGoodGroup}

-- ---- the inode of a group

both : (a b : Bool) → (a && b) ≡ true → b ≡ true
both true b is = is
both false b is = absurd cc

-- it ends in the volume
pub inode_within : (sup : Super) (number : ℕ) (inode : Inode) → IsInodeOf sup number inode → inode.at + (layout_of sup.version).inode_len ≤ sup.at + sup.len
unfolding has_inode
inode_within sup number inode of =
    let ends = leb-true (inode_place sup number + (layout_of sup.version).inode_len) (sup.at + sup.len)
    (both (nat_lt number (sup.ncg * sup.ipg)) (nat_le (inode_place sup number + (layout_of sup.version).inode_len) (sup.at + sup.len)) of.within) in
    omega (arith, ends, of.place)

pub inode_near : (sup : Super) (number : ℕ) (inode : Inode) → IsInodeOf sup number inode → sup.at + sup.len ≤ LONGEST_IMAGE → inode.at ≤ LONGEST_IMAGE
inode_near sup number inode of near = let ends = inode_within sup number inode of in omega (arith, ends, near)

-- its own range fits 64 bits
pub own_fits : (sup : Super) (group : Group) (range : Range) (inode : Inode) → IsGoodGroup sup group → sup.at + sup.len ≤ LONGEST_IMAGE → range ≡ record { at = inode.at; len = (layout_of sup.version).inode_len } → inode ≡ group.inode
    → range.at + range.len < 2 ^ 64
own_fits sup group range inode good near is opened =
    let ends = inode_within sup group.number group.inode good.inode in
    let P : Range → Type 0 = λ one. one.at + one.len < 2 ^ 64 in
    let Q : Inode → Type 0 = λ one. one.at + (layout_of sup.version).inode_len < 2 ^ 64 in
    subst P (sym is) (subst Q (sym opened) (omega (arith, ends, near)))

-- the ranges with its own end where they end
pub kept_inode : (sup : Super) (group : Group) (before pushed looked : List Range) → IsGoodGroup sup group → KeptWithin (group.inode.at + (layout_of sup.version).inode_len) before pushed
    → KeptWithin (sup.at + sup.len) pushed looked → KeptWithin (sup.at + sup.len) before looked
kept_inode sup group before pushed looked good own kept end last within =
    let ends = inode_within sup group.number group.inode good.inode in
    kept end last (own end (omega (arith, ends, last)) within)

-- ---- the program of a group

module _ (told : Option (List ℕ)) (sup : Super) (volume : ℕ) (filed : Filed) (group : Group) (before pushed : List Range) (good : IsGoodGroup sup group)
    (is : SameBytes pushed (before ++ record { at = group.inode.at; len = (layout_of sup.version).inode_len } ∷ [])) where
  -- behind the look at the inode, its parts are left
  parts_left : IsCome told (group_file sup volume filed group) before (inode_parts sup filed.runs group.inode >>= (λ parted. Done (with_group sup volume filed group parted))) pushed
  unfolding group_file
  parts_left = by_told told
    where
      rest : Ask Refusal Filed
      rest = inode_parts sup filed.runs group.inode >>= (λ parted. Done (with_group sup volume filed group parted))

      by_told : (found : Option (List ℕ)) → IsCome found (group_file sup volume filed group) before (inode_parts sup filed.runs group.inode >>= (λ parted. Done (with_group sup volume filed group parted))) pushed
      by_told None = tt
      by_told (Some image) = record {
        gives = refl;
        looks = λ byte.
            ap (λ ranges. covers ranges byte)
            (sym (append_assoc before (record { at = inode_place sup group.number; len = (layout_of sup.version).inode_len } ∷ []) (visits image rest))
            ∙ ap (λ at. (before ++ record { at = at; len = (layout_of sup.version).inode_len } ∷ []) ++ visits image rest) (sym good.inode.place))
            ∙ same_front (before ++ record { at = group.inode.at; len = (layout_of sup.version).inode_len } ∷ []) pushed (visits image rest) (λ one. sym (is one)) byte;
      }

  pub file_refused : (fault : ReadFault) (looked last : List Range) → ReadsAs told (inode_parts sup filed.runs group.inode) pushed looked (Err fault) → ReadsAs told (group_file sup volume filed group) before last (Err fault)
  file_refused fault looked last read =
      comes_fault told (group_file sup volume filed group) before told (inode_parts sup filed.runs group.inode) (λ parted. Done (with_group sup volume filed group parted)) pushed refl parts_left fault looked last read

  pub file_found : (parted : Parted) (looked : List Range) → ReadsAs told (inode_parts sup filed.runs group.inode) pushed looked (Ok parted)
      → ReadsAs told (group_file sup volume filed group) before looked (Ok (with_group sup volume filed group parted))
  file_found parted looked read =
      comes_done told (group_file sup volume filed group) before (with_group sup volume filed group parted) looked
      (comes_value told (group_file sup volume filed group) before told (inode_parts sup filed.runs group.inode) (λ parted. Done (with_group sup volume filed group parted)) pushed refl parts_left parted looked read)

-- the same in the code's words, where the files and the group were taken apart
module _ (told : Option (List ℕ)) (sup : Super) (volume : ℕ) (filed parted_from : Filed) (group : Group) (inode : Inode) (before pushed : List Range) (range : Range) (holds : parted_from ≡ filed) (opened : inode ≡ group.inode) (good : IsGoodGroup sup group)
    (range_is : range ≡ record { at = inode.at; len = (layout_of sup.version).inode_len }) (kept : SameBytes pushed (before ++ range ∷ [])) (kept_within : KeptWithin (range.at + range.len) before pushed) where
  own_is : range ≡ record { at = group.inode.at; len = (layout_of sup.version).inode_len }
  own_is = range_is ∙ ap (λ (one : Inode). record { at = one.at; len = (layout_of sup.version).inode_len }) opened

  kept_is : SameBytes pushed (before ++ record { at = group.inode.at; len = (layout_of sup.version).inode_len } ∷ [])
  kept_is = let P : Range → Type 0 = λ one. SameBytes pushed (before ++ one ∷ []) in subst P own_is kept

  of_these : (looked : List Range) (result : Result Parted ReadFault) → ReadsAs told (inode_parts sup parted_from.runs inode) pushed looked result → ReadsAs told (inode_parts sup filed.runs group.inode) pushed looked result
  of_these looked result read =
      let P : Filed → Type 0 = λ f. ReadsAs told (inode_parts sup f.runs inode) pushed looked result in
      let Q : Inode → Type 0 = λ one. ReadsAs told (inode_parts sup filed.runs one) pushed looked result in
      subst Q opened (subst P holds read)

  pub step_refused : (fault : ReadFault) (looked last : List Range) (result : Result Filed ReadFault) → IsErr result → IsErrAnd result (λ other. other ≡ fault)
      → ReadsAs told (inode_parts sup parted_from.runs inode) pushed looked (Err fault) → ReadsAs told (group_file sup volume filed group) before last result
  step_refused fault looked last result is passed read =
      ends_with told (group_file sup volume filed group) before last result fault is passed
      (file_refused told sup volume filed group before pushed good kept_is fault looked last (of_these looked (Err fault) read))

  pub step_found : (parted : Parted) (after : Filed) (looked : List Range) → ReadsAs told (inode_parts sup parted_from.runs inode) pushed looked (Ok parted) → after ≡ with_group sup volume filed group parted
      → ReadsAs told (group_file sup volume filed group) before looked (Ok after)
  step_found parted after looked read is =
      let P : Filed → Type 0 = λ f. ReadsAs told (group_file sup volume filed group) before looked (Ok f) in
      subst P (sym is) (file_found told sup volume filed group before pushed good kept_is parted looked (of_these looked (Ok parted) read))

  pub step_kept : (looked : List Range) → KeptWithin (sup.at + sup.len) pushed looked → KeptWithin (sup.at + sup.len) before looked
  step_kept looked within =
      let P : Range → Type 0 = λ one. KeptWithin (one.at + one.len) before pushed in
      kept_inode sup group before pushed looked good (subst P own_is kept_within) within

pub none_few : (filed : Filed) → filed ≡ record { files = []; runs = 0 } → filed.runs ≤ most_runs
none_few filed none = let P : Filed → Type 0 = λ f. f.runs ≤ most_runs in subst P (sym none) (omega arith)
