-- The guard of a volume that is read has the bytes that it should, and no others.
use Rattle.std.specs.Prelude.{◌≡◌, ℕ, ◌+◌, ◌-◌, ◌<◌, ◌≤◌, min, nat_le, true, Option, None, Result, Ok, List, [], ◌∷◌, length, refl}
use Rattle.std.specs.List.{All}
use Rattle.std.proofs.Common.{ap, sym, ◌∙◌, subst, arith, ⊎_elim}
use Rattle.std.proofs.lemmas.Bool.{or_cases}
use Rattle.std.proofs.lemmas.Bool.Decides.{nat_tests}
use Rattle.std.proofs.lemmas.List.Elements.{All-head, All-tail, All-contains}
use Rattle.range_defs.specs.declared.Range.{Range}
use Rattle.range_defs.specs.declared.TheConstants.{LONGEST_IMAGE}
use Rattle.range_defs.specs.Places.{in_range, covers, longest_ranges}
use Rattle.range_defs.proofs.RangeLaws.{longest_ranges_covers}
use Rattle.bytes_defs.specs.declared.order.Order.{Order}
use Rattle.image_defs.specs.Ask.{Ask, Done, Stop, result_of, visits, check, look, given, ◌>>=◌, ◌>>◌}
use Rattle.image_defs.specs.ViaLaws.{LiesIn}
use Rattle.image_defs.proofs.Looks.{bind_gives, check_gives}
use Rattle.fault_defs.specs.declared.Refusal.{Refusal}
use Rattle.fault_defs.specs.declared.Refusal.TheVariants.{NotThis, Limit}
use Rattle.fault_defs.specs.declared.Bound.TheVariants.{Image}
use Rattle.ufs_inode_defs.specs.Layout.{layout_1, layout_2, layout_of}
use Rattle.ufs_inode_defs.specs.Superblock.{superblock_of, wrong_field, super_place, magic_order, checked_super, super_in, super_or, super_of_1, super_of_2, volume_super}
use Rattle.ufs_inode_defs.specs.Inode.{is_directory, inode_at}
use Rattle.ufs_inode_defs.specs.Stream.{content_len}
use Rattle.ufs_inode_defs.specs.declared.superblock.Super.{Super}
use Rattle.ufs_inode_defs.specs.declared.inode.Inode.{Inode}
use Rattle.ufs_volume_defs.specs.Names.{Named, Walk, names_directory, directory_names, volume_names}
use Rattle.ufs_volume_defs.specs.Files.{Filed, named_files}
use Rattle.ufs_volume_defs.specs.Volume.{FoundVolume, files_below, volume_at, guard_of}
use Rattle.ufs_damage_defs.specs.Damage.{order_of_1, HasMagic, First, Second, stored_super, HasSuper, HasBlock}
use Rattle.ufs_damage_defs.proofs.Walks.{same_value, not_both}
use Rattle.ufs_damage_defs.proofs.Seen.{IsWithin, within_first, within_next, within_check, within_behind, within_look, IsStepOf}
use Rattle.ufs_damage_defs.proofs.SuperDamage.{says_other, magics, super_read, super_sound}
use Rattle.ufs_damage_defs.proofs.NameClosure.{HasAllNames, all_names}
use Rattle.ufs_damage_defs.proofs.Accepted.{number_is, walked_as}
use Rattle.ufs_guard_defs.specs.Guard.{IsProbe, Ntfs, NtfsMark, Hfs, Ufs1, IsIn, IsGuarded, Probed, InSuper, InInode, InDirectory, InPointers, UfsGuardLaw}
use Rattle.ufs_guard_defs.proofs.VolumeLooks.{volume_looks}
use Rattle.ufs_guard_defs.proofs.GuardSeen.{names_walked, block_seen, inode_seen, row_seen}

-- ---- the superblock and what stands in front are looked at

module _ (orders : List Order) (image : List ℕ) (volume : Range) (ranges : List Range) (within : IsWithin image ranges (volume_super orders volume)) where
  abbrev Seen : ℕ → ℕ → Type 0
  Seen at len = (byte : ℕ) → volume.at + at ≤ byte → byte < volume.at + at + min len (volume.len - at) → covers ranges byte ≡ true

  probe_seen : (at len : ℕ) → IsProbe at len → (byte : ℕ) → IsIn (volume.at + at) (min len (volume.len - at)) byte → covers ranges byte ≡ true
  unfolding volume_super super_of_1
  probe_seen at len probe byte inside =
      let third : List ℕ → Ask Refusal Super = λ x. super_of_1 orders volume in
      let second : List ℕ → Ask Refusal Super = λ x. look (volume.at + 1024) (min 4 (volume.len - 1024)) >>= third in
      let first : List ℕ → Ask Refusal Super = λ x. look (volume.at + 510) (min 2 (volume.len - 510)) >>= second in
      let w1 = within_behind image ranges (volume.at + 3) (min 8 (volume.len - 3)) first within in
      let w2 = within_behind image ranges (volume.at + 510) (min 2 (volume.len - 510)) second w1 in
      let w3 = within_behind image ranges (volume.at + 1024) (min 4 (volume.len - 1024)) third w2 in
      by_probe at len probe byte inside
      (within_look image ranges (volume.at + 3) (min 8 (volume.len - 3)) first within)
      (within_look image ranges (volume.at + 510) (min 2 (volume.len - 510)) second w1)
      (within_look image ranges (volume.at + 1024) (min 4 (volume.len - 1024)) third w2)
      (within_look image ranges (volume.at + 9564) (min 4 (volume.len - 9564)) (λ bytes. super_or volume 1 (magic_order layout_1 orders bytes) (super_of_2 orders volume)) w3)
    where
      by_probe : (at len : ℕ) → IsProbe at len → (byte : ℕ) → IsIn (volume.at + at) (min len (volume.len - at)) byte → Seen 3 8 → Seen 510 2 → Seen 1024 4 → Seen 9564 4 → covers ranges byte ≡ true
      by_probe at len Ntfs byte inside a b c d = a byte inside.0 inside.1
      by_probe at len NtfsMark byte inside a b c d = b byte inside.0 inside.1
      by_probe at len Hfs byte inside a b c d = c byte inside.0 inside.1
      by_probe at len Ufs1 byte inside a b c d = d byte inside.0 inside.1

  super_at : (version : ℕ) (order : Order) → super_place (stored_super image volume version order) ≡ volume.at + (layout_of version).superblock_at
  unfolding superblock_of
  super_at version order = refl

  super_seen : (version : ℕ) (order : Order) → HasMagic orders image volume version order → (byte : ℕ) → IsIn (super_place (stored_super image volume version order)) 1376 byte → covers ranges byte ≡ true
  unfolding volume_super super_of_1 super_of_2 super_in
  super_seen version order magic byte inside =
      let third : List ℕ → Ask Refusal Super = λ x. super_of_1 orders volume in
      let second : List ℕ → Ask Refusal Super = λ x. look (volume.at + 1024) (min 4 (volume.len - 1024)) >>= third in
      let first : List ℕ → Ask Refusal Super = λ x. look (volume.at + 510) (min 2 (volume.len - 510)) >>= second in
      let w1 = within_behind image ranges (volume.at + 3) (min 8 (volume.len - 3)) first within in
      let w2 = within_behind image ranges (volume.at + 510) (min 2 (volume.len - 510)) second w1 in
      let w3 = within_behind image ranges (volume.at + 1024) (min 4 (volume.len - 1024)) third w2 in
      let w4 = within_behind image ranges (volume.at + 9564) (min 4 (volume.len - 9564)) (λ bytes. super_or volume 1 (magic_order layout_1 orders bytes) (super_of_2 orders volume)) w3 in
      by_magic version order magic (subst (λ at. IsIn at 1376 byte) (super_at version order) inside) w4
    where
      of_version : (version : ℕ) (order : Order) → IsIn (volume.at + (layout_of version).superblock_at) 1376 byte → IsWithin image ranges (super_in volume version order) → covers ranges byte ≡ true
      of_version version order inside here =
          within_look image ranges (volume.at + (layout_of version).superblock_at) 1376 (λ bytes. given (checked_super (superblock_of volume version order bytes) (wrong_field (superblock_of volume version order bytes)))) here byte inside.0 inside.1

      by_magic : (version : ℕ) (order : Order) → HasMagic orders image volume version order → IsIn (volume.at + (layout_of version).superblock_at) 1376 byte
          → IsWithin image ranges (super_or volume 1 (order_of_1 orders image volume) (super_of_2 orders volume)) → covers ranges byte ≡ true
      by_magic version order (First o is) inside here =
          let P : Option Order → Type 0 = λ found. IsWithin image ranges (super_or volume 1 found (super_of_2 orders volume)) in
          of_version 1 order inside (subst P is here)
      by_magic version order (Second o none is) inside here =
          let P : Option Order → Type 0 = λ found. IsWithin image ranges (super_or volume 1 found (super_of_2 orders volume)) in
          let S : Option Order → Type 0 = λ found. IsWithin image ranges (super_or volume 2 found (Stop NotThis)) in
          let behind = within_behind image ranges (volume.at + 66908) (min 4 (volume.len - 66908)) (λ bytes. super_or volume 2 (magic_order layout_2 orders bytes) (Stop NotThis)) (subst P none here) in
          of_version 2 order inside (subst S is behind)

-- ---- the guard

-- what ranges that lie in a set cover is of the set
covered_lies : (Q : ℕ → Type 0) (ranges : List Range) (byte : ℕ) → All (LiesIn Q) ranges → covers ranges byte ≡ true → Q byte
covered_lies Q [] byte lie covered = absurd cc
covered_lies Q (range ∷ ranges) byte lie covered =
    ⊎_elim
    (λ first. All-head (LiesIn Q) range ranges lie byte (from range byte first) (before range byte first))
    (λ rest. covered_lies Q ranges byte (All-tail (LiesIn Q) range ranges lie) rest)
    (or_cases (in_range range byte) (covers ranges byte) covered)
  where
    from : (range : Range) (byte : ℕ) → in_range range byte ≡ true → range.at ≤ byte
    from range byte inside = grind (arith, nat_tests)

    before : (range : Range) (byte : ℕ) → in_range range byte ≡ true → byte < range.at + range.len
    before range byte inside = grind (arith, nat_tests)

-- a volume that was read, and the parts of the walk
record IsRead (orders : List Order) (image : List ℕ) (volume : Range) (number : ℕ) (found : FoundVolume) : Type 0 where
  has : HasSuper orders image volume found.superblock
  walk : Walk
  names : result_of image (volume_names found.superblock) ≡ Ok walk
  filed : Filed
  files : result_of image (named_files found.superblock number walk.names) ≡ Ok filed
  super_within : IsWithin image (visits image (volume_at orders (length image) volume number)) (volume_super orders volume)
  names_within : IsWithin image (visits image (volume_at orders (length image) volume number)) (volume_names found.superblock)
  files_within : IsWithin image (visits image (volume_at orders (length image) volume number)) (named_files found.superblock number walk.names)

module _ (orders : List Order) (image : List ℕ) (volume : Range) (number : ℕ) (found : FoundVolume) where
  abbrev Looked : List Range
  Looked = visits image (volume_at orders (length image) volume number)

  same_super : (sup : Super) (filed : Filed) → (let r : Result FoundVolume Refusal = Ok (record { superblock = sup; files = filed.files }) in r ≡ Ok found) → sup ≡ found.superblock
  same_super sup filed is = ap (λ f. f.superblock) (same_value {E = Refusal} (record { superblock = sup; files = filed.files }) found is)

  below_read : (sup : Super) → HasSuper orders image volume sup → IsWithin image Looked (volume_super orders volume) → result_of image (files_below sup number) ≡ Ok found → IsWithin image Looked (files_below sup number)
      → IsRead orders image volume number found
  unfolding files_below
  below_read sup has super_within gives within =
      let done : Filed → Ask Refusal FoundVolume = λ filed. Done (record { superblock = sup; files = filed.files }) in
      let next : Walk → Ask Refusal FoundVolume = λ walk. named_files sup number walk.names >>= done in
      let walk = bind_gives image (volume_names sup) next found gives in
      let filed = bind_gives image (named_files sup number walk.0.names) done found walk.2 in
      let behind = within_next image Looked (volume_names sup) next walk.0 walk.1 within in
      let P : Super → Type 0 = λ s.
      HasSuper orders image volume s × (result_of image (volume_names s) ≡ Ok walk.0) × (result_of image (named_files s number walk.0.names) ≡ Ok filed.0)
      × IsWithin image Looked (volume_names s) × IsWithin image Looked (named_files s number walk.0.names) in
      let all = subst P (same_super sup filed.0 filed.2)
      (has, walk.1, filed.1, within_first image Looked (volume_names sup) next walk.0 walk.1 within, within_first image Looked (named_files sup number walk.0.names) done filed.0 filed.1 behind) in
      record {
        has = all.0;
        walk = walk.0;
        names = all.1;
        filed = filed.0;
        files = all.2;
        super_within = super_within;
        names_within = all.3;
        files_within = all.4;
      }

  opened : (ranges : List Range) → ranges ≡ Looked → result_of image (volume_at orders (length image) volume number) ≡ Ok found → IsWithin image ranges (volume_at orders (length image) volume number) → IsRead orders image volume number found
  unfolding volume_at
  opened ranges same is within =
      let next : Super → Ask Refusal FoundVolume = λ sup. check (nat_le (length image) LONGEST_IMAGE) (Limit Image LONGEST_IMAGE) >> files_below sup number in
      let sup = bind_gives image (volume_super orders volume) next found is in
      let short = check_gives image (nat_le (length image) LONGEST_IMAGE) (Limit Image LONGEST_IMAGE) (λ short. files_below sup.0 number) found sup.2 in
      let S : List Range → Type 0 = λ list. IsWithin image list (volume_super orders volume) in
      let F : List Range → Type 0 = λ list. IsWithin image list (files_below sup.0 number) in
      below_read sup.0 sup.1 (subst S same (within_first image ranges (volume_super orders volume) next sup.0 sup.1 within)) short.1
      (subst F same (within_check image ranges (nat_le (length image) LONGEST_IMAGE) (Limit Image LONGEST_IMAGE) (λ short. files_below sup.0 number) short.0 (within_next image ranges (volume_super orders volume) next sup.0 sup.1 within)))

  is_read : result_of image (volume_at orders (length image) volume number) ≡ Ok found → IsRead orders image volume number found
  is_read is = opened Looked refl is (λ byte covered. covered)

  module _ (read : IsRead orders image volume number found) where
    sound : wrong_field found.superblock ≡ None
    sound = super_sound orders image volume found.superblock read.has

    all : HasAllNames image found.superblock number sound read.walk
    all = all_names image found.superblock number sound read.walk read.names

    -- each byte of the guard is looked at
    guarded_seen : (version : ℕ) (order : Order) → HasMagic orders image volume version order → (byte : ℕ) → IsGuarded image volume found.superblock byte → covers Looked byte ≡ true
    guarded_seen version order magic byte (Probed at len probe inside) = probe_seen orders image volume Looked read.super_within at len probe byte inside
    guarded_seen version order magic byte (InSuper inside) =
        let stored = (super_read orders image volume version order found.superblock magic read.has).1 in
        super_seen orders image volume Looked read.super_within version order magic byte (subst (λ sup. IsIn (super_place sup) 1376 byte) (sym stored) inside)
    guarded_seen version order magic byte (InInode one place depth path reached inside) =
        inode_seen image found.superblock number Looked read.walk.names read.filed read.files read.files_within one
        (number_is image found.superblock number sound read.walk read.filed read.names read.files all one place depth path reached) byte inside
    guarded_seen version order magic byte (InDirectory one index at inode has good there inside) =
        let walked = walked_as image found.superblock number sound read.walk read.filed read.names read.files all one inode has.has.place has.has.depth has.has.path has.has.reached has.has.is good.directory in
        let D : Inode → Type 0 = λ i. is_directory i ≡ true in
        let steps = names_walked image found.superblock Looked read.walk read.names read.names_within in
        let step = All-contains (λ (name : Named). names_directory name ≡ true → IsStepOf image Looked (directory_names found.superblock) name) read.walk.names walked.name steps walked.among (subst D (sym walked.inode_is) good.directory) in
        let R : ℕ → Type 0 = λ n. result_of image (inode_at found.superblock n) ≡ Ok inode in
        let I : Inode → Type 0 = λ i. result_of image (inode_at found.superblock walked.name.number) ≡ Ok i in
        let B : Inode → Type 0 = λ i. HasBlock image found.superblock i index at in
        let L : Inode → Type 0 = λ i. IsIn at (content_len found.superblock i.size index) byte in
        block_seen image found.superblock Looked sound walked.name (subst I (sym walked.inode_is) (subst R (sym walked.is) has.read)) step index at (subst B (sym walked.inode_is) there) byte (subst L (sym walked.inode_is) inside)
    guarded_seen version order magic byte (InPointers one level first fragment inode section pointer has among used leads inside) =
        row_seen image found.superblock number Looked read.walk.names read.filed read.files read.files_within one level first fragment inode section pointer sound
        (number_is image found.superblock number sound read.walk read.filed read.names read.files all one has.has.place has.has.depth has.has.path has.has.reached) has.read among used leads byte inside

    -- and what is looked at is in the guard
    seen_guarded : (version : ℕ) (order : Order) → HasMagic orders image volume version order → (byte : ℕ) → covers Looked byte ≡ true → IsGuarded image volume found.superblock byte
    seen_guarded version order magic byte covered =
        let stored = (super_read orders image volume version order found.superblock magic read.has).1 in
        covered_lies (IsGuarded image volume found.superblock) Looked byte (volume_looks orders image (length image) volume number version order found.superblock magic stored read.has sound).all covered

pub ufs_guard_law : UfsGuardLaw
unfolding guard_of
ufs_guard_law orders image volume number found byte is inside =
    let read = is_read orders image volume number found is in
    let looked : List Range = visits image (volume_at orders (length image) volume number) in
    let same : covers (longest_ranges (covers looked) 0 (length image)) byte ≡ covers looked byte = longest_ranges_covers (covers looked) (length image) byte inside in
    ⊎_elim
    (λ some. (
      (λ covered. seen_guarded orders image volume number found read some.version some.order some.magic byte (sym same ∙ covered)),
      (λ guarded. same ∙ guarded_seen orders image volume number found read some.version some.order some.magic byte guarded),
    ))
    (λ none. absurd (not_both found.superblock NotThis (result_of image (volume_super orders volume)) read.has (says_other orders image volume none.0 none.1)))
    (magics orders image volume)
