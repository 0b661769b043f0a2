-- What one looks at for the files of a volume is in its guard.
use Rattle.std.specs.Prelude.{◌≡◌, ℕ, ◌+◌, ◌-◌, ◌≤◌, min, nat_le, Option, None, List, [], refl}
use Rattle.std.specs.List.{All, Contains}
use Rattle.std.proofs.Common.{sym, ◌∙◌, subst, arith}
use Rattle.std.proofs.lemmas.List.Elements.{All-head, All-tail, All-contains_itself}
use Rattle.range_defs.specs.declared.Range.{Range}
use Rattle.range_defs.specs.declared.TheConstants.{LONGEST_IMAGE}
use Rattle.bytes_defs.specs.declared.order.Order.{Order}
use Rattle.image_defs.specs.Ask.{Ask, Done, Stop, check, given, ◌>>=◌, ◌>>◌}
use Rattle.image_defs.specs.Looks.{LooksAt}
use Rattle.image_defs.specs.ViaLaws.{LiesIn}
use Rattle.image_defs.proofs.Looks.{looks_done, looks_bind, looks_check, looks_look, looks_given}
use Rattle.fault_defs.specs.declared.Refusal.{Refusal}
use Rattle.fault_defs.specs.declared.Refusal.TheVariants.{NotThis, Limit}
use Rattle.fault_defs.specs.declared.Bound.TheVariants.{Image}
use Rattle.ufs_inode_defs.specs.Layout.{layout_1, layout_2, layout_of}
use Rattle.ufs_inode_defs.specs.Superblock.{superblock_of, wrong_field, super_place, magic_order, checked_super, super_in, super_or, super_of_1, super_of_2, volume_super}
use Rattle.ufs_inode_defs.specs.Inode.{inode_at}
use Rattle.ufs_inode_defs.specs.Blocks.{stream_blocks}
use Rattle.ufs_inode_defs.specs.declared.superblock.Super.{Super}
use Rattle.ufs_inode_defs.specs.declared.inode.Inode.{Inode}
use Rattle.ufs_inode_defs.proofs.SoundSuper.{is_sound, has_pointers}
use Rattle.ufs_volume_defs.specs.Names.{Walk, volume_names}
use Rattle.ufs_volume_defs.specs.Files.{sections_of, with_part, section_part, inode_parts, Filed, with_file, number_file, numbers_of, named_files}
use Rattle.ufs_volume_defs.specs.Volume.{FoundVolume, files_below, volume_at}
use Rattle.ufs_damage_defs.specs.Damage.{order_of_1, HasMagic, First, Second, stored_super, HasSuper, HasSoundInode}
use Rattle.ufs_damage_defs.proofs.Walks.{same_value}
use Rattle.ufs_damage_defs.proofs.NameDamage.{HasNames, names_give}
use Rattle.ufs_damage_defs.proofs.FileDamage.{file_number}
use Rattle.ufs_guard_defs.specs.Guard.{IsProbe, Ntfs, NtfsMark, Hfs, Ufs1, IsGuarded, Probed, InSuper, InInode, InDirectory, InPointers}
use Rattle.ufs_guard_defs.proofs.StreamLooks.{stream_looks}
use Rattle.ufs_guard_defs.proofs.NameLooks.{MayLook, looks_through, inode_looks, names_look}

-- ---- the files

module _ (image : List ℕ) (sup : Super) (volume : ℕ) (sound : wrong_field sup ≡ None) (Q : Range → Type 0) (may : MayLook image sup Q) where
  parts_look : (number : ℕ) (inode : Inode) (runs : ℕ) → HasSoundInode image sup number inode → LooksAt Q image (inode_parts sup runs inode)
  unfolding inode_parts section_part
  parts_look number inode runs has =
      looks_through Q image (section_part sup) (λ left parted. All (Contains (sections_of sup inode)) left) (λ section left parted after among gives. All-tail (Contains (sections_of sup inode)) section left among)
      (λ section left parted among.
      looks_bind Q image (stream_blocks sup section.stream parted.runs) (λ laid. Done (with_part parted section laid))
      (stream_looks image sup section.stream (has_pointers sup (is_sound sup sound)) Q
      (λ level first fragment pointer used leads. may.at_pointers number level first fragment inode section pointer has (All-head (Contains (sections_of sup inode)) section left among) used leads) parted.runs)
      (λ laid gives. looks_done Q image (with_part parted section laid)))
      (sections_of sup inode) (record { parts = []; runs = runs }) (All-contains_itself (sections_of sup inode))

  files_look : (walk : Walk) → HasNames image sup volume sound walk → LooksAt Q image (named_files sup volume walk.names)
  unfolding named_files number_file
  files_look walk names =
      let numbers : List ℕ = numbers_of walk.names in
      looks_through Q image (number_file sup volume walk.names) (λ left filed. All (Contains numbers) left) (λ number left filed after among gives. All-tail (Contains numbers) number left among)
      (λ number left filed among.
      let found = file_number image sup volume sound walk names number (All-head (Contains numbers) number left among) in
      let has = found.1.has in
      looks_bind Q image (inode_at sup number) (λ inode. inode_parts sup filed.runs inode >>= (λ parted. Done (with_file sup volume walk.names filed number inode parted)))
      (inode_looks image sup volume sound Q may number has.place has.depth has.path has.reached)
      (λ inode read.
      let same : found.0 ≡ inode = same_value {E = Refusal} found.0 inode (sym found.1.read ∙ read) in
      let P : Inode → Type 0 = λ i. HasSoundInode image sup number i in
      looks_bind Q image (inode_parts sup filed.runs inode) (λ parted. Done (with_file sup volume walk.names filed number inode parted)) (parts_look number inode filed.runs (subst P same found.1))
      (λ parted gives. looks_done Q image (with_file sup volume walk.names filed number inode parted))))
      numbers (record { files = []; runs = 0 }) (All-contains_itself numbers)

  below_look : LooksAt Q image (files_below sup volume)
  unfolding files_below
  below_look =
      let done : Filed → Ask Refusal FoundVolume = λ filed. Done (record { superblock = sup; files = filed.files }) in
      looks_bind Q image (volume_names sup) (λ walk. named_files sup volume walk.names >>= done) (names_look image sup volume sound Q may)
      (λ walk gives. looks_bind Q image (named_files sup volume walk.names) done (files_look walk (names_give image sup volume sound walk gives)) (λ filed are. looks_done Q image (record { superblock = sup; files = filed.files })))

-- ---- the superblock

module _ (orders : List Order) (image : List ℕ) (volume : Range) where
  super_at : (version : ℕ) (order : Order) → super_place (stored_super image volume version order) ≡ volume.at + (layout_of version).superblock_at
  unfolding superblock_of
  super_at version order = refl

  probed : (version : ℕ) (order : Order) (at len : ℕ) → IsProbe at len → LiesIn (IsGuarded image volume (stored_super image volume version order)) (record { at = volume.at + at; len = min len (volume.len - at) })
  probed version order at len is byte from to = Probed at len is (from, to)

  in_super : (version : ℕ) (order : Order) (at len : ℕ) → volume.at + (layout_of version).superblock_at ≤ at → at + len ≤ volume.at + (layout_of version).superblock_at + 1376
      → LiesIn (IsGuarded image volume (stored_super image volume version order)) (record { at = at; len = len })
  in_super version order at len begins ends byte from to =
      let place = super_at version order in
      InSuper (omega (arith, place, begins, from), omega (arith, place, ends, to))

  super_looks : (version : ℕ) (order : Order) → HasMagic orders image volume version order → LooksAt (LiesIn (IsGuarded image volume (stored_super image volume version order))) image (volume_super orders volume)
  unfolding volume_super super_of_1 super_of_2 super_in
  super_looks version order magic =
      let Q : Range → Type 0 = LiesIn (IsGuarded image volume (stored_super image volume version order)) in
      looks_look Q image (volume.at + 3) (min 8 (volume.len - 3)) _ (probed version order 3 8 Ntfs)
      (looks_look Q image (volume.at + 510) (min 2 (volume.len - 510)) _ (probed version order 510 2 NtfsMark)
      (looks_look Q image (volume.at + 1024) (min 4 (volume.len - 1024)) _ (probed version order 1024 4 Hfs)
      (looks_look Q image (volume.at + 9564) (min 4 (volume.len - 9564)) (λ bytes. super_or volume 1 (magic_order layout_1 orders bytes) (super_of_2 orders volume)) (probed version order 9564 4 Ufs1)
      (by_magic version order magic))))
    where
      of_version : (version : ℕ) (order : Order) → LooksAt (LiesIn (IsGuarded image volume (stored_super image volume version order))) image (super_in volume version order)
      of_version version order =
          let Q : Range → Type 0 = LiesIn (IsGuarded image volume (stored_super image volume version order)) in
          let stored : Super = stored_super image volume version order in
          looks_look Q image (volume.at + (layout_of version).superblock_at) 1376 (λ bytes. given (checked_super (superblock_of volume version order bytes) (wrong_field (superblock_of volume version order bytes))))
          (in_super version order (volume.at + (layout_of version).superblock_at) 1376 (omega arith) (omega arith))
          (looks_given Q image (checked_super stored (wrong_field stored)))

      by_magic : (version : ℕ) (order : Order) → HasMagic orders image volume version order
          → LooksAt (LiesIn (IsGuarded image volume (stored_super image volume version order))) image (super_or volume 1 (order_of_1 orders image volume) (super_of_2 orders volume))
      by_magic version order (First o is) =
          let Q : Range → Type 0 = LiesIn (IsGuarded image volume (stored_super image volume 1 order)) in
          let P : Option Order → Type 0 = λ found. LooksAt Q image (super_or volume 1 found (super_of_2 orders volume)) in
          subst P (sym is) (of_version 1 order)
      by_magic version order (Second o none is) =
          let Q : Range → Type 0 = LiesIn (IsGuarded image volume (stored_super image volume 2 order)) in
          let P : Option Order → Type 0 = λ found. LooksAt Q image (super_or volume 1 found (super_of_2 orders volume)) in
          let S : Option Order → Type 0 = λ found. LooksAt Q image (super_or volume 2 found (Stop NotThis)) in
          subst P (sym none)
          (looks_look Q image (volume.at + 66908) (min 4 (volume.len - 66908)) (λ bytes. super_or volume 2 (magic_order layout_2 orders bytes) (Stop NotThis))
          (in_super 2 order (volume.at + 66908) (min 4 (volume.len - 66908)) (omega arith) (omega arith))
          (subst S (sym is) (of_version 2 order)))

-- ---- the volume

pub may_guard : (image : List ℕ) (volume : Range) (sup : Super) → MayLook image sup (LiesIn (IsGuarded image volume sup))
may_guard image volume sup = record {
  at_inode = λ number place depth path reached byte from to. InInode number place depth path reached (from, to);
  at_block = λ number index at inode has good there byte from to. InDirectory number index at inode has good there (from, to);
  at_pointers = λ number level first fragment inode section pointer has among used leads byte from to. InPointers number level first fragment inode section pointer has among used leads (from, to);
}

pub volume_looks : (orders : List Order) (image : List ℕ) (size : ℕ) (volume : Range) (number version : ℕ) (order : Order) (sup : Super) → HasMagic orders image volume version order → stored_super image volume version order ≡ sup
    → HasSuper orders image volume sup → wrong_field sup ≡ None → LooksAt (LiesIn (IsGuarded image volume sup)) image (volume_at orders size volume number)
unfolding volume_at
volume_looks orders image size volume number version order sup magic stored has sound =
    let Q : Range → Type 0 = LiesIn (IsGuarded image volume sup) in
    let S : Super → Type 0 = λ s. LooksAt (LiesIn (IsGuarded image volume s)) image (volume_super orders volume) in
    looks_bind Q image (volume_super orders volume) (λ one. check (nat_le size LONGEST_IMAGE) (Limit Image LONGEST_IMAGE) >> files_below one number) (subst S stored (super_looks orders image volume version order magic))
    (λ one gives.
    let same : sup ≡ one = same_value {E = Refusal} sup one (sym has ∙ gives) in
    let B : Super → Type 0 = λ s. LooksAt Q image (check (nat_le size LONGEST_IMAGE) (Limit Image LONGEST_IMAGE) >> files_below s number) in
    subst B same
    (looks_check Q image (nat_le size LONGEST_IMAGE) (Limit Image LONGEST_IMAGE) (λ short. files_below sup number)
    (λ short. below_look image sup number sound Q (may_guard image volume sup))))
