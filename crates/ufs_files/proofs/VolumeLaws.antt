-- A reader goes through the program of a volume: the superblock, the names and the files.
use Rattle.std.specs.Prelude.{◌≡◌, ℕ, ◌≤◌, true, nat_le, None, Option, Some, IfSome, Result, Ok, Err, List, refl}
use Rattle.std.specs.Result.{IsErr, IsErrAnd}
use Rattle.std.proofs.Common.{sym, subst, arith}
use Rattle.std.proofs.lemmas.Bool.Decides.{nat_tests}
use Rattle.std.proofs.lemmas.List.Elements.{All-weaker}
use Rattle.range_defs.specs.declared.Range.{Range}
use Rattle.range_defs.specs.declared.TheConstants.{LONGEST_IMAGE}
use Rattle.bytes_defs.specs.declared.order.Order.{Order}
use Rattle.image_defs.specs.Ask.{Ask, Done, result_of, check, ◌>>=◌, ◌>>◌}
use Rattle.image_reads.specs.Steps.{ReadsAs}
use Rattle.image_reads.proofs.Coming.{IsCome}
use Rattle.image_reads.proofs.Steps.{begins, comes_past, comes_value, comes_fault, comes_done, ends_with}
use Rattle.rx_store.specs.declared.read_fault.ReadFault.{ReadFault}
use Rattle.fault_defs.specs.declared.Refusal.{Refusal}
use Rattle.fault_defs.specs.declared.Refusal.TheVariants.{Limit}
use Rattle.fault_defs.specs.declared.Bound.TheVariants.{Image}
use Rattle.ufs_inode_defs.specs.Superblock.{wrong_field, volume_super}
use Rattle.ufs_inode_defs.specs.Inode.{inode_at}
use Rattle.ufs_inode_defs.specs.declared.superblock.Super.{Super}
use Rattle.ufs_volume_defs.specs.Names.{Named, Walk, volume_names}
use Rattle.ufs_volume_defs.specs.Files.{Filed, named_files}
use Rattle.ufs_volume_defs.specs.Volume.{FoundVolume, files_below, volume_at}
use Rattle.ufs_damage_defs.proofs.InodeDamage.{named_gives}
use Rattle.ufs_damage_defs.proofs.NameDamage.{IsSomewhere}
use Rattle.ufs_damage_defs.proofs.NameClosure.{all_names}
use Rattle.ufs_files.proofs.PassLaws.{AreStored}

-- ---- each name of a walk was given the inode that its number has

stored_in : (image : List ℕ) (sup : Super) (walk : Walk) → wrong_field sup ≡ None → result_of image (volume_names sup) ≡ Ok walk → AreStored sup walk.names image
stored_in image sup walk sound gives =
    let all = all_names image sup 0 sound walk gives in
    All-weaker (IsSomewhere image sup 0 all.root sound) (λ (name : Named). result_of image (inode_at sup name.number) ≡ Ok name.inode)
    (λ name somewhere. (named_gives image sup 0 name.number somewhere.1.place name.inode somewhere.1.read).1) walk.names all.ended.at.all

pub stored_names : (told later : Option (List ℕ)) (sup : Super) (walk : Walk) (names : List Named) (now looked : List Range) → wrong_field sup ≡ None → later ≡ told → ReadsAs told (volume_names sup) now looked (Ok walk) → names ≡ walk.names
    → IfSome later (AreStored sup names)
stored_names told later sup walk names now looked sound same read are =
    let P : Option (List ℕ) → Type 0 = λ found. IfSome found (AreStored sup names) in
    subst P (sym same) (by_told told read)
  where
    by_told : (found : Option (List ℕ)) → ReadsAs found (volume_names sup) now looked (Ok walk) → IfSome found (AreStored sup names)
    by_told None read = tt
    by_told (Some image) read = let Q : List Named → Type 0 = λ some. AreStored sup some image in subst Q (sym are) (stored_in image sup walk sound read.given)

-- ---- the way through the program

abbrev done_with : Super → Filed → Ask Refusal FoundVolume
done_with sup filed = Done (record { superblock = sup; files = filed.files })

short_enough : (size : ℕ) → size ≤ LONGEST_IMAGE → nat_le size LONGEST_IMAGE ≡ true
short_enough size near = grind (arith, nat_tests)

module _ (told : Option (List ℕ)) (orders : List Order) (size number : ℕ) (volume : Range) (before : List Range) where
  super_left : IsCome told (volume_at orders size volume number) before (volume_super orders volume >>= (λ sup. check (nat_le size LONGEST_IMAGE) (Limit Image LONGEST_IMAGE) >> files_below sup number)) before
  unfolding volume_at
  super_left = begins told (volume_at orders size volume number) before

  pub super_refused : (fault : ReadFault) (looked last : List Range) (result : Result FoundVolume ReadFault) → IsErr result → IsErrAnd result (λ other. other ≡ fault) → ReadsAs told (volume_super orders volume) before looked (Err fault)
      → ReadsAs told (volume_at orders size volume number) before last result
  super_refused fault looked last result is passed read =
      ends_with told (volume_at orders size volume number) before last result fault is passed
      (comes_fault told (volume_at orders size volume number) before told (volume_super orders volume) (λ sup. check (nat_le size LONGEST_IMAGE) (Limit Image LONGEST_IMAGE) >> files_below sup number) before refl super_left fault looked last read)

  module _ (near : size ≤ LONGEST_IMAGE) (sup : Super) (first : List Range) (found_super : ReadsAs told (volume_super orders volume) before first (Ok sup)) where
    names_left : IsCome told (volume_at orders size volume number) before (volume_names sup >>= (λ walk. named_files sup number walk.names >>= done_with sup)) first
    unfolding files_below
    names_left =
        comes_past told (volume_at orders size volume number) before (nat_le size LONGEST_IMAGE) (Limit Image LONGEST_IMAGE) (λ x. files_below sup number) first true (short_enough size near)
        (comes_value told (volume_at orders size volume number) before told (volume_super orders volume) (λ sup. check (nat_le size LONGEST_IMAGE) (Limit Image LONGEST_IMAGE) >> files_below sup number) before refl super_left sup first found_super)

    pub names_refused : (later : Option (List ℕ)) (fault : ReadFault) (looked last : List Range) (result : Result FoundVolume ReadFault) → IsErr result → IsErrAnd result (λ other. other ≡ fault) → later ≡ told
        → ReadsAs later (volume_names sup) first looked (Err fault) → ReadsAs told (volume_at orders size volume number) before last result
    names_refused later fault looked last result is passed same read =
        ends_with told (volume_at orders size volume number) before last result fault is passed
        (comes_fault told (volume_at orders size volume number) before later (volume_names sup) (λ walk. named_files sup number walk.names >>= done_with sup) first same names_left fault looked last read)

    module _ (then : Option (List ℕ)) (walk : Walk) (second : List Range) (same : then ≡ told) (found_names : ReadsAs then (volume_names sup) first second (Ok walk)) (later : Option (List ℕ)) (names : List Named) (still : later ≡ told) (are : names ≡ walk.names) where
      files_left : IsCome told (volume_at orders size volume number) before (named_files sup number walk.names >>= done_with sup) second
      files_left =
          comes_value told (volume_at orders size volume number) before then (volume_names sup) (λ walk. named_files sup number walk.names >>= done_with sup) first same names_left walk second found_names

      of_walk : (looked : List Range) (result : Result Filed ReadFault) → ReadsAs later (named_files sup number names) second looked result → ReadsAs later (named_files sup number walk.names) second looked result
      of_walk looked result read = let P : List Named → Type 0 = λ some. ReadsAs later (named_files sup number some) second looked result in subst P are read

      pub files_refused : (fault : ReadFault) (looked last : List Range) (result : Result FoundVolume ReadFault) → IsErr result → IsErrAnd result (λ other. other ≡ fault) → ReadsAs later (named_files sup number names) second looked (Err fault)
          → ReadsAs told (volume_at orders size volume number) before last result
      files_refused fault looked last result is passed read =
          ends_with told (volume_at orders size volume number) before last result fault is passed
          (comes_fault told (volume_at orders size volume number) before later (named_files sup number walk.names) (done_with sup) second still files_left fault looked last (of_walk looked (Err fault) read))

      pub files_found : (filed : Filed) (found : FoundVolume) (looked : List Range) → found ≡ record { superblock = sup; files = filed.files } → ReadsAs later (named_files sup number names) second looked (Ok filed)
          → ReadsAs told (volume_at orders size volume number) before looked (Ok found)
      files_found filed found looked is read =
          let P : FoundVolume → Type 0 = λ one. ReadsAs told (volume_at orders size volume number) before looked (Ok one) in
          subst P (sym is)
          (comes_done told (volume_at orders size volume number) before (record { superblock = sup; files = filed.files }) looked
          (comes_value told (volume_at orders size volume number) before later (named_files sup number walk.names) (done_with sup) second still files_left filed looked (of_walk looked (Ok filed) read)))
