-- What refuses a volume is wrong with it, and nothing is wrong with a volume that has a tree.
use Rattle.std.specs.Prelude.{◌≡◌, ℕ, ◌==◌, ◌<◌, ◌≤◌, Bool, true, false, if◌then◌else◌, nat_le, Option, Result, Ok, Err, List, [], ◌∷◌, ◌++◌, length, refl}
use Rattle.std.specs.List.{sum_by, filter_map}
use Rattle.std.proofs.Common.{sym, ◌∙◌, subst, ⊎_elim, arith}
use Rattle.std.proofs.lemmas.Bool.{leb-true, leb-false, eqb-false}
use Rattle.std.proofs.lemmas.Bool.Decides.{Decides-eqb}
use Rattle.image_defs.specs.Ask.{Ask, Done, result_of, check, given, ◌>>=◌}
use Rattle.image_defs.proofs.Looks.{bind_gives, check_gives, given_gives, bind_refuses, check_refuses, given_refuses}
use Rattle.image_defs.specs.Results.{with_value, each_result}
use Rattle.image_defs.proofs.Results.{result_given, result_bind_ok, result_bind_err}
use Rattle.rx_tree.specs.TreeValue.{TreeValue}
use Rattle.rx_tree.specs.declared.file.FileEntry.{FileEntry}
use Rattle.hfs_defs.specs.Header.{volume_header}
use Rattle.hfs_defs.specs.Forks.{blocks_in, records_of}
use Rattle.hfs_defs.specs.Damage.{IsDamage}
use Rattle.hfs_defs.specs.Leaves.{Leaf}
use Rattle.hfs_defs.specs.Overflow.{is_overflow_record, overflow_of, checked_overflow, each_leaf, overflow_records}
use Rattle.hfs_defs.specs.TreeFiles.{extents_at, catalog_at, fork_leaves, volume_overflow}
use Rattle.range_defs.specs.declared.TheConstants.{LONGEST_IMAGE}
use Rattle.hfs_volume_defs.specs.Catalog.{Entry, RecordKind, NoRecord, record_kind, is_some_kind, is_catalog_record, entry_by, checked_entry}
use Rattle.hfs_volume_defs.specs.Folders.{listed, links_to, is_folder}
use Rattle.hfs_volume_defs.specs.Files.{NamedEntry, named_entries, entry_file, special_files, special_file, entries_or_own}
use Rattle.hfs_volume_defs.specs.Volume.{volume_entries, sound_entries, all_names, names_within, most_names, most_path_bytes, most_runs, run_count, tree_with, files_within, volume_files, tree_below, volume_tree}
use Rattle.hfs_defs.specs.HeaderDamage.{HasMagic, IsFalseInHeader}
use Rattle.hfs_volume_defs.specs.Damage.{IsFalseInFile, IsFalseInEntries, IsFalseInFiles, HasHeader, HasOverflow, HasEntries, IsFalseAt, InHeader, InExtents, InCatalog, InEntries, InFiles, MoreExtents, IsOver, LongImage, DeepName, LongName, IsDeep, IsNameOf, counted_from, ManyNames, LongNames, ManyRuns, IsWrong, HfsDamageLaw}
use Rattle.hfs_defs.proofs.HeaderDamage.{header_law}
use Rattle.hfs_volume_defs.proofs.Results.{same_error, same_value, value_refuses, value_gives}
use Rattle.hfs_volume_defs.proofs.FileDamage.{Tests, file_refused as tree_refused, file_passes as tree_passes}
use Rattle.hfs_volume_defs.proofs.EntryDamage.{entries_refused, entries_pass}
use Rattle.hfs_volume_defs.proofs.FilesDamage.{name_refused, name_found, file_refused, special_refused, files_pass}
use Rattle.fault_defs.specs.declared.Bound.{Bound}
use Rattle.fault_defs.specs.declared.Bound.TheVariants.{Image, Names, PathBytes, Runs}
use Rattle.fault_defs.specs.declared.Refusal.{Refusal}
use Rattle.fault_defs.specs.declared.Refusal.TheVariants.{NotThis, Damaged, Unsupported, Limit}
use Rattle.fault_defs.specs.declared.Sort.{Sort}
use Rattle.fault_defs.specs.declared.Sort.TheVariants.{ExtentsRecord, CatalogRecord}
use Rattle.fault_defs.specs.declared.What.TheVariants.{ExtentsFork}
use Rattle.hfs_defs.specs.declared.forks.OverflowRecord.{OverflowRecord}
use Rattle.hfs_defs.specs.declared.header.Header.{Header}

-- a damage is wrong with the volume
damage_wrong : (P : Sort → ℕ → Type 0) (image : List ℕ) (at len volume : ℕ) (fault : Refusal) → ((sort : Sort) (place : ℕ) → P sort place → IsFalseAt image at len sort place) → IsDamage P fault → IsWrong image at len volume fault
damage_wrong P image at len volume NotThis into is = is
damage_wrong P image at len volume (Damaged sort place) into is = into sort place is
damage_wrong P image at len volume (Unsupported what place) into is = absurd is
damage_wrong P image at len volume (Limit bound number) into is = absurd is

-- ---- leaf records that are refused

overflow_tests : Tests checked_overflow is_overflow_record ExtentsRecord
unfolding checked_overflow
overflow_tests = record {
  stops = λ leaf fault is. stops leaf fault (is_overflow_record leaf.bytes) is;
  passes = λ leaf x is. passes leaf x (is_overflow_record leaf.bytes) is;
}
  where
    stops : (leaf : Leaf) (fault : Refusal) (test : Bool) → (if test then Ok (overflow_of leaf) else Err (Damaged ExtentsRecord leaf.at)) ≡ Err fault → (test ≡ false) × (Damaged ExtentsRecord leaf.at ≡ fault)
    stops leaf fault true is = absurd cc
    stops leaf fault false is = (refl, same_error {X = OverflowRecord} (Damaged ExtentsRecord leaf.at) fault is)

    passes : (leaf : Leaf) (x : OverflowRecord) (test : Bool) → (if test then Ok (overflow_of leaf) else Err (Damaged ExtentsRecord leaf.at)) ≡ Ok x → test ≡ true
    passes leaf x true is = refl
    passes leaf x false is = absurd cc

entry_tests : Tests checked_entry is_catalog_record CatalogRecord
unfolding checked_entry is_catalog_record
entry_tests = record {
  stops = λ leaf fault is. stops leaf fault (record_kind leaf.bytes) is;
  passes = λ leaf x is. passes leaf x (record_kind leaf.bytes) is;
}
  where
    stops : (leaf : Leaf) (fault : Refusal) (kind : RecordKind) → entry_by kind leaf ≡ Err fault → (is_some_kind kind ≡ false) × (Damaged CatalogRecord leaf.at ≡ fault)
    stops leaf fault NoRecord is = (refl, same_error {X = Option Entry} (Damaged CatalogRecord leaf.at) fault is)
    stops leaf fault other is = absurd cc

    passes : (leaf : Leaf) (x : Option Entry) (kind : RecordKind) → entry_by kind leaf ≡ Ok x → is_some_kind kind ≡ true
    passes leaf x NoRecord is = absurd cc
    passes leaf x other is = refl

-- ---- the overflow records and the entries

more_extents : (image : List ℕ) (at len volume : ℕ) (header : Header) (fault : Refusal) → HasHeader image at len header → result_of image (volume_overflow header) ≡ Err fault → IsWrong image at len volume fault
unfolding volume_overflow
more_extents image at len volume header fault has is =
    ⊎_elim
    (λ more. subst (IsWrong image at len volume) more.1 (MoreExtents header has (eqb-false (blocks_in header.extents.extents) header.extents.total_blocks more.0)))
    (λ whole. damage_wrong (IsFalseInFile image header [] header.extents (extents_at header) is_overflow_record ExtentsRecord) image at len volume fault
    (λ sort place false'. InExtents header sort place has false')
    (tree_refused checked_overflow is_overflow_record ExtentsRecord overflow_tests image header [] header.extents (extents_at header) fault whole.1))
    (check_refuses image (blocks_in header.extents.extents == header.extents.total_blocks) (Unsupported ExtentsFork (extents_at header))
    (λ whole. fork_leaves header [] header.extents (extents_at header) >>= (λ leaves. given (overflow_records leaves))) fault is)

-- what the overflow records of a volume that were read say of it
overflow_read : (image : List ℕ) (header : Header) (overflow : List OverflowRecord) → result_of image (volume_overflow header) ≡ Ok overflow
    → (blocks_in header.extents.extents ≡ header.extents.total_blocks)
    × ((sort : Sort) (place : ℕ) → IsFalseInFile image header [] header.extents (extents_at header) is_overflow_record ExtentsRecord sort place → ⊥)
unfolding volume_overflow
overflow_read image header overflow is =
    let whole = check_gives image (blocks_in header.extents.extents == header.extents.total_blocks) (Unsupported ExtentsFork (extents_at header))
    (λ whole. fork_leaves header [] header.extents (extents_at header) >>= (λ leaves. given (overflow_records leaves))) overflow is in (
      (Decides-eqb (blocks_in header.extents.extents) header.extents.total_blocks).0 whole.0,
      λ sort place false'. tree_passes checked_overflow is_overflow_record ExtentsRecord overflow_tests image header [] header.extents (extents_at header) overflow sort place whole.1 false',
    )

-- a program whose value is changed refuses what it refuses
changed_refuses : {L X Y : Type 0} (image : List ℕ) (ask : Ask Refusal L) (result : L → Result X Refusal) (change : X → Y) (fault : Refusal)
    → result_of image (ask >>= (λ l. given (with_value change (result l)))) ≡ Err fault → result_of image (ask >>= (λ l. given (result l))) ≡ Err fault
changed_refuses image ask result change fault is =
    ⊎_elim
    (λ first. result_bind_err image ask (λ l. given (result l)) fault first)
    (λ later. result_bind_ok image ask (λ l. given (result l)) later.0 later.1 ∙ result_given image (result later.0)
    ∙ value_refuses change (result later.0) fault (sym (result_given image (with_value change (result later.0))) ∙ later.2))
    (bind_refuses image ask (λ l. given (with_value change (result l))) fault is)

changed_gives : {L X Y : Type 0} (image : List ℕ) (ask : Ask Refusal L) (result : L → Result X Refusal) (change : X → Y) (y : Y)
    → result_of image (ask >>= (λ l. given (with_value change (result l)))) ≡ Ok y → (x : X) × (result_of image (ask >>= (λ l. given (result l))) ≡ Ok x)
changed_gives image ask result change y is =
    let read = bind_gives image ask (λ l. given (with_value change (result l))) y is in
    let value = value_gives change (result read.0) y (sym (result_given image (with_value change (result read.0))) ∙ read.2) in
    (value.0, result_bind_ok image ask (λ l. given (result l)) read.0 read.1 ∙ result_given image (result read.0) ∙ value.1)

catalog_refused : (image : List ℕ) (at len volume : ℕ) (header : Header) (overflow : List OverflowRecord) (fault : Refusal) → HasOverflow image at len header overflow → result_of image (volume_entries header overflow) ≡ Err fault
    → IsWrong image at len volume fault
unfolding volume_entries
catalog_refused image at len volume header overflow fault has is =
    damage_wrong (IsFalseInFile image header (records_of overflow 4 0) header.catalog (catalog_at header) is_catalog_record CatalogRecord) image at len volume fault
    (λ sort place false'. InCatalog header overflow sort place has false')
    (tree_refused checked_entry is_catalog_record CatalogRecord entry_tests image header (records_of overflow 4 0) header.catalog (catalog_at header) fault
    (changed_refuses image (fork_leaves header (records_of overflow 4 0) header.catalog (catalog_at header)) (each_leaf checked_entry) (filter_map (λ entry. entry)) fault is))

catalog_read : (image : List ℕ) (header : Header) (overflow : List OverflowRecord) (entries : List Entry) → result_of image (volume_entries header overflow) ≡ Ok entries
    → (sort : Sort) (place : ℕ) → IsFalseInFile image header (records_of overflow 4 0) header.catalog (catalog_at header) is_catalog_record CatalogRecord sort place → ⊥
unfolding volume_entries
catalog_read image header overflow entries is sort place false' =
    let all = changed_gives image (fork_leaves header (records_of overflow 4 0) header.catalog (catalog_at header)) (each_leaf checked_entry) (filter_map (λ entry. entry)) entries is in
    tree_passes checked_entry is_catalog_record CatalogRecord entry_tests image header (records_of overflow 4 0) header.catalog (catalog_at header) all.0 sort place all.1 false'

-- ---- the files

files_over : (image : List ℕ) (at len volume : ℕ) (header : Header) (overflow : List OverflowRecord) (entries : List Entry) (named : List NamedEntry) (fault : Refusal) → HasEntries image at len header overflow entries
    → named_entries entries ≡ Ok named → result_of image (files_within volume header overflow named) ≡ Err fault → IsWrong image at len volume fault
unfolding files_within
files_over image at len volume header overflow entries named fault has all is =
    let tested : List FileEntry → Ask Refusal (List FileEntry) = λ files. check (nat_le (run_count files) most_runs) (Limit Runs most_runs) >>= (λ few. Done files) in
    ⊎_elim
    (λ first. wrong (file_refused volume header overflow entries named fault all first))
    (λ files. ⊎_elim
    (λ second. wrong (special_refused volume header overflow entries fault second))
    (λ specials. ⊎_elim
    (λ many. subst (IsWrong image at len volume) many.1
    (ManyRuns header overflow entries named files.0 specials.0 has all files.1 specials.1 (leb-false (run_count (files.0 ++ specials.0)) most_runs many.0)))
    (λ few. absurd (done (files.0 ++ specials.0) few.1))
    (check_refuses image (nat_le (run_count (files.0 ++ specials.0)) most_runs) (Limit Runs most_runs) (λ few. Done (files.0 ++ specials.0)) fault specials.2))
    (given_refuses image (each_result (special_file volume header overflow) (special_files header)) (λ specials. tested (files.0 ++ specials)) fault files.2))
    (given_refuses image (each_result (entry_file volume header overflow) named) (λ files. given (each_result (special_file volume header overflow) (special_files header)) >>= (λ specials. tested (files ++ specials))) fault is)
  where
    wrong : IsDamage (IsFalseInFiles header overflow entries) fault → IsWrong image at len volume fault
    wrong damage = damage_wrong (IsFalseInFiles header overflow entries) image at len volume fault (λ sort place false'. InFiles header overflow entries sort place has false') damage

    done : (files : List FileEntry) → (let a : Result (List FileEntry) Refusal = Ok files in a ≡ Err fault) → ⊥
    done files same = absurd cc

names_over : (image : List ℕ) (at len volume : ℕ) (header : Header) (overflow : List OverflowRecord) (entries : List Entry) (named : List NamedEntry) (fault : Refusal) → HasEntries image at len header overflow entries
    → named_entries entries ≡ Ok named → result_of image (names_within (all_names header named)) ≡ Err fault → IsWrong image at len volume fault
unfolding names_within
names_over image at len volume header overflow entries named fault has all is =
    let names : List (List ℕ) = all_names header named in
    ⊎_elim
    (λ many. subst (IsWrong image at len volume) many.1 (ManyNames header overflow entries named has all (leb-false (length names) most_names many.0)))
    (λ few. long (nat_le (sum_by length names) most_path_bytes) refl few.1)
    (check_refuses image (nat_le (length names) most_names) (Limit Names most_names) (λ few. check (nat_le (sum_by length names) most_path_bytes) (Limit PathBytes most_path_bytes)) fault is)
  where
    long : (short : Bool) → nat_le (sum_by length (all_names header named)) most_path_bytes ≡ short → result_of image (check short (Limit PathBytes most_path_bytes)) ≡ Err fault → IsWrong image at len volume fault
    long true there same = absurd cc
    long false there same =
        subst (IsWrong image at len volume) (same_error {X = Unit {0}} (Limit PathBytes most_path_bytes) fault same)
        (LongNames header overflow entries named has all (leb-false (sum_by length (all_names header named)) most_path_bytes there))

files_refused : (image : List ℕ) (at len volume : ℕ) (header : Header) (overflow : List OverflowRecord) (entries : List Entry) (fault : Refusal) → HasEntries image at len header overflow entries
    → result_of image (volume_files volume header overflow entries) ≡ Err fault → IsWrong image at len volume fault
unfolding volume_files
files_refused image at len volume header overflow entries fault has is =
    ⊎_elim
    (λ first. damage_wrong (IsFalseInEntries header entries) image at len volume fault (λ sort place false'. InEntries header overflow entries sort place has false') (entries_refused image header entries fault first))
    (λ sound. ⊎_elim
    (λ second.
    let refused = name_refused entries fault second in
    ⊎_elim
    (λ deep. subst (IsWrong image at len volume) deep.0
    (DeepName header overflow entries refused.file.front refused.file.item refused.file.behind refused.name.front refused.name.item refused.name.behind has refused.file.whole refused.name.whole deep.1))
    (λ long. subst (IsWrong image at len volume) long.0
    (LongName header overflow entries refused.file.front refused.file.item refused.file.behind refused.name.front refused.name.item refused.name.behind long.1.0 has refused.file.whole refused.name.whole long.1.1 long.1.2))
    refused.why)
    (λ named. ⊎_elim
    (λ third. names_over image at len volume header overflow entries named.0 fault has named.1 third)
    (λ few. files_over image at len volume header overflow entries named.0 fault has named.1 few.2)
    (bind_refuses image (names_within (all_names header named.0)) (λ few. files_within volume header overflow named.0) fault named.2))
    (given_refuses image (named_entries entries) (λ named. names_within (all_names header named) >>= (λ few. files_within volume header overflow named)) fault sound.2))
    (bind_refuses image (sound_entries header entries) (λ sound. given (named_entries entries) >>= (λ named. names_within (all_names header named) >>= (λ few. files_within volume header overflow named))) fault is)

-- ---- the volume

below_refused : (image : List ℕ) (size at len volume : ℕ) (header : Header) (fault : Refusal) → HasHeader image at len header → result_of image (tree_below size volume header) ≡ Err fault → IsWrong image at len volume fault
unfolding tree_below
below_refused image size at len volume header fault has is =
    let done : List OverflowRecord → List FileEntry → Ask Refusal TreeValue = λ overflow files. Done (tree_with size volume header overflow files) in
    ⊎_elim
    (λ first. more_extents image at len volume header fault has first)
    (λ overflow. ⊎_elim
    (λ second. catalog_refused image at len volume header overflow.0 fault (record { header_is = has; overflow_is = overflow.1 }) second)
    (λ entries. ⊎_elim
    (λ third. files_refused image at len volume header overflow.0 entries.0 fault (record { below = record { header_is = has; overflow_is = overflow.1 }; entries_are = entries.1 }) third)
    (λ files. absurd (never (tree_with size volume header overflow.0 files.0) files.2))
    (bind_refuses image (volume_files volume header overflow.0 entries.0) (done overflow.0) fault entries.2))
    (bind_refuses image (volume_entries header overflow.0) (λ entries. volume_files volume header overflow.0 entries >>= done overflow.0) fault overflow.2))
    (bind_refuses image (volume_overflow header) (λ overflow. volume_entries header overflow >>= (λ entries. volume_files volume header overflow entries >>= done overflow)) fault is)
  where
    never : (tree : TreeValue) → (let a : Result TreeValue Refusal = Ok tree in a ≡ Err fault) → ⊥
    never tree same = absurd cc

volume_refused : (image : List ℕ) (at len volume : ℕ) (fault : Refusal) → HasMagic image at len → result_of image (volume_tree (length image) at len volume) ≡ Err fault → IsWrong image at len volume fault
unfolding volume_tree
volume_refused image at len volume fault magic is =
    ⊎_elim
    (λ first. damage_wrong (IsFalseInHeader image at len) image at len volume fault (λ sort place false'. InHeader sort place magic false') (⊎_elim (λ other. absurd (other.1 magic)) (λ damage. damage.1) ((header_law image at len).refuses fault first)))
    (λ header. ⊎_elim
    (λ over. subst (IsWrong image at len volume) over.1 (LongImage (leb-false (length image) LONGEST_IMAGE over.0)))
    (λ short. below_refused image (length image) at len volume header.0 fault header.1 short.1)
    (check_refuses image (nat_le (length image) LONGEST_IMAGE) (Limit Image LONGEST_IMAGE) (λ short. tree_below (length image) volume header.0) fault header.2))
    (bind_refuses image (volume_header at len) (λ header. check (nat_le (length image) LONGEST_IMAGE) (Limit Image LONGEST_IMAGE) >>= (λ short. tree_below (length image) volume header)) fault is)

-- ---- a volume that has a tree

record IsAccepted (image : List ℕ) (at len volume : ℕ) : Type 0 where
  header : Header
  has : HasHeader image at len header
  short : length image ≤ LONGEST_IMAGE
  overflow : List OverflowRecord
  read : result_of image (volume_overflow header) ≡ Ok overflow
  entries : List Entry
  are : result_of image (volume_entries header overflow) ≡ Ok entries
  sound : result_of image (sound_entries header entries) ≡ Ok tt
  named : List NamedEntry
  names : named_entries entries ≡ Ok named
  few : length (all_names header named) ≤ most_names
  brief : sum_by length (all_names header named) ≤ most_path_bytes
  files : List FileEntry
  all : each_result (entry_file volume header overflow) named ≡ Ok files
  specials : List FileEntry
  kept : each_result (special_file volume header overflow) (special_files header) ≡ Ok specials
  runs : run_count (files ++ specials) ≤ most_runs

accepted : (image : List ℕ) (at len volume : ℕ) (tree : TreeValue) → result_of image (volume_tree (length image) at len volume) ≡ Ok tree → IsAccepted image at len volume
unfolding volume_tree tree_below volume_files names_within files_within
accepted image at len volume tree is =
    let size : ℕ = length image in
    let header = bind_gives image (volume_header at len) (λ header. check (nat_le size LONGEST_IMAGE) (Limit Image LONGEST_IMAGE) >>= (λ short. tree_below size volume header)) tree is in
    let h : Header = header.0 in
    let done : List OverflowRecord → List FileEntry → Ask Refusal TreeValue = λ overflow files. Done (tree_with size volume h overflow files) in
    let short = check_gives image (nat_le size LONGEST_IMAGE) (Limit Image LONGEST_IMAGE) (λ short. tree_below size volume h) tree header.2 in
    let overflow = bind_gives image (volume_overflow h) (λ overflow. volume_entries h overflow >>= (λ entries. volume_files volume h overflow entries >>= done overflow)) tree short.1 in
    let o : List OverflowRecord = overflow.0 in
    let entries = bind_gives image (volume_entries h o) (λ entries. volume_files volume h o entries >>= done o) tree overflow.2 in
    let found = bind_gives image (volume_files volume h o entries.0) (done o) tree entries.2 in
    let sound = bind_gives image (sound_entries h entries.0) (λ sound. given (named_entries entries.0) >>= (λ named. names_within (all_names h named) >>= (λ few. files_within volume h o named))) found.0 found.1 in
    let named = given_gives image (named_entries entries.0) (λ named. names_within (all_names h named) >>= (λ few. files_within volume h o named)) found.0 sound.2 in
    let names : List (List ℕ) = all_names h named.0 in
    let within = bind_gives image (names_within names) (λ few. files_within volume h o named.0) found.0 named.2 in
    let few = check_gives image (nat_le (length names) most_names) (Limit Names most_names) (λ few. check (nat_le (sum_by length names) most_path_bytes) (Limit PathBytes most_path_bytes)) within.0 within.1 in
    let tested : List FileEntry → Ask Refusal (List FileEntry) = λ files. check (nat_le (run_count files) most_runs) (Limit Runs most_runs) >>= (λ few. Done files) in
    let files = given_gives image (each_result (entry_file volume h o) named.0) (λ files. given (each_result (special_file volume h o) (special_files h)) >>= (λ specials. tested (files ++ specials))) found.0 within.2 in
    let specials = given_gives image (each_result (special_file volume h o) (special_files h)) (λ specials. tested (files.0 ++ specials)) found.0 files.2 in
    let runs = check_gives image (nat_le (run_count (files.0 ++ specials.0)) most_runs) (Limit Runs most_runs) (λ few. Done (files.0 ++ specials.0)) found.0 specials.2 in
    record {
      header = h;
      has = header.1;
      short = leb-true size LONGEST_IMAGE short.0;
      overflow = o;
      read = overflow.1;
      entries = entries.0;
      are = entries.1;
      sound = sound.1;
      named = named.0;
      names = named.1;
      few = leb-true (length names) most_names few.0;
      brief = leb-true (sum_by length names) most_path_bytes (passed (nat_le (sum_by length names) most_path_bytes) within.0 few.1);
      files = files.0;
      all = files.1;
      specials = specials.0;
      kept = specials.1;
      runs = leb-true (run_count (files.0 ++ specials.0)) most_runs runs.0;
    }
  where
    passed : (test : Bool) (done : Unit {0}) → result_of image (check test (Limit PathBytes most_path_bytes)) ≡ Ok done → test ≡ true
    passed true done same = refl
    passed false done same = absurd cc

module _ (image : List ℕ) (at len volume : ℕ) (ok : IsAccepted image at len volume) where
  -- what was read of it is all that can be read
  same_header : (P : Header → Type 0) (header : Header) → HasHeader image at len header → P header → P ok.header
  same_header P header has holds = subst P (same_value header ok.header (sym has ∙ ok.has)) holds

  same_overflow : (P : Header → List OverflowRecord → Type 0) (header : Header) (overflow : List OverflowRecord) → HasOverflow image at len header overflow → P header overflow → P ok.header ok.overflow
  same_overflow P header overflow has holds =
      let Q : Header → Type 0 = λ h. result_of image (volume_overflow h) ≡ Ok overflow in
      let read : result_of image (volume_overflow ok.header) ≡ Ok overflow = same_header Q header has.header_is has.overflow_is in
      subst (P ok.header) (same_value overflow ok.overflow (sym read ∙ ok.read)) (same_header (λ h. P h overflow) header has.header_is holds)

  same_entries : (P : Header → List OverflowRecord → List Entry → Type 0) (header : Header) (overflow : List OverflowRecord) (entries : List Entry) → HasEntries image at len header overflow entries
      → P header overflow entries → P ok.header ok.overflow ok.entries
  same_entries P header overflow entries has holds =
      let Q : Header → List OverflowRecord → Type 0 = λ h o. result_of image (volume_entries h o) ≡ Ok entries in
      let read : result_of image (volume_entries ok.header ok.overflow) ≡ Ok entries = same_overflow Q header overflow has.below has.entries_are in
      subst (P ok.header ok.overflow) (same_value entries ok.entries (sym read ∙ ok.are)) (same_overflow (λ h o. P h o entries) header overflow has.below holds)

  none_false : (sort : Sort) (place : ℕ) → IsFalseAt image at len sort place → ⊥
  none_false sort place (InHeader kind to magic wrong) = ((header_law image at len).accepts ok.header ok.has).2 sort place wrong
  none_false sort place (InExtents header kind to has wrong) =
      (overflow_read image ok.header ok.overflow ok.read).1 sort place
      (same_header (λ h. IsFalseInFile image h [] h.extents (extents_at h) is_overflow_record ExtentsRecord sort place) header has wrong)
  none_false sort place (InCatalog header overflow kind to has wrong) =
      catalog_read image ok.header ok.overflow ok.entries ok.are sort place
      (same_overflow (λ h o. IsFalseInFile image h (records_of o 4 0) h.catalog (catalog_at h) is_catalog_record CatalogRecord sort place) header overflow has wrong)
  none_false sort place (InEntries header overflow entries kind to has wrong) =
      entries_pass image ok.header ok.entries tt sort place ok.sound (same_entries (λ h o e. IsFalseInEntries h e sort place) header overflow entries has wrong)
  none_false sort place (InFiles header overflow entries kind to has wrong) =
      files_pass volume ok.header ok.overflow ok.entries ok.named ok.files ok.specials sort place ok.names ok.all ok.kept (same_entries (λ h o e. IsFalseInFiles h o e sort place) header overflow entries has wrong)

  none_over : (bound : Bound) (number : ℕ) → IsOver image at len volume bound number → ⊥
  none_over bound number (LongImage long) = absurd (omega (arith, long, ok.short))
  none_over bound number (DeepName header overflow entries front entry behind others one more has whole each deep) =
      let P : Header → List OverflowRecord → List Entry → Type 0 =
      λ h o e. (listed e ≡ front ++ entry ∷ behind) × (entries_or_own (links_to e entry.id) entry ≡ others ++ one ∷ more) × IsDeep e (counted_from (is_folder one) one) in
      let holds = same_entries P header overflow entries has (whole, each, deep) in
      (name_found ok.entries ok.named front entry behind others one more ok.names holds.0 holds.1).0 holds.2
  none_over bound number (LongName header overflow entries front entry behind others one more path has whole each is long) =
      let P : Header → List OverflowRecord → List Entry → Type 0 =
      λ h o e. (listed e ≡ front ++ entry ∷ behind) × (entries_or_own (links_to e entry.id) entry ≡ others ++ one ∷ more) × IsNameOf (is_folder one) e one path in
      let holds = same_entries P header overflow entries has (whole, each, is) in
      (name_found ok.entries ok.named front entry behind others one more ok.names holds.0 holds.1).1 path holds.2 long
  none_over bound number (ManyNames header overflow entries named has names many) =
      let P : Header → List OverflowRecord → List Entry → Type 0 = λ h o e. (named_entries e ≡ Ok named) × (most_names < length (all_names h named)) in
      let holds = same_entries P header overflow entries has (names, many) in
      let Q : List NamedEntry → Type 0 = λ list. most_names < length (all_names ok.header list) in
      let over = subst Q (same_value named ok.named (sym holds.0 ∙ ok.names)) holds.1 in
      absurd (omega (arith, over, ok.few))
  none_over bound number (LongNames header overflow entries named has names long) =
      let P : Header → List OverflowRecord → List Entry → Type 0 = λ h o e. (named_entries e ≡ Ok named) × (most_path_bytes < sum_by length (all_names h named)) in
      let holds = same_entries P header overflow entries has (names, long) in
      let Q : List NamedEntry → Type 0 = λ list. most_path_bytes < sum_by length (all_names ok.header list) in
      let over = subst Q (same_value named ok.named (sym holds.0 ∙ ok.names)) holds.1 in
      absurd (omega (arith, over, ok.brief))
  none_over bound number (ManyRuns header overflow entries named files specials has names all kept many) =
      let P : Header → List OverflowRecord → List Entry → Type 0 = λ h o e. (named_entries e ≡ Ok named) × (each_result (entry_file volume h o) named ≡ Ok files) × (each_result (special_file volume h o) (special_files h) ≡ Ok specials) in
      let holds = same_entries P header overflow entries has (names, all, kept) in
      let Q : List NamedEntry → Type 0 = λ list. each_result (entry_file volume ok.header ok.overflow) list ≡ Ok files in
      let same_files : files ≡ ok.files = same_value files ok.files (sym (subst Q (same_value named ok.named (sym holds.0 ∙ ok.names)) holds.1) ∙ ok.all) in
      let same_specials : specials ≡ ok.specials = same_value specials ok.specials (sym holds.2 ∙ ok.kept) in
      let R : List FileEntry → Type 0 = λ list. most_runs < run_count (list ++ specials) in
      let S : List FileEntry → Type 0 = λ list. most_runs < run_count (ok.files ++ list) in
      let over = subst S same_specials (subst R same_files many) in
      absurd (omega (arith, over, ok.runs))

  nothing_wrong : (fault : Refusal) → IsWrong image at len volume fault → ⊥
  nothing_wrong NotThis wrong = wrong
  nothing_wrong (Damaged sort place) wrong = none_false sort place wrong
  nothing_wrong (Unsupported what place) (MoreExtents header has more) = same_header (λ h. blocks_in h.extents.extents ≡ h.extents.total_blocks → ⊥) header has more (overflow_read image ok.header ok.overflow ok.read).0
  nothing_wrong (Limit bound number) wrong = none_over bound number wrong

not_this : (image : List ℕ) (at len volume : ℕ) → (HasMagic image at len → ⊥) → result_of image (volume_tree (length image) at len volume) ≡ Err NotThis
unfolding volume_tree
not_this image at len volume none =
    result_bind_err image (volume_header at len) (λ header. check (nat_le (length image) LONGEST_IMAGE) (Limit Image LONGEST_IMAGE) >>= (λ short. tree_below (length image) volume header)) NotThis ((header_law image at len).other none)

pub hfs_damage_law : HfsDamageLaw
hfs_damage_law image at len volume = record {
  other = not_this image at len volume;
  refuses = λ fault magic is. volume_refused image at len volume fault magic is;
  accepts = λ tree fault is wrong. nothing_wrong image at len volume (accepted image at len volume tree is) fault wrong;
  complete = λ magic nothing. either magic nothing (result_of image (volume_tree (length image) at len volume)) refl;
}
  where
    either : HasMagic image at len → ((fault : Refusal) → IsWrong image at len volume fault → ⊥) → (result : Result TreeValue Refusal) → result_of image (volume_tree (length image) at len volume) ≡ result
        → (tree : TreeValue) × (result_of image (volume_tree (length image) at len volume) ≡ Ok tree)
    either magic nothing (Ok tree) is = (tree, is)
    either magic nothing (Err fault) is = absurd (nothing fault (volume_refused image at len volume fault magic is))
