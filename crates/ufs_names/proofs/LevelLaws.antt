-- The walk goes down from level to level.
use Rattle.std.specs.Prelude.{◌≡◌, ◌≢◌, ℕ, zero, suc, ◌+◌, ◌-◌, ◌<◌, Bool, ◌==◌, true, false, All, IsErr, IsErrAnd, Option, Result, Ok, Err, List, [], ◌∷◌, length, drop, refl, if◌then◌else◌}
use Rattle.std.specs.List.{AllByRecursion, filter}
use Rattle.std.proofs.Common.{arith, ap, sym, subst, ◌∙◌}
use Rattle.std.proofs.lemmas.Bool.Decides.{Decides-eqb}
use Rattle.std.proofs.lemmas.List.Elements.{recursion_from_All, All-from_recursion}
use Rattle.range_defs.specs.declared.Range.{Range}
use Rattle.image_defs.specs.Ask.{Ask}
use Rattle.image_reads.specs.Steps.{ReadsAs}
use Rattle.image_reads.proofs.Coming.{IsCome}
use Rattle.image_defs.specs.Through.{through}
use Rattle.fault_defs.specs.declared.Refusal.{Refusal}
use Rattle.fault_defs.specs.declared.Refusal.TheVariants as refusal
use Rattle.fault_defs.specs.declared.Bound.TheVariants.{Depth}
use Rattle.rx_store.specs.declared.read_fault.ReadFault.{ReadFault}
use Rattle.rx_store.specs.declared.read_fault.ReadFault.TheVariants.{Limit}
use Rattle.image_reads.proofs.Steps.{comes_value, comes_fault, comes_done, comes_stop, ends_with}
use Rattle.ufs_inode_defs.specs.declared.superblock.Super.{Super}
use Rattle.ufs_volume_defs.specs.Names.{Named, Walk, deepest, directories_behind, directory_names, names_below, names_directory}
use Rattle.ufs_names.specs.Walked.{IsNamed}

-- the directories among names are such names
all_filtered : (P : Named → Type 0) (names : List Named) → AllByRecursion P names → AllByRecursion P (filter names_directory names)
all_filtered P [] all = tt
all_filtered P (name ∷ names) all = by_test (names_directory name) (all_filtered P names all.1)
  where
    by_test : (test : Bool) → AllByRecursion P (filter names_directory names) → AllByRecursion P (if test then name ∷ filter names_directory names else filter names_directory names)
    by_test true rest = (all.0, rest)
    by_test false rest = rest

all_dropped : (P : Named → Type 0) (count : ℕ) (names : List Named) → AllByRecursion P names → AllByRecursion P (drop count names)
all_dropped P zero names all = all
all_dropped P (suc count) [] all = tt
all_dropped P (suc count) (name ∷ names) all = all_dropped P count names all.1

pub behind_named : (sup : Super) (count : ℕ) (names : List Named) → All (IsNamed sup) names → All (IsNamed sup) (directories_behind count names)
behind_named sup count names all =
    All-from_recursion (IsNamed sup) (directories_behind count names) (all_filtered (IsNamed sup) (drop count names) (all_dropped (IsNamed sup) count names (recursion_from_All (IsNamed sup) names all)))

module _ (told : Option (List ℕ)) (whole : Ask Refusal Walk) (before now : List Range) (sup : Super) (walk : Walk) where
  -- no directory is left
  pub level_ends : (depths : ℕ) (directories : List Named) → directories ≡ [] → IsCome told whole before (names_below depths sup walk directories) now → ReadsAs told whole before now (Ok walk)
  unfolding names_below
  level_ends zero directories none come = let P : List Named → Type 0 = λ list. IsCome told whole before (names_below zero sup walk list) now in comes_done told whole before walk now (subst P none come)
  level_ends (suc depths) directories none come = let P : List Named → Type 0 = λ list. IsCome told whole before (names_below (suc depths) sup walk list) now in comes_done told whole before walk now (subst P none come)

  -- directories are left behind the last depth
  pub too_deep : (directories : List Named) (looked : List Range) → directories ≢ [] → IsCome told whole before (names_below zero sup walk directories) now → ReadsAs told whole before looked (Err (Limit Depth deepest))
  unfolding names_below
  too_deep [] looked some come = absurd (some refl)
  too_deep (directory ∷ directories) looked some come = comes_stop told whole before (refusal.Limit Depth deepest) now looked come

  -- the names of a level were found
  pub level_goes : (later : Option (List ℕ)) (depths : ℕ) (directories : List Named) (after : Walk) (looked : List Range) → later ≡ told → directories ≢ []
      → IsCome told whole before (names_below (suc depths) sup walk directories) now → ReadsAs later (through (directory_names sup) walk directories) now looked (Ok after)
      → IsCome told whole before (names_below depths sup after (directories_behind (length walk.names) after.names)) looked
  unfolding names_below
  level_goes later depths [] after looked same some come read = absurd (some refl)
  level_goes later depths (directory ∷ directories) after looked same some come read =
      comes_value told whole before later (through (directory_names sup) walk (directory ∷ directories)) (λ after. names_below depths sup after (directories_behind (length walk.names) after.names)) now same come after looked read

  -- they can't be found
  pub level_stops : (later : Option (List ℕ)) (depths : ℕ) (directories : List Named) (fault : ReadFault) (looked last : List Range) → later ≡ told → directories ≢ []
      → IsCome told whole before (names_below (suc depths) sup walk directories) now
      → (let failed : Result Walk ReadFault = Err fault in ReadsAs later (through (directory_names sup) walk directories) now looked failed)
      → ReadsAs told whole before last (Err fault)
  unfolding names_below
  level_stops later depths [] fault looked last same some come read = absurd (some refl)
  level_stops later depths (directory ∷ directories) fault looked last same some come read =
      comes_fault told whole before later (through (directory_names sup) walk (directory ∷ directories)) (λ after. names_below depths sup after (directories_behind (length walk.names) after.names)) now same come fault looked last read

-- whether a list of directories is empty, as a test says
pub none_left : (directories seen : List Named) (empty : Bool) → seen ≡ directories → empty ≡ (length seen == 0) → empty ≡ true → directories ≡ []
none_left [] seen empty same says is = refl
none_left (directory ∷ directories) seen empty same says is = let none : length seen ≡ 0 = (Decides-eqb (length seen) 0).0 (sym says ∙ is) in absurd (omega (arith, none, ap length same))

pub some_left : (directories seen : List Named) (empty : Bool) → seen ≡ directories → empty ≡ (length seen == 0) → empty ≡ false → directories ≢ []
some_left directories seen empty same says is = λ none.
    let zero_length : length seen ≡ 0 = ap length same ∙ ap length none in
    let test : (length seen == 0) ≡ true = (Decides-eqb (length seen) 0).1 zero_length in
    absurd (true≢false (sym test ∙ sym says ∙ is))
  where
    true≢false : true ≡ false → ⊥
    true≢false same = absurd cc

module _ (told : Option (List ℕ)) (whole : Ask Refusal Walk) (before now : List Range) (sup : Super) (walk : Walk) (later : Option (List ℕ)) (depth : ℕ) (directories seen : List Named)
    (same : later ≡ told) (some : directories ≢ []) (listed : seen ≡ directories) (deep : depth < 1025) (come : IsCome told whole before (names_below (1025 - depth) sup walk directories) now) where
  one_less : IsCome told whole before (names_below (suc (1025 - (depth + 1))) sup walk directories) now
  one_less =
      let P : ℕ → Type 0 = λ n. IsCome told whole before (names_below n sup walk directories) now in
      let less : 1025 - depth ≡ suc (1025 - (depth + 1)) = omega arith in
      subst P less come

  -- the next depth
  pub depth_goes : (after : Walk) (count : ℕ) (names behind : List Named) (looked : List Range) → count ≡ length walk.names → names ≡ after.names → behind ≡ directories_behind count names
      → ReadsAs later (through (directory_names sup) walk seen) now looked (Ok after)
      → IsCome told whole before (names_below (1025 - (depth + 1)) sup after behind) looked
  depth_goes after count names behind looked counts all is read =
      let P : List Named → Type 0 = λ list. ReadsAs later (through (directory_names sup) walk list) now looked (Ok after) in
      let Q : List Named → Type 0 = λ list. IsCome told whole before (names_below (1025 - (depth + 1)) sup after list) looked in
      subst Q (sym (is ∙ ap (λ n. directories_behind n names) counts ∙ ap (directories_behind (length walk.names)) all))
      (level_goes told whole before now sup walk later (1025 - (depth + 1)) directories after looked same some one_less (subst P listed read))

  -- its names can't be found
  pub depth_stops : (result : Result Walk ReadFault) (fault : ReadFault) (looked : List Range) → IsErr result → IsErrAnd result (λ other. other ≡ fault)
      → (let failed : Result Walk ReadFault = Err fault in ReadsAs later (through (directory_names sup) walk seen) now looked failed) → ReadsAs told whole before looked result
  depth_stops result fault looked is passed read =
      let P : List Named → Type 0 = λ list. (let failed : Result Walk ReadFault = Err fault in ReadsAs later (through (directory_names sup) walk list) now looked failed) in
      ends_with told whole before looked result fault is passed
      (level_stops told whole before now sup walk later (1025 - (depth + 1)) directories fault looked looked same some one_less (subst P listed read))
