-- What the result of a reader of a volume says of the tree that the image tells.
use Rattle.std.specs.Prelude.{◌≡◌, ℕ, ◌<◌, false, nat_le, Option, Some, None, IfSome, Result, Ok, Err, List, [], ◌++◌, length}
use Rattle.std.specs.Result.{IsErr, IsErrAnd}
use Rattle.std.proofs.Common.{ap, sym, ◌∙◌, subst, arith}
use Rattle.std.proofs.lemmas.Bool.Decides.{nat_tests}
use Rattle.range_defs.specs.declared.Range.{Range}
use Rattle.range_defs.specs.declared.TheConstants.{LONGEST_IMAGE}
use Rattle.range_defs.specs.Places.{covers, longest_ranges}
use Rattle.bytes_defs.specs.declared.order.Order.{Order}
use Rattle.image_defs.specs.Ask.{result_of, visits, check, ◌>>◌}
use Rattle.image_defs.specs.Results.{with_value}
use Rattle.image_defs.proofs.Results.{result_bind_ok, result_bind_err}
use Rattle.image_reads.specs.Steps.{ReadsAs, SameBytes}
use Rattle.image_reads.proofs.Bytes.{same_longest}
use Rattle.rx_store.specs.Answers.{Answers}
use Rattle.rx_store.specs.declared.read_fault.ReadFault.{ReadFault}
use Rattle.rx_store.specs.declared.read_fault.ReadFault.TheVariants as read
use Rattle.fault_defs.specs.declared.Refusal.{Refusal}
use Rattle.fault_defs.specs.declared.Refusal.TheVariants.{NotThis, Damaged, Unsupported, Limit}
use Rattle.fault_defs.specs.declared.Bound.TheVariants.{Image}
use Rattle.rx_tree.specs.TreeValue.{TreeValue}
use Rattle.ufs_inode_defs.specs.Superblock.{volume_super}
use Rattle.ufs_inode_defs.specs.declared.superblock.Super.{Super}
use Rattle.ufs_volume_defs.specs.Volume.{FoundVolume, files_below, volume_at, guard_of, tree_of, volume_tree}

-- a fault says of a result what it says of the first one of two that are refused alike
fault_says : {X Y : Type 0} (fault : ReadFault) (one : Result X Refusal) (other : Result Y Refusal) → ((e : Refusal) → one ≡ Err e → other ≡ Err e)
    → (let from : Result X ReadFault = Err fault in Answers from one) → (let to : Result Y ReadFault = Err fault in Answers to other)
fault_says read.Device one other onward says = tt
fault_says read.NoMemory one other onward says = tt
fault_says read.NotThis one other onward says = onward NotThis says
fault_says (read.Damaged sort place) one other onward says = onward (Damaged sort place) says
fault_says (read.Unsupported what place) one other onward says = onward (Unsupported what place) says
fault_says (read.Limit bound number) one other onward says = onward (Limit bound number) says

-- the fault of a call, handed on
passed_on : {Y : Type 0} (result : Result Y ReadFault) (fault : ReadFault) (given : Result Y Refusal) → IsErr result → IsErrAnd result (λ other. other ≡ fault) → (let to : Result Y ReadFault = Err fault in Answers to given) → Answers result given
passed_on (Ok y) fault given is passed says = absurd cc
passed_on {Y} (Err other) fault given is passed says = let P : ReadFault → Type 0 = λ f. (let to : Result Y ReadFault = Err f in Answers to given) in subst P (sym passed) says

-- what is told of an image has its size
abbrev pub HasSize : ℕ → List ℕ → Type 0
HasSize size image = length image ≡ size

pub has_size : (told : Option (List ℕ)) (size now : ℕ) → size ≡ now → IfSome told (HasSize now) → IfSome told (HasSize size)
has_size None size now is has = tt
has_size (Some image) size now is has = has ∙ sym is

-- the tree in the code's words, where what was found was taken apart
pub tree_of_found : (size number at len : ℕ) (guard : List Range) (inside found : FoundVolume) → inside ≡ found → found.superblock.at ≡ at → found.superblock.len ≡ len
    → tree_of size (record { at = inside.superblock.at; len = inside.superblock.len }) number guard inside ≡ tree_of size (record { at = at; len = len }) number guard found
tree_of_found size number at len guard inside found opened begins long =
    ap (λ (f : FoundVolume). tree_of size (record { at = f.superblock.at; len = f.superblock.len }) number guard f) opened
    ∙ ap (λ n. tree_of size (record { at = n; len = found.superblock.len }) number guard found) begins
    ∙ ap (λ n. tree_of size (record { at = at; len = n }) number guard found) long

module _ (orders : List Order) (volume : Range) (number : ℕ) where
  abbrev GivesTree : Result TreeValue ReadFault → List ℕ → Type 0
  GivesTree result image = Answers result (volume_tree orders image volume number)

  -- where the program of the volume is refused, there is no tree
  no_tree : (image : List ℕ) (e : Refusal) → result_of image (volume_at orders (length image) volume number) ≡ Err e → volume_tree orders image volume number ≡ Err e
  unfolding volume_tree
  no_tree image e refused = ap (with_value (tree_of (length image) volume number (guard_of orders image volume number))) refused

  -- ---- an image that is too long

  too_long : (size : ℕ) → LONGEST_IMAGE < size → nat_le size LONGEST_IMAGE ≡ false
  too_long size long = grind (arith, nat_tests)

  is_long : (image : List ℕ) (size : ℕ) (sup : Super) → LONGEST_IMAGE < size → length image ≡ size → result_of image (volume_super orders volume) ≡ Ok sup → result_of image (volume_at orders (length image) volume number) ≡ Err (Limit Image LONGEST_IMAGE)
  unfolding volume_at
  is_long image size sup long sized gives =
      result_bind_ok image (volume_super orders volume) (λ sup. check (nat_le (length image) LONGEST_IMAGE) (Limit Image LONGEST_IMAGE) >> files_below sup number) sup gives
      ∙ ap (λ test. result_of image (check test (Limit Image LONGEST_IMAGE) >> files_below sup number)) (too_long (length image) (omega (arith, long, sized)))

  pub long_image : (told later : Option (List ℕ)) (size : ℕ) (sup : Super) → LONGEST_IMAGE < size → later ≡ told → IfSome told (HasSize size)
      → IfSome later (λ image. let found : Result Super ReadFault = Ok sup in Answers found (result_of image (volume_super orders volume))) → IfSome told (GivesTree (Err (read.Limit Image LONGEST_IMAGE)))
  long_image told later size sup long same sized gives =
      let P : Option (List ℕ) → Type 0 = λ known. IfSome known (λ image. let found : Result Super ReadFault = Ok sup in Answers found (result_of image (volume_super orders volume))) in
      by_told told sized (subst P same gives)
    where
      by_told : (known : Option (List ℕ)) → IfSome known (HasSize size) → IfSome known (λ image. let found : Result Super ReadFault = Ok sup in Answers found (result_of image (volume_super orders volume)))
          → IfSome known (GivesTree (Err (read.Limit Image LONGEST_IMAGE)))
      by_told None sized gives = tt
      by_told (Some image) sized gives = no_tree image (Limit Image LONGEST_IMAGE) (is_long image size sup long sized gives)

  super_wrong : (image : List ℕ) (e : Refusal) → result_of image (volume_super orders volume) ≡ Err e → volume_tree orders image volume number ≡ Err e
  unfolding volume_at
  super_wrong image e refused =
      no_tree image e (result_bind_err image (volume_super orders volume) (λ sup. check (nat_le (length image) LONGEST_IMAGE) (Limit Image LONGEST_IMAGE) >> files_below sup number) e refused)

  pub long_refused : (told later : Option (List ℕ)) (fault : ReadFault) (result : Result TreeValue ReadFault) → IsErr result → IsErrAnd result (λ other. other ≡ fault) → later ≡ told
      → IfSome later (λ image. let found : Result Super ReadFault = Err fault in Answers found (result_of image (volume_super orders volume))) → IfSome told (GivesTree result)
  long_refused told later fault result is passed same says =
      let P : Option (List ℕ) → Type 0 = λ known. IfSome known (λ image. let found : Result Super ReadFault = Err fault in Answers found (result_of image (volume_super orders volume))) in
      by_told told (subst P same says)
    where
      by_told : (known : Option (List ℕ)) → IfSome known (λ image. let found : Result Super ReadFault = Err fault in Answers found (result_of image (volume_super orders volume))) → IfSome known (GivesTree result)
      by_told None says = tt
      by_told (Some image) says =
          passed_on result fault (volume_tree orders image volume number) is passed (fault_says fault (result_of image (volume_super orders volume)) (volume_tree orders image volume number) (super_wrong image) says)

  -- ---- an image that isn't

  pub tree_refused : (told later : Option (List ℕ)) (size : ℕ) (fault : ReadFault) (before looked : List Range) (result : Result TreeValue ReadFault) → IsErr result → IsErrAnd result (λ other. other ≡ fault) → later ≡ told → IfSome told (HasSize size)
      → ReadsAs later (volume_at orders size volume number) before looked (Err fault) → IfSome told (GivesTree result)
  tree_refused told later size fault before looked result is passed same sized says =
      let P : Option (List ℕ) → Type 0 = λ known. ReadsAs known (volume_at orders size volume number) before looked (Err fault) in
      by_told told sized (subst P same says)
    where
      by_told : (known : Option (List ℕ)) → IfSome known (HasSize size) → ReadsAs known (volume_at orders size volume number) before looked (Err fault) → IfSome known (GivesTree result)
      by_told None sized says = tt
      by_told (Some image) sized says =
          passed_on result fault (volume_tree orders image volume number) is passed
          (fault_says fault (result_of image (volume_at orders size volume number)) (volume_tree orders image volume number)
          (λ e refused. no_tree image e (ap (λ n. result_of image (volume_at orders n volume number)) sized ∙ refused)) says.given)

  found_tree : (image : List ℕ) (size : ℕ) (found : FoundVolume) (looked : List Range) → length image ≡ size → result_of image (volume_at orders size volume number) ≡ Ok found → SameBytes looked (visits image (volume_at orders size volume number))
      → volume_tree orders image volume number ≡ Ok (tree_of size volume number (longest_ranges (covers looked) 0 size) found)
  unfolding volume_tree guard_of
  found_tree image size found looked sized gives kept =
      ap (λ n. with_value (tree_of n volume number (longest_ranges (covers (visits image (volume_at orders n volume number))) 0 n)) (result_of image (volume_at orders n volume number))) sized
      ∙ ap (with_value (tree_of size volume number (longest_ranges (covers (visits image (volume_at orders size volume number))) 0 size))) gives
      ∙ ap (λ guard. Ok (tree_of size volume number guard found)) (sym (same_longest looked (visits image (volume_at orders size volume number)) kept 0 size))

  pub tree_told : (told later : Option (List ℕ)) (size : ℕ) (found : FoundVolume) (before looked : List Range) (tree : TreeValue) → before ≡ [] → later ≡ told → IfSome told (HasSize size)
      → ReadsAs later (volume_at orders size volume number) before looked (Ok found) → tree ≡ tree_of size volume number (longest_ranges (covers looked) 0 size) found → IfSome told (GivesTree (Ok tree))
  tree_told told later size found before looked tree none same sized says is =
      let P : Option (List ℕ) → Type 0 = λ known. ReadsAs known (volume_at orders size volume number) before looked (Ok found) in
      by_told told sized (subst P same says)
    where
      by_told : (known : Option (List ℕ)) → IfSome known (HasSize size) → ReadsAs known (volume_at orders size volume number) before looked (Ok found) → IfSome known (GivesTree (Ok tree))
      by_told None sized says = tt
      by_told (Some image) sized says =
          found_tree image size found looked sized says.given (let N : List Range → Type 0 = λ ranges. SameBytes looked (ranges ++ visits image (volume_at orders size volume number)) in subst N none says.looks)
          ∙ ap Ok (sym is)
