-- A name in a directory has a path.
use Rattle.std.specs.Prelude.{◌≡◌, ℕ, ◌<◌, ◌≤◌, Bool, true, false, ◌&&◌, All, List, [], ◌∷◌, ◌++◌, length, refl, if◌then◌else◌}
use Rattle.std.proofs.Common.{arith}
use Rattle.std.specs.List.{list_all}
use Rattle.std.proofs.lemmas.Bool.Decides.{nat_tests}
use Rattle.std.proofs.lemmas.List.Elements.{recursion_from_All}
use Rattle.std.specs.List.{AllByRecursion}
use Rattle.name_defs.specs.Texts.{IsShownInName, bytes_text}
use Rattle.name_defs.proofs.ShownLaws.{bytes_text_shows}
use Rattle.rx_ranges.specs.Path.{IsPath, begins_with_slash, is_printed}
use Rattle.rx_tree.specs.Path.{is_root, joined_path}
use Rattle.ufs_volume_defs.specs.Names.{longest_path}

-- ---- what is printed

shown_printed : (byte : ℕ) → IsShownInName byte → is_printed byte ≡ true
shown_printed byte shown = grind (arith, nat_tests, shown)

all_printed : (bytes : List ℕ) → AllByRecursion IsShownInName bytes → list_all is_printed bytes ≡ true
all_printed [] all = refl
all_printed (byte ∷ bytes) all = rw (shown_printed byte all.0, all_printed bytes all.1) refl

printed-append : (xs ys : List ℕ) → list_all is_printed xs ≡ true → list_all is_printed ys ≡ true → list_all is_printed (xs ++ ys) ≡ true
printed-append [] ys one two = two
printed-append (x ∷ xs) ys one two = by_first (is_printed x) one (λ rest. printed-append xs ys rest two)
  where
    by_first : (first : Bool) → (first && list_all is_printed xs) ≡ true → (list_all is_printed xs ≡ true → list_all is_printed (xs ++ ys) ≡ true) → (first && list_all is_printed (xs ++ ys)) ≡ true
    by_first true both more = more both
    by_first false both more = both

rooted-append : (xs ys : List ℕ) → begins_with_slash xs ≡ true → begins_with_slash (xs ++ ys) ≡ true
rooted-append [] ys is = absurd cc
rooted-append (x ∷ xs) ys is = is

name_printed : (name : List ℕ) → All (λ byte. byte < 256) name → list_all is_printed (bytes_text name) ≡ true
name_printed name bytes = all_printed (bytes_text name) (recursion_from_All IsShownInName (bytes_text name) (bytes_text_shows name bytes))

-- the path of a name in a directory is a path
pub joined_is_path : (parent name path : List ℕ) → IsPath parent → All (λ byte. byte < 256) name → path ≡ joined_path parent (bytes_text name) → length path ≤ longest_path → IsPath path
joined_is_path parent name path is bytes joined fits = record {
  rooted = rw joined (by_root (is_root parent) (λ tail. rooted-append parent tail is.rooted));
  printed = rw joined (printed_by (is_root parent) is.printed (name_printed name bytes));
  short = fits;
}
  where
    by_root : (root : Bool) → ((tail : List ℕ) → begins_with_slash (parent ++ tail) ≡ true) → begins_with_slash (if root then parent ++ bytes_text name else (parent ++ 47 ∷ bytes_text name)) ≡ true
    by_root true tails = tails (bytes_text name)
    by_root false tails = tails (47 ∷ bytes_text name)

    printed_by : (root : Bool) → list_all is_printed parent ≡ true → list_all is_printed (bytes_text name) ≡ true → list_all is_printed (if root then parent ++ bytes_text name else (parent ++ 47 ∷ bytes_text name)) ≡ true
    printed_by true one two = printed-append parent (bytes_text name) one two
    printed_by false one two = printed-append parent (47 ∷ bytes_text name) one two
