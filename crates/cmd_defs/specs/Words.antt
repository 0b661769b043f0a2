-- The commands that words ask for.
use Rattle.std.specs.Prelude.{ℕ, Bool, false, ◌&&◌, ◌==◌, nat_le, if◌then◌else◌, Option, Some, None, option_and_then, codes, List, [], ◌∷◌}
use Rattle.std.specs.Bool.{then_some}
use Rattle.std.specs.Char.{is_ascii_digit}
use Rattle.std.specs.List.{list_all}
use Rattle.std.specs.Str.{bytes_eq}
use Rattle.std.specs.Str.Parse.{digits_value}
use Rattle.rx_tree.specs.declared.volume.FsKind.{FsKind}
use Rattle.rx_tree.specs.declared.volume.FsKind.TheVariants.{Ntfs, Ufs1, Ufs2, HfsPlus}
use Rattle.cmd_defs.specs.declared.command.Command.{Command}
use Rattle.cmd_defs.specs.declared.command.Command.TheVariants.{Inventory, Plan, Redact, Resume, Report, Selftest}

infixl 10 ◌>>=◌
-- what the second gives for the first, where both are there
abbrev pub ◌>>=◌ : {A B : Type 0} → Option A → (A → Option B) → Option B
first >>= second = option_and_then second first

-- the kind of file system that a word names
unfoldable pub kind_of : List ℕ → Option FsKind
kind_of word =
    if bytes_eq word (codes "ntfs") then Some Ntfs
    else (if bytes_eq word (codes "ufs1") then Some Ufs1
    else (if bytes_eq word (codes "ufs2") then Some Ufs2
    else (if bytes_eq word (codes "hfsplus") then Some HfsPlus else None)))

-- whether a word is one decimal digit, or several of which the first is not 0
abbrev pub is_numeral : List ℕ → Bool
is_numeral [] = false
is_numeral (only ∷ []) = is_ascii_digit only
is_numeral (first ∷ second ∷ rest) = if first == 48 then false else list_all is_ascii_digit (first ∷ second ∷ rest)

-- the number from `least` to `most` that a word writes, without a sign or leading zeros
unfoldable pub number_of : ℕ → ℕ → List ℕ → Option ℕ
number_of least most word =
    let number = digits_value 10 word in
    then_some (is_numeral word && nat_le least number && nat_le number most) number

-- the command `selftest` with these operands
unfoldable pub selftest_of : List ℕ → List ℕ → List ℕ → Option Command
selftest_of kind number files = do
  read_kind ← kind_of kind
  read_number ← number_of 0 4294967295 number
  read_files ← number_of 1 200 files
  Some (Selftest read_kind read_number read_files)

-- the lines of two words: `inventory IMAGE` and `report JOURNAL`
unfoldable pub two_words : List ℕ → Option Command
two_words verb =
    if bytes_eq verb (codes "inventory") then Some Inventory
    else (if bytes_eq verb (codes "report") then Some Report else None)

-- the lines of three words: `plan IMAGE RULES` and `resume IMAGE JOURNAL`, the image and the journal of which differ
unfoldable pub three_words : List ℕ → List ℕ → List ℕ → Option Command
three_words verb second third =
    if bytes_eq verb (codes "plan") then Some Plan
    else (if bytes_eq verb (codes "resume") then (if bytes_eq second third then None else Some Resume) else None)

-- the lines of four words: `redact IMAGE JOURNAL RULES`, the image and the journal of which differ, and
-- `selftest KIND NUMBER FILES`
unfoldable pub four_words : List ℕ → List ℕ → List ℕ → List ℕ → Option Command
four_words verb second third fourth =
    if bytes_eq verb (codes "redact") then (if bytes_eq second third then None else Some Redact)
    else (if bytes_eq verb (codes "selftest") then selftest_of second third fourth else None)

-- the command that words ask for, by their number and the first of them
unfoldable pub command_of : List (List ℕ) → Option Command
command_of (verb ∷ second ∷ []) = two_words verb
command_of (verb ∷ second ∷ third ∷ []) = three_words verb second third
command_of (verb ∷ second ∷ third ∷ fourth ∷ []) = four_words verb second third fourth
command_of other = None
