-- How a rule text reads. The first form is one line: FILENAME, a name in quotes, FILL and a byte in two hexadecimal
-- digits, with one space between the words, and at most a line feed behind it.
use Rattle.std.specs.Prelude.{◌≡◌, ℕ, ◌+◌, ◌-◌, ◌*◌, Bool, ◌&&◌, ◌||◌, ◌==◌, nat_le, IsTrue, ◌⊎◌, if◌then◌else◌, Option, Some, None, codes, List, [], ◌∷◌, ◌++◌, length}
use Rattle.std.specs.List.{list_all}
use Rattle.rule_defs.specs.declared.Rule.{Rule}
use Rattle.rule_defs.specs.declared.Condition.TheVariants.{FileName}
use Rattle.rule_defs.specs.declared.Action.TheVariants.{Fill}

-- whether a byte lies between two, both included
abbrev pub is_between : ℕ → ℕ → ℕ → Bool
is_between low high byte = nat_le low byte && nat_le byte high

-- whether a byte may stand in a name: a letter, a digit, '.', '_' or '-'
abbrev pub is_name_byte : ℕ → Bool
is_name_byte byte =
    is_between 97 122 byte || (is_between 65 90 byte || (is_between 48 57 byte || (byte == 46 || (byte == 95 || byte == 45))))

-- a name has 1 to 255 such bytes
abbrev pub is_plain_name : List ℕ → Bool
is_plain_name name = is_between 1 255 (length name) && list_all is_name_byte name

-- the value of a hexadecimal digit of either case
abbrev pub hex_value : ℕ → Option ℕ
hex_value byte =
    if is_between 48 57 byte then Some (byte - 48)
    else (if is_between 65 70 byte then Some (byte - 55) else (if is_between 97 102 byte then Some (byte - 87) else None))

-- the line of a rule with this name and these two digits
unfoldable pub first_line : List ℕ → ℕ → ℕ → List ℕ
first_line name high low = codes "FILENAME \"" ++ name ++ codes "\" FILL 0x" ++ high ∷ low ∷ []

-- a text in the first form: the name, the two digits with their values, and what ends the line
pub record IsFirstLine (text name : List ℕ) (fill : ℕ) : Type 0 where
  pub high : ℕ
  pub low : ℕ
  pub high_value : ℕ
  pub low_value : ℕ
  pub ending : List ℕ
  pub plain : IsTrue (is_plain_name name)
  pub high_is : hex_value high ≡ Some high_value
  pub low_is : hex_value low ≡ Some low_value
  pub fill_is : fill ≡ 16 * high_value + low_value
  pub ends : (ending ≡ []) ⊎ (ending ≡ 10 ∷ [])
  pub whole : text ≡ first_line name high low ++ ending

-- the one rule of such a text
abbrev pub first_rule : List ℕ → ℕ → Rule
first_rule name fill = record { number = 1; condition = FileName name; action = Fill fill }

-- the text says these rules
pub record Reads (text : List ℕ) (rules : List Rule) : Type 0 where
  pub name : List ℕ
  pub fill : ℕ
  pub line : IsFirstLine text name fill
  pub rules_are : rules ≡ first_rule name fill ∷ []

-- the text says no rules: it has another form
abbrev pub SaysNoRules : List ℕ → Type 0
SaysNoRules text = (rules : List Rule) → ¬ (Reads text rules)
