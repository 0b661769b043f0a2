-- Which texts a pattern matches. A text is the list of its characters, each by its code point.
use Rattle.std.specs.Prelude.{◌≡◌, ℕ, Bool, true, false, not, ◌&&◌, ◌==◌, nat_le, if◌then◌else◌, IsTrue, List, [], ◌∷◌, ◌++◌}
use Rattle.std.specs.List.{list_any}
use Rattle.rx_pattern.specs.declared.class.Member.{Member}
use Rattle.rx_pattern.specs.declared.class.Member.TheVariants.{Single, Between}
use Rattle.rx_pattern.specs.declared.class.Class.{Class}
use Rattle.rx_pattern.specs.declared.item.Item.{Item}
use Rattle.rx_pattern.specs.declared.item.Item.TheVariants.{Plain, AnyOne, Star, OneOf}

-- whether a member of a class has a character
abbrev pub has_character : Member → ℕ → Bool
has_character (Single single) c = c == single
has_character (Between first last) c = nat_le first c && nat_le c last

-- whether a class takes a character: one of its members has it, or none of them where it is negated
abbrev pub class_takes : Class → ℕ → Bool
class_takes class c =
    if class.negated then not (list_any (λ member. has_character member c) class.members)
    else list_any (λ member. has_character member c) class.members

-- whether an item stands for one character, and takes this one
abbrev pub item_takes : Item → ℕ → Bool
item_takes (Plain plain) c = c == plain
item_takes AnyOne c = true
item_takes Star c = false
item_takes (OneOf class) c = class_takes class c

-- the text's first character is one that an item takes, and what is behind it is as wanted
abbrev pub BeginsWith : Item → (List ℕ → Type 0) → List ℕ → Type 0
BeginsWith item Later text = (c : ℕ) × (rest : List ℕ) × (text ≡ c ∷ rest) × IsTrue (item_takes item c) × Later rest

-- the items match the whole text: none the empty one, a star any beginning of it, and another item its first character
unfoldable pub Match : List Item → List ℕ → Type 0
Match [] text = text ≡ []
Match (Star ∷ items) text = (starred : List ℕ) × (rest : List ℕ) × (text ≡ starred ++ rest) × Match items rest
Match (Plain plain ∷ items) text = BeginsWith (Plain plain) (Match items) text
Match (AnyOne ∷ items) text = BeginsWith AnyOne (Match items) text
Match (OneOf class ∷ items) text = BeginsWith (OneOf class) (Match items) text

-- a text is split round what a star takes: its beginning matches the items in front of the star, and its end those behind it
pub record IsSplit (front back : List Item) (text : List ℕ) : Type 0 where
  pub before : List ℕ
  pub starred : List ℕ
  pub behind : List ℕ
  pub whole : text ≡ before ++ starred ++ behind
  pub front_matches : Match front before
  pub back_matches : Match back behind
