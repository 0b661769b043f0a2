-- How a pattern's text reads. A text is the list of its characters, each by its code point: `*` is 42, `?` 63, `[` 91,
-- `]` 93, `!` 33 and `-` 45.
use Rattle.std.specs.Prelude.{◌≡◌, ◌≢◌, ℕ, zero, suc, ◌+◌, ◌-◌, Bool, false, ◌==◌, if◌then◌else◌, Option, Some, None, option_map, unwrap_or, Result, Ok, Err, List, [], ◌∷◌, ◌++◌, length, drop, encode_utf8_all}
use Rattle.rx_pattern.specs.declared.class.Member.{Member}
use Rattle.rx_pattern.specs.declared.class.Member.TheVariants.{Single, Between}
use Rattle.rx_pattern.specs.declared.class.Class.{Class}
use Rattle.rx_pattern.specs.declared.item.Item.{Item}
use Rattle.rx_pattern.specs.declared.item.Item.TheVariants.{Plain, AnyOne, Star, OneOf}

-- the last character of a range, where a `-` and another character of the class follow the first one
abbrev pub range_end : List ℕ → Option ℕ
range_end [] = None
range_end (dash ∷ []) = None
range_end (dash ∷ last ∷ cs) = if dash == 45 then Some last else None

-- a character, or the range from it to a last one
abbrev pub member_from : ℕ → Option ℕ → Member
member_from first None = Single first
member_from first (Some last) = Between first last

-- how many characters behind its first one a member has
abbrev pub member_width : Option ℕ → ℕ
member_width None = 0
member_width (Some last) = 2

-- the members of a class, by its characters; the first `passed` of those belong to a member in front of them
unfoldable pub members_past : ℕ → List ℕ → List Member
members_past passed [] = []
members_past (suc passed) (c ∷ cs) = members_past passed cs
members_past zero (c ∷ cs) = member_from c (range_end cs) ∷ members_past (member_width (range_end cs)) cs

-- the members of a class, read from the left
abbrev pub members_of : List ℕ → List Member
members_of inside = members_past 0 inside

-- the characters in front of the first `]`; None where there is no `]`
unfoldable pub before_closing : List ℕ → Option (List ℕ)
before_closing [] = None
before_closing (c ∷ cs) = if c == 93 then Some [] else option_map (λ inside. c ∷ inside) (before_closing cs)

-- the characters of a class, in what follows its `[` or `[!`: the first is one also where it is a `]`, and the others
-- stand in front of the next `]`, which closes the class
abbrev pub inside_of : List ℕ → Option (List ℕ)
inside_of [] = None
inside_of (first ∷ cs) = option_map (λ others. first ∷ others) (before_closing cs)

-- whether a `!` follows the `[`
abbrev pub is_negated : List ℕ → Bool
is_negated [] = false
is_negated (c ∷ cs) = c == 33

-- what follows the `[`, or the `[!`
abbrev pub behind_mark : List ℕ → List ℕ
behind_mark cs = if is_negated cs then drop 1 cs else cs

-- the class that follows a `[`; None where it isn't closed
abbrev pub class_of : List ℕ → Option Class
class_of cs = option_map (λ inside. record { negated = is_negated cs; members = members_of inside }) (inside_of (behind_mark cs))

-- how many characters that class has behind its `[`, the `!` and the closing `]` among them
abbrev pub class_width : List ℕ → ℕ
class_width cs = (if is_negated cs then 1 else 0) + length (unwrap_or (inside_of (behind_mark cs)) []) + 1

-- the item of a character that begins no class
abbrev pub item_of : ℕ → Item
item_of c = if c == 42 then Star else (if c == 63 then AnyOne else Plain c)

-- the item that begins with a character; None where that is a `[` that isn't closed
abbrev pub item_from : ℕ → List ℕ → Option Item
item_from c cs = if c == 91 then option_map OneOf (class_of cs) else Some (item_of c)

-- how many characters behind its first one that item has
abbrev pub item_width : ℕ → List ℕ → ℕ
item_width c cs = if c == 91 then class_width cs else 0

-- a character that stands for itself: no `*`, `?` or `[`
pub record IsOrdinary (c : ℕ) : Type 0 where
  pub no_star : c ≢ 42
  pub no_question : c ≢ 63
  pub no_bracket : c ≢ 91

-- an item in front of those that the rest reads as; without an item the text itself is what doesn't read
abbrev pub in_front : Option Item → List ℕ → Result (List Item) (List ℕ) → Result (List Item) (List ℕ)
in_front None text items = Err text
in_front (Some item) text (Err unread) = Err unread
in_front (Some item) text (Ok items) = Ok (item ∷ items)

-- what a text reads as whose beginning reads as some items, and whose rest reads so
abbrev pub behind_items : List Item → Result (List Item) (List ℕ) → Result (List Item) (List ℕ)
behind_items front (Ok items) = Ok (front ++ items)
behind_items front (Err unread) = Err unread

-- the items of a text, the first `passed` characters of which belong to an item in front of them
unfoldable pub items_past : ℕ → List ℕ → Result (List Item) (List ℕ)
items_past passed [] = Ok []
items_past (suc passed) (c ∷ cs) = items_past passed cs
items_past zero (c ∷ cs) = in_front (item_from c cs) (c ∷ cs) (items_past (item_width c cs) cs)

-- the items of a pattern's text, read from the left, or what doesn't read: the text from the first `[` on that isn't
-- closed
abbrev pub items_of : List ℕ → Result (List Item) (List ℕ)
items_of text = items_past 0 text

-- the bytes of a text
abbrev pub byte_len : List ℕ → ℕ
byte_len text = length (encode_utf8_all text)

-- what doesn't read is told by the byte at which it begins in the text
abbrev pub with_place : List ℕ → Result (List Item) (List ℕ) → Result (List Item) ℕ
with_place text (Ok items) = Ok items
with_place text (Err unread) = Err (byte_len text - byte_len unread)

-- the items of a pattern's text, or the byte of the first `[` that isn't closed
abbrev pub read_pattern : List ℕ → Result (List Item) ℕ
read_pattern text = with_place text (items_of text)

-- a `[` that isn't closed begins at a byte; in front of it the text reads, so that each `[` there is closed
pub record IsFirstOpen (text : List ℕ) (at : ℕ) : Type 0 where
  pub before : List ℕ
  pub items : List Item
  pub behind : List ℕ
  pub whole : text ≡ before ++ 91 ∷ behind
  pub place : at ≡ byte_len before
  pub closed : items_of before ≡ Ok items
  pub is_open : class_of behind ≡ None
