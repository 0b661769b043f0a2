-- Laws of reading.
use Rattle.std.proofs.Common.{◌+◌, ◌↔◌, ◌-◌, ◌≡◌, ◌≢◌, ℕ, zero, suc, ◌≤◌, Bool, true, false, Option, Some, None, Result, Ok, Err, drop, length, List, [], ◌∷◌, ◌++◌, ◌⊎◌, inl, inr, if◌then◌else◌, ⊎_elim, refl, sym, ◌∙◌, ap, subst, append_assoc, length-append, arith}
use Rattle.std.specs.Prelude.{map, option_map, encode_utf8_all}
use Rattle.std.proofs.lemmas.Str.{encodes-append}
use Rattle.std.specs.List.{All}
use Rattle.std.proofs.lemmas.List.{drop_at}
use Rattle.std.proofs.lemmas.List.Elements.{All-head, All-tail, All-cons, All-nil}
use Rattle.std.proofs.lemmas.Bool.{ne_eqb, eq-eqb, cases_eq}
use Rattle.rx_pattern.specs.declared.class.Class.{Class}
use Rattle.rx_pattern.specs.declared.item.Item.{Item}
use Rattle.rx_pattern.specs.declared.item.Item.TheVariants.{Plain, AnyOne, Star, OneOf}
use Rattle.rx_pattern.specs.Reading.{IsOrdinary, members_of, before_closing, inside_of, is_negated, behind_mark, class_of, class_width, item_of, item_from, item_width, in_front, behind_items, items_past, items_of, byte_len, with_place, read_pattern, IsFirstOpen}
use Rattle.rx_pattern.proofs.ItemsOf.{items_of-first, items_of-class}
use Rattle.rx_pattern.proofs.Closing.{inside_of-plain, inside_of-negated, class_width-plain, class_width-negated}

-- characters without `*`, `?` and `[` stand for themselves
pub plain_reads : (letters : List ℕ) → All IsOrdinary letters → items_of letters ≡ Ok (map Plain letters)
unfolding items_past
plain_reads [] ordinary = refl
plain_reads (letter ∷ letters) ordinary =
    let first : IsOrdinary letter = All-head IsOrdinary letter letters ordinary in
    let rest = plain_reads letters (All-tail IsOrdinary letter letters ordinary) in
    let is_plain : item_of letter ≡ Plain letter = rw (ne_eqb letter 42 first.no_star) (rw (ne_eqb letter 63 first.no_question) refl) in
    rw (ne_eqb letter 91 first.no_bracket) (ap (λ item. in_front (Some item) (letter ∷ letters) (items_of letters)) is_plain
    ∙ ap (in_front (Some (Plain letter)) (letter ∷ letters)) rest)

-- a character that isn't a `]`
abbrev IsInner : ℕ → Type 0
IsInner c = c ≢ 93

-- the next `]` closes
closing_found : (others behind : List ℕ) → All IsInner others → before_closing (others ++ 93 ∷ behind) ≡ Some others
unfolding before_closing
closing_found [] behind inner = refl
closing_found (c ∷ others) behind inner =
    rw (ne_eqb c 93 (All-head IsInner c others inner)) (ap (option_map (λ inside. c ∷ inside)) (closing_found others behind (All-tail IsInner c others inner)))

closing_missing : (others : List ℕ) → All IsInner others → before_closing others ≡ None
unfolding before_closing
closing_missing [] inner = refl
closing_missing (c ∷ others) inner =
    rw (ne_eqb c 93 (All-head IsInner c others inner)) (ap (option_map (λ inside. c ∷ inside)) (closing_missing others (All-tail IsInner c others inner)))

pub class_closes : (first : ℕ) (others behind : List ℕ) → All (λ c. c ≢ 93) others → inside_of (first ∷ others ++ 93 ∷ behind) ≡ Some (first ∷ others)
class_closes first others behind inner = ap (option_map (λ inside. first ∷ inside)) (closing_found others behind inner)

pub class_stays_open : (first : ℕ) (others : List ℕ) → All (λ c. c ≢ 93) others → inside_of (first ∷ others) ≡ None
class_stays_open first others inner = ap (option_map (λ inside. first ∷ inside)) (closing_missing others inner)

-- where a mapped option has a value, the option has one
option_map-shows : {A B : Type 0} (f : A → B) (o : Option A) (value : B) → option_map f o ≡ Some value → (inner : A) × (o ≡ Some inner) × (value ≡ f inner)
option_map-shows f None value is = cc
option_map-shows f (Some inner) value is = (inner, refl, cc)

-- the characters in front of the first `]`, and what is behind it
record IsClosed (text inside : List ℕ) : Type 0 where
  behind : List ℕ
  whole : text ≡ inside ++ 93 ∷ behind
  inner : All IsInner inside

closing_shows : (text inside : List ℕ) → before_closing text ≡ Some inside → IsClosed text inside
unfolding before_closing
closing_shows [] inside found = cc
closing_shows (c ∷ text) inside found =
    ⊎_elim
    (λ closes.
    let none : [] ≡ inside = cc (rw (eq-eqb c 93 closes) at found) in
    subst (IsClosed (c ∷ text)) none record { behind = text; whole = ap (λ c. c ∷ text) closes; inner = All-nil IsInner })
    (λ other.
    let rest = option_map-shows (λ inside. c ∷ inside) (before_closing text) inside (rw (ne_eqb c 93 other) at found) in
    let closed = closing_shows text rest.0 rest.1 in
    subst (IsClosed (c ∷ text)) (sym rest.2)
    record { behind = closed.behind; whole = ap (λ text. c ∷ text) closed.whole; inner = All-cons IsInner c rest.0 other closed.inner })
    (cases_eq c 93)

-- the text of a class is closed whatever follows it
record IsInsideOf (text inside : List ℕ) : Type 0 where
  behind : List ℕ
  whole : text ≡ inside ++ 93 ∷ behind
  kept : (more : List ℕ) → inside_of (inside ++ 93 ∷ more) ≡ Some inside

inside_shows : (text inside : List ℕ) → inside_of text ≡ Some inside → IsInsideOf text inside
inside_shows [] inside found = cc
inside_shows (first ∷ text) inside found =
    let rest = option_map-shows (λ others. first ∷ others) (before_closing text) inside found in
    let closed = closing_shows text rest.0 rest.1 in
    subst (IsInsideOf (first ∷ text)) (sym rest.2)
    record { behind = closed.behind; whole = ap (λ text. first ∷ text) closed.whole; kept = λ more. class_closes first rest.0 more closed.inner }

-- the text of an item behind its first character: it says the item whatever follows
record IsItemText (c : ℕ) (cs : List ℕ) (item : Item) : Type 0 where
  text : List ℕ
  behind : List ℕ
  whole : cs ≡ text ++ behind
  width : item_width c cs ≡ length text
  kept : (more : List ℕ) → item_from c (text ++ more) ≡ Some item
  kept_width : (more : List ℕ) → item_width c (text ++ more) ≡ length text

-- a class with its `!`, or none, in front of its characters
class_text : (mark inside behind cs : List ℕ) (negated : Bool) (class : Class) → cs ≡ mark ++ (inside ++ 93 ∷ behind)
    → ((more : List ℕ) → inside_of (behind_mark (mark ++ (inside ++ 93 ∷ more))) ≡ Some inside)
    → ((more : List ℕ) → is_negated (mark ++ (inside ++ 93 ∷ more)) ≡ negated)
    → (if negated then 1 else 0) ≡ length mark → class ≡ record { negated = negated; members = members_of inside }
    → IsItemText 91 cs (OneOf class)
class_text mark inside behind cs negated class whole reads marked mark_len is_class =
    let text : List ℕ = mark ++ (inside ++ 93 ∷ []) in
    let laid : (more : List ℕ) → text ++ more ≡ mark ++ (inside ++ 93 ∷ more) =
    λ more. append_assoc mark (inside ++ 93 ∷ []) more ∙ ap (λ rest. mark ++ rest) (append_assoc inside (93 ∷ []) more) in
    let width : (more : List ℕ) → class_width (mark ++ (inside ++ 93 ∷ more)) ≡ length text =
    λ more. rw (reads more, marked more) (omega (arith, mark_len, length-append mark (inside ++ 93 ∷ []), length-append inside (93 ∷ []))) in
    let item : (more : List ℕ) → item_from 91 (mark ++ (inside ++ 93 ∷ more)) ≡ Some (OneOf class) =
    λ more. rw (reads more, marked more) (ap (λ class. Some (OneOf class)) (sym is_class)) in
    record {
      text = text;
      behind = behind;
      whole = whole ∙ sym (laid behind);
      width = ap class_width whole ∙ width behind;
      kept = λ more. ap (item_from 91) (laid more) ∙ item more;
      kept_width = λ more. ap class_width (laid more) ∙ width more;
    }

unmarked : (inside behind cs more : List ℕ) (c : ℕ) → c ∷ cs ≡ inside ++ 93 ∷ behind → (c ≡ 33 → ⊥) → is_negated (inside ++ 93 ∷ more) ≡ false
unmarked [] behind cs more c whole plain = refl
unmarked (first ∷ inside) behind cs more c whole plain =
    let same : c ≡ first = cc in
    ne_eqb first 33 (λ mark. plain (same ∙ mark))

class_shows : (cs : List ℕ) (class : Class) → class_of cs ≡ Some class → IsItemText 91 cs (OneOf class)
class_shows [] class found = cc
class_shows (c ∷ cs) class found =
    ⊎_elim
    (λ negated.
    let there = eq-eqb c 33 negated in
    let is_class = option_map-shows (λ inside. record { negated = true; members = members_of inside }) (inside_of cs) class (rw there at found) in
    let closed = inside_shows cs is_class.0 is_class.1 in
    class_text (c ∷ []) is_class.0 closed.behind (c ∷ cs) true class (ap (λ cs. c ∷ cs) closed.whole) (λ more. rw there (closed.kept more)) (λ more. there) refl is_class.2)
    (λ plain.
    let absent = ne_eqb c 33 plain in
    let is_class = option_map-shows (λ inside. record { negated = false; members = members_of inside }) (inside_of (c ∷ cs)) class (rw absent at found) in
    let closed = inside_shows (c ∷ cs) is_class.0 is_class.1 in
    let unmarked : (more : List ℕ) → is_negated (is_class.0 ++ 93 ∷ more) ≡ false = λ more. unmarked is_class.0 closed.behind cs more c closed.whole plain in
    class_text [] is_class.0 closed.behind (c ∷ cs) false class closed.whole (λ more. rw (unmarked more) (closed.kept more)) unmarked refl is_class.2)
    (cases_eq c 33)

item_shows : (c : ℕ) (cs : List ℕ) (item : Item) → item_from c cs ≡ Some item → IsItemText c cs item
item_shows c cs item found =
    ⊎_elim
    (λ bracket.
    let is_class = option_map-shows OneOf (class_of cs) item (rw (eq-eqb c 91 bracket) at found) in
    subst (λ c. IsItemText c cs item) (sym bracket) (subst (IsItemText 91 cs) (sym is_class.2) (class_shows cs is_class.0 is_class.1)))
    (λ other.
    let absent = ne_eqb c 91 other in
    record {
      text = [];
      behind = cs;
      whole = refl;
      width = rw absent refl;
      kept = λ more. rw absent (rw absent at found);
      kept_width = λ more. rw absent refl;
    })
    (cases_eq c 91)

in_front-ok : (found : Option Item) (text : List ℕ) (rest : Result (List Item) (List ℕ)) (items : List Item) → in_front found text rest ≡ Ok items
    → (item : Item) × (others : List Item) × (found ≡ Some item) × (rest ≡ Ok others) × (items ≡ item ∷ others)
in_front-ok None text rest items is = cc
in_front-ok (Some item) text (Err unread) items is = cc
in_front-ok (Some item) text (Ok others) items is = (item, others, refl, refl, cc)

in_front-err : (found : Option Item) (text : List ℕ) (rest : Result (List Item) (List ℕ)) (unread : List ℕ) → in_front found text rest ≡ Err unread
    → ((found ≡ None) × (unread ≡ text)) ⊎ ((item : Item) × (found ≡ Some item) × (rest ≡ Err unread))
in_front-err None text rest unread is = inl (refl, cc)
in_front-err (Some item) text (Err other) unread is = inr (item, refl, cc)
in_front-err (Some item) text (Ok others) unread is = cc

behind_items-nil : (rest : Result (List Item) (List ℕ)) → behind_items [] rest ≡ rest
behind_items-nil (Ok items) = refl
behind_items-nil (Err unread) = refl

behind_items-more : (item : Item) (front : List Item) (text : List ℕ) (rest : Result (List Item) (List ℕ))
    → in_front (Some item) text (behind_items front rest) ≡ behind_items (item ∷ front) rest
behind_items-more item front text (Ok items) = refl
behind_items-more item front text (Err unread) = refl

-- a text behind one that reads
items_past-append : (passed : ℕ) (text more : List ℕ) (front : List Item) → passed ≤ length text → items_past passed text ≡ Ok front
    → items_past passed (text ++ more) ≡ behind_items front (items_of more)
unfolding items_past
items_past-append zero [] more front within reads =
    let none : [] ≡ front = cc in
    sym (ap (λ front. behind_items front (items_of more)) (sym none) ∙ behind_items-nil (items_of more))
items_past-append (suc passed) [] more front within reads = absurd (omega arith)
items_past-append (suc passed) (c ∷ text) more front within reads = items_past-append passed text more front (omega arith) reads
items_past-append zero (c ∷ text) more front within reads =
    let first = in_front-ok (item_from c text) (c ∷ text) (items_past (item_width c text) text) front reads in
    let shown = item_shows c text first.0 first.2 in
    let sizes = ap length shown.whole ∙ length-append shown.text shown.behind in
    let later = items_past-append (item_width c text) text more first.1 (omega (arith, shown.width)) first.3 in
    let joined : text ++ more ≡ shown.text ++ (shown.behind ++ more) = ap (λ text. text ++ more) shown.whole ∙ append_assoc shown.text shown.behind more in
    let item : item_from c (text ++ more) ≡ Some first.0 = ap (item_from c) joined ∙ shown.kept (shown.behind ++ more) in
    let width : item_width c (text ++ more) ≡ item_width c text =
    ap (item_width c) joined ∙ shown.kept_width (shown.behind ++ more) ∙ sym shown.width in
    ap (λ found. in_front found (c ∷ text ++ more) (items_past (item_width c (text ++ more)) (text ++ more))) item
    ∙ ap (λ passed. in_front (Some first.0) (c ∷ text ++ more) (items_past passed (text ++ more))) width
    ∙ ap (in_front (Some first.0) (c ∷ text ++ more)) later
    ∙ behind_items-more first.0 first.1 (c ∷ text ++ more) (items_of more)
    ∙ ap (λ front. behind_items front (items_of more)) (sym first.4)

-- a text that reads leaves what follows it as it is
pub front_reads : (text more : List ℕ) (front : List Item) → items_of text ≡ Ok front → items_of (text ++ more) ≡ behind_items front (items_of more)
front_reads text more front reads = items_past-append 0 text more front (omega arith) reads

option_map-none : {A B : Type 0} (f : A → B) (o : Option A) → option_map f o ≡ None → o ≡ None
option_map-none f None is = refl
option_map-none f (Some inner) is = cc

-- only a `[` that isn't closed begins no item
item_missing : (c : ℕ) (cs : List ℕ) → item_from c cs ≡ None → (c ≡ 91) × (class_of cs ≡ None)
item_missing c cs missing =
    ⊎_elim
    (λ bracket. (bracket, option_map-none OneOf (class_of cs) (rw (eq-eqb c 91 bracket) at missing)))
    (λ other. let some : Some (item_of c) ≡ None = rw (ne_eqb c 91 other) at missing in cc)
    (cases_eq c 91)

-- a text reads up to a `[` that isn't closed, and what is from there on
record ReadsUpTo (text unread : List ℕ) : Type 0 where
  before : List ℕ
  items : List Item
  behind : List ℕ
  whole : text ≡ before ++ unread
  closed : items_of before ≡ Ok items
  bracket : unread ≡ 91 ∷ behind
  is_open : class_of behind ≡ None

-- a class that stays open is the first one
first_open : (passed : ℕ) (text unread : List ℕ) → items_past passed text ≡ Err unread → ReadsUpTo (drop passed text) unread
unfolding items_past
first_open zero [] unread stops = cc
first_open (suc passed) [] unread stops = cc
first_open (suc passed) (c ∷ text) unread stops = first_open passed text unread stops
first_open zero (c ∷ text) unread stops =
    ⊎_elim
    (λ none.
    let missing = item_missing c text none.0 in
    record {
      before = [];
      items = [];
      behind = text;
      whole = sym none.1;
      closed = refl;
      bracket = none.1 ∙ ap (λ c. c ∷ text) missing.0;
      is_open = missing.1;
    })
    (λ first.
    let shown = item_shows c text first.0 first.1 in
    let later = first_open (item_width c text) text unread first.2 in
    let behind : drop (item_width c text) text ≡ shown.behind =
    ap (drop (item_width c text)) shown.whole ∙ drop_at shown.text shown.behind (item_width c text) (sym shown.width) in
    let closed : List ℕ = shown.text ++ later.before in
    record {
      before = c ∷ closed;
      items = first.0 ∷ later.items;
      behind = later.behind;
      whole = ap (λ text. c ∷ text) (shown.whole ∙ ap (λ rest. shown.text ++ rest) (sym behind ∙ later.whole) ∙ sym (append_assoc shown.text later.before unread));
      closed = items_of-first c closed
          ∙ ap (λ found. in_front found (c ∷ closed) (items_of (drop (item_width c closed) closed))) (shown.kept later.before)
          ∙ ap (λ width. in_front (Some first.0) (c ∷ closed) (items_of (drop width closed))) (shown.kept_width later.before)
          ∙ ap (λ rest. in_front (Some first.0) (c ∷ closed) (items_of rest)) (drop_at shown.text later.before (length shown.text) refl)
          ∙ ap (in_front (Some first.0) (c ∷ closed)) later.closed;
      bracket = later.bracket;
      is_open = later.is_open;
    })
    (in_front-err (item_from c text) (c ∷ text) (items_past (item_width c text) text) unread stops)

byte_len-append : (before unread : List ℕ) → byte_len (before ++ unread) - byte_len unread ≡ byte_len before
byte_len-append before unread =
    let bytes : byte_len (before ++ unread) ≡ byte_len before + byte_len unread =
    ap length (encodes-append before unread) ∙ length-append (encode_utf8_all before) (encode_utf8_all unread) in
    omega arith

-- the byte that is told is that of the first `[` that isn't closed
told_first : (text : List ℕ) (at : ℕ) (reading : Result (List Item) (List ℕ)) → items_of text ≡ reading → with_place text reading ≡ Err at → IsFirstOpen text at
told_first text at (Ok items) reads told = cc
told_first text at (Err unread) reads told =
    let found = first_open 0 text unread reads in
    let place : byte_len text - byte_len unread ≡ at = cc in
    record {
      before = found.before;
      items = found.items;
      behind = found.behind;
      whole = found.whole ∙ ap (λ rest. found.before ++ rest) found.bracket;
      place = sym place ∙ ap (λ text. byte_len text - byte_len unread) found.whole ∙ byte_len-append found.before unread;
      closed = found.closed;
      is_open = found.is_open;
    }

open_class_stops : (behind : List ℕ) → class_of behind ≡ None → items_of (91 ∷ behind) ≡ Err (91 ∷ behind)
open_class_stops behind is_open = items_of-first 91 behind ∙ rw is_open refl

first_told : (text : List ℕ) (at : ℕ) → IsFirstOpen text at → read_pattern text ≡ Err at
first_told text at first =
    let unread : List ℕ = 91 ∷ first.behind in
    let stops : items_of text ≡ Err unread =
    ap items_of first.whole ∙ front_reads first.before unread first.items first.closed ∙ ap (behind_items first.items) (open_class_stops first.behind first.is_open) in
    ap (with_place text) stops
    ∙ ap Err (ap (λ text. byte_len text - byte_len unread) first.whole ∙ byte_len-append first.before unread ∙ sym first.place)

pub first_open_is_told : (text : List ℕ) (at : ℕ) → (read_pattern text ≡ Err at) ↔ IsFirstOpen text at
first_open_is_told text at = (λ told. told_first text at (items_of text) refl told, first_told text at)

in_front-behind : (item : Item) (text : List ℕ) (rest : Result (List Item) (List ℕ)) → in_front (Some item) text rest ≡ behind_items (item ∷ []) rest
in_front-behind item text (Ok items) = refl
in_front-behind item text (Err unread) = refl

-- a character that begins no class is one item
one_reads : (c : ℕ) (text : List ℕ) (item : Item) → (c ≡ 91 → ⊥) → item_of c ≡ item → items_of (c ∷ text) ≡ behind_items (item ∷ []) (items_of text)
unfolding items_past
one_reads c text item other is_item =
    rw (ne_eqb c 91 other) (ap (λ item. in_front (Some item) (c ∷ text) (items_of text)) is_item) ∙ in_front-behind item (c ∷ text) (items_of text)

pub empty_reads : items_of [] ≡ Ok []
unfolding items_past
empty_reads = refl

pub star_reads : (text : List ℕ) → items_of (42 ∷ text) ≡ behind_items (Star ∷ []) (items_of text)
star_reads text = one_reads 42 text Star (λ same. absurd (omega (arith, same))) refl

pub question_reads : (text : List ℕ) → items_of (63 ∷ text) ≡ behind_items (AnyOne ∷ []) (items_of text)
question_reads text = one_reads 63 text AnyOne (λ same. absurd (omega (arith, same))) refl

pub ordinary_reads : (c : ℕ) (text : List ℕ) → IsOrdinary c → items_of (c ∷ text) ≡ behind_items (Plain c ∷ []) (items_of text)
ordinary_reads c text ordinary =
    one_reads c text (Plain c) ordinary.no_bracket (rw (ne_eqb c 42 ordinary.no_star) (rw (ne_eqb c 63 ordinary.no_question) refl))

-- a class is one item
class_reads_as : (cs inside text : List ℕ) (negated : Bool) → is_negated cs ≡ negated → inside_of (behind_mark cs) ≡ Some inside → text ≡ drop (class_width cs) cs
    → items_of (91 ∷ cs) ≡ behind_items (OneOf (record { negated = negated; members = members_of inside }) ∷ []) (items_of text)
class_reads_as cs inside text negated mark closed is_behind =
    items_of-class (items_of (91 ∷ cs)) [] (91 ∷ cs) cs inside text negated (sym (behind_items-nil (items_of (91 ∷ cs)))) refl mark closed is_behind

pub class_reads : (first : ℕ) (others text : List ℕ) → All (λ c. c ≢ 93) others → first ≢ 33
    → items_of (91 ∷ (first ∷ others ++ 93 ∷ text)) ≡ behind_items (OneOf (record { negated = false; members = members_of (first ∷ others) }) ∷ []) (items_of text)
class_reads first others text inner plain =
    let cs : List ℕ = first ∷ others ++ 93 ∷ text in
    let mark : is_negated cs ≡ false = ne_eqb first 33 plain in
    let closed : inside_of cs ≡ Some (first ∷ others) = class_closes first others text inner in
    class_reads_as cs (first ∷ others) text false mark (inside_of-plain cs (Some (first ∷ others)) mark closed)
    (class_width-plain cs (first ∷ others) text mark closed refl)

pub negated_reads : (first : ℕ) (others text : List ℕ) → All (λ c. c ≢ 93) others
    → items_of (91 ∷ 33 ∷ (first ∷ others ++ 93 ∷ text)) ≡ behind_items (OneOf (record { negated = true; members = members_of (first ∷ others) }) ∷ []) (items_of text)
negated_reads first others text inner =
    let body : List ℕ = first ∷ others ++ 93 ∷ text in
    let closed : inside_of body ≡ Some (first ∷ others) = class_closes first others text inner in
    class_reads_as (33 ∷ body) (first ∷ others) text true refl (inside_of-negated (33 ∷ body) body (Some (first ∷ others)) refl refl closed)
    (class_width-negated (33 ∷ body) body (first ∷ others) text refl refl closed refl)

-- a `*` between two texts that read is a star between their items
pub star_between : (first last : List ℕ) (front back : List Item) → items_of first ≡ Ok front → items_of last ≡ Ok back
    → items_of (first ++ 42 ∷ last) ≡ Ok (front ++ Star ∷ back)
star_between first last front back reads back_reads =
    front_reads first (42 ∷ last) front reads ∙ ap (behind_items front) (star_reads last ∙ ap (behind_items (Star ∷ [])) back_reads)

pub star_alone : items_of (42 ∷ []) ≡ Ok (Star ∷ [])
star_alone = star_reads [] ∙ ap (behind_items (Star ∷ [])) empty_reads
