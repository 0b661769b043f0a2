-- The items of a pattern's text, one by one.
use Rattle.std.proofs.Common.{◌≡◌, ℕ, zero, suc, ◌-◌, Bool, Some, None, Result, Ok, Err, drop, length, List, [], ◌∷◌, ◌++◌, refl, sym, ◌∙◌, ap, append_assoc, append-nil}
use Rattle.std.specs.Str.{chars, IsUtf8}
use Rattle.std.proofs.lemmas.Str.{encodes-chars}
use Rattle.std.proofs.lemmas.Bool.{ne_eqb}
use Rattle.rx_pattern.specs.declared.item.Item.{Item}
use Rattle.rx_pattern.specs.declared.item.Item.TheVariants.{OneOf}
use Rattle.rx_pattern.specs.Reading.{inside_of, behind_mark, is_negated, members_of, class_width, item_of, item_from, item_width, in_front, behind_items, items_past, items_of, with_place, read_pattern}

items_past-drop : (passed : ℕ) (cs : List ℕ) → items_past passed cs ≡ items_of (drop passed cs)
unfolding items_past
items_past-drop zero cs = refl
items_past-drop (suc passed) [] = refl
items_past-drop (suc passed) (c ∷ cs) = items_past-drop passed cs

pub items_of-first : (c : ℕ) (cs : List ℕ) → items_of (c ∷ cs) ≡ in_front (item_from c cs) (c ∷ cs) (items_of (drop (item_width c cs) cs))
unfolding items_past
items_of-first c cs = ap (in_front (item_from c cs) (c ∷ cs)) (items_past-drop (item_width c cs) cs)

behind_items-more : (so_far : List Item) (item : Item) (text : List ℕ) (rest : Result (List Item) (List ℕ))
    → behind_items so_far (in_front (Some item) text rest) ≡ behind_items (so_far ++ item ∷ []) rest
behind_items-more so_far item text (Ok items) = ap Ok (sym (append_assoc so_far (item ∷ []) items))
behind_items-more so_far item text (Err unread) = refl

-- one more item
more_items : (whole : Result (List Item) (List ℕ)) (so_far : List Item) (text : List ℕ) (c : ℕ) (cs : List ℕ) (item : Item) (width : ℕ)
    → whole ≡ behind_items so_far (items_of text) → text ≡ c ∷ cs → item_from c cs ≡ Some item → item_width c cs ≡ width
    → whole ≡ behind_items (so_far ++ item ∷ []) (items_of (drop width cs))
more_items whole so_far text c cs item width all begins is_item is_width =
    all ∙ ap (behind_items so_far) (ap items_of begins ∙ items_of-first c cs
    ∙ ap (λ found. in_front found (c ∷ cs) (items_of (drop (item_width c cs) cs))) is_item
    ∙ ap (λ width. in_front (Some item) (c ∷ cs) (items_of (drop width cs))) is_width)
    ∙ behind_items-more so_far item (c ∷ cs) (items_of (drop width cs))

pub items_of-plain : (whole : Result (List Item) (List ℕ)) (so_far : List Item) (text : List ℕ) (c : ℕ) (cs : List ℕ)
    → whole ≡ behind_items so_far (items_of text) → text ≡ c ∷ cs → (c ≡ 91 → ⊥) → whole ≡ behind_items (so_far ++ item_of c ∷ []) (items_of cs)
items_of-plain whole so_far text c cs all begins other =
    let no_class = ne_eqb c 91 other in
    more_items whole so_far text c cs (item_of c) 0 all begins (rw no_class refl) (rw no_class refl)

pub items_of-class : (whole : Result (List Item) (List ℕ)) (so_far : List Item) (text cs inside behind : List ℕ) (negated : Bool)
    → whole ≡ behind_items so_far (items_of text) → text ≡ 91 ∷ cs → is_negated cs ≡ negated → inside_of (behind_mark cs) ≡ Some inside
    → behind ≡ drop (class_width cs) cs
    → whole ≡ behind_items (so_far ++ OneOf (record { negated = negated; members = members_of inside }) ∷ []) (items_of behind)
items_of-class whole so_far text cs inside behind negated all begins mark closed is_behind =
    more_items whole so_far text 91 cs (OneOf (record { negated = negated; members = members_of inside })) (class_width cs) all begins
    (rw (closed, mark) refl) refl ∙ ap (λ cs. behind_items (so_far ++ OneOf (record { negated = negated; members = members_of inside }) ∷ []) (items_of cs)) (sym is_behind)

-- at a `[` that isn't closed the text doesn't read
pub read_pattern-unclosed : (text : List ℕ) (so_far : List Item) (rest : List ℕ) (cs : List ℕ) → IsUtf8 text → IsUtf8 rest
    → items_of (chars text) ≡ behind_items so_far (items_of (chars rest)) → chars rest ≡ 91 ∷ cs → inside_of (behind_mark cs) ≡ None
    → read_pattern (chars text) ≡ Err (length text - length rest)
read_pattern-unclosed text so_far rest cs utf8 rest_utf8 all begins unclosed =
    let stops : items_of (chars rest) ≡ Err (chars rest) = ap items_of begins ∙ items_of-first 91 cs ∙ rw unclosed refl ∙ ap Err (sym begins) in
    ap (with_place (chars text)) (all ∙ ap (behind_items so_far) stops) ∙ rw (encodes-chars text utf8, encodes-chars rest rest_utf8) refl

-- at its end the text has read
pub read_pattern-ended : (text : List ℕ) (so_far : List Item) (rest : List ℕ) → items_of text ≡ behind_items so_far (items_of rest) → rest ≡ []
    → read_pattern text ≡ Ok so_far
unfolding items_past
read_pattern-ended text so_far rest all ended =
    ap (with_place text) (all ∙ ap (λ cs. behind_items so_far (items_of cs)) ended ∙ ap Ok (append-nil so_far))
