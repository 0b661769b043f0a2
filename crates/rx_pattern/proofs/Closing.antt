-- Where a class closes.
use Rattle.std.proofs.Common.{◌≡◌, ℕ, ◌+◌, ◌-◌, true, false, Option, Some, None, drop, take, length, List, [], ◌∷◌, ◌++◌, refl, sym, ◌∙◌, ap, append_assoc, append-nil, length-append, arith}
use Rattle.std.specs.Prelude.{encode_utf8, encode_utf8_all, option_map}
use Rattle.std.proofs.lemmas.Str.{encodes-append, chars_from_encodes}
use Rattle.std.proofs.lemmas.Bool.{ne_eqb}
use Rattle.std.proofs.lemmas.List.{drop_at, take_at, drop-drop}
use Rattle.std.specs.Str.{chars, IsUtf8}
use Rattle.rx_pattern.specs.Reading.{before_closing, inside_of, is_negated, behind_mark, class_width}

-- in front of what is left of a text stand these characters of a class that isn't closed there
pub record IsInside (text rest : List ℕ) : Type 0 where
  pub front : List ℕ
  pub whole : text ≡ encode_utf8_all front ++ rest
  pub read : chars text ≡ front ++ chars rest
  pub inside : inside_of (chars text) ≡ option_map (λ others. front ++ others) (before_closing (chars rest))

option_map-map : (f g : List ℕ → List ℕ) (o : Option (List ℕ)) → option_map f (option_map g o) ≡ option_map (λ x. f (g x)) o
option_map-map f g None = refl
option_map-map f g (Some x) = refl

option_map-same : (f g : List ℕ → List ℕ) (o : Option (List ℕ)) → ((x : List ℕ) → f x ≡ g x) → option_map f o ≡ option_map g o
option_map-same f g None same = refl
option_map-same f g (Some x) same = ap Some (same x)

encode-one : (c : ℕ) → encode_utf8_all (c ∷ []) ≡ encode_utf8 c
encode-one c = append-nil (encode_utf8 c)

pub IsInside-first : (text others : List ℕ) (first : ℕ) → text ≡ encode_utf8 first ++ others → chars text ≡ first ∷ chars others → IsInside text others
IsInside-first text others first whole begins = record {
  front = first ∷ [];
  whole = whole ∙ ap (λ bytes. bytes ++ others) (sym (encode-one first));
  read = begins;
  inside = ap inside_of begins;
}

-- a character that isn't a `]` is one of the class
pub IsInside-more : (text rest behind : List ℕ) (c : ℕ) → IsInside text rest → rest ≡ encode_utf8 c ++ behind → chars rest ≡ c ∷ chars behind
    → (c ≡ 93 → ⊥) → IsInside text behind
unfolding before_closing
IsInside-more text rest behind c so_far bytes begins other = record {
  front = so_far.front ++ c ∷ [];
  whole = so_far.whole ∙ ap (λ bytes. encode_utf8_all so_far.front ++ bytes) bytes
      ∙ sym (append_assoc (encode_utf8_all so_far.front) (encode_utf8 c) behind)
      ∙ ap (λ bytes. bytes ++ behind) (ap (λ bytes. encode_utf8_all so_far.front ++ bytes) (sym (encode-one c)) ∙ sym (encodes-append so_far.front (c ∷ [])));
  read = so_far.read ∙ ap (λ cs. so_far.front ++ cs) begins ∙ sym (append_assoc so_far.front (c ∷ []) (chars behind));
  inside = so_far.inside
      ∙ ap (option_map (λ others. so_far.front ++ others)) (ap before_closing begins ∙ rw (ne_eqb c 93 other) refl)
      ∙ option_map-map (λ others. so_far.front ++ others) (λ others. c ∷ others) (before_closing (chars behind))
      ∙ option_map-same (λ others. so_far.front ++ c ∷ others) (λ others. (so_far.front ++ c ∷ []) ++ others) (before_closing (chars behind))
      (λ others. sym (append_assoc so_far.front (c ∷ []) others));
}

-- at a `]` the class is whole
pub inside_of-closed : (text rest behind : List ℕ) (so_far : IsInside text rest) → chars rest ≡ 93 ∷ chars behind → inside_of (chars text) ≡ Some so_far.front
unfolding before_closing
inside_of-closed text rest behind so_far begins =
    so_far.inside ∙ ap (λ cs. option_map (λ others. so_far.front ++ others) (before_closing cs)) begins ∙ ap Some (append-nil so_far.front)

-- the characters of a class are those of the text in front of what is left
pub IsInside-front : (text rest inside : List ℕ) (so_far : IsInside text rest) → IsUtf8 inside → inside ≡ take (length text - length rest) text
    → so_far.front ≡ chars inside
IsInside-front text rest inside so_far utf8 is_front =
    let parts = ap length so_far.whole ∙ length-append (encode_utf8_all so_far.front) rest in
    let front : length (encode_utf8_all so_far.front) ≡ length text - length rest = omega arith in
    chars_from_encodes so_far.front inside utf8
    (sym (is_front ∙ ap (take (length text - length rest)) so_far.whole ∙ take_at (encode_utf8_all so_far.front) rest (length text - length rest) front))

-- a text that ends in front of a `]` has no class
pub inside_of-unclosed : (text rest : List ℕ) → IsInside text rest → chars rest ≡ [] → inside_of (chars text) ≡ None
unfolding before_closing
inside_of-unclosed text rest so_far ended = so_far.inside ∙ ap (λ cs. option_map (λ others. so_far.front ++ others) (before_closing cs)) ended

drop-past : (inside : List ℕ) (c : ℕ) (behind : List ℕ) → drop (length inside + 1) (inside ++ c ∷ behind) ≡ behind
drop-past inside c behind =
    ap (drop (length inside + 1)) (sym (append_assoc inside (c ∷ []) behind))
    ∙ drop_at (inside ++ c ∷ []) behind (length inside + 1) (length-append inside (c ∷ []))

-- what is behind a class is behind its characters and the `]`, and behind its `!`
pub class_width-plain : (cs inside behind : List ℕ) → is_negated cs ≡ false → inside_of cs ≡ Some inside → cs ≡ inside ++ 93 ∷ behind
    → behind ≡ drop (class_width cs) cs
class_width-plain cs inside behind plain closed whole =
    let width : class_width cs ≡ length inside + 1 = rw (plain, closed) (omega arith) in
    sym (ap (λ passed. drop passed cs) width ∙ ap (drop (length inside + 1)) whole ∙ drop-past inside 93 behind)

pub class_width-negated : (cs body inside behind : List ℕ) → is_negated cs ≡ true → body ≡ drop 1 cs → inside_of body ≡ Some inside
    → body ≡ inside ++ 93 ∷ behind → behind ≡ drop (class_width cs) cs
class_width-negated cs body inside behind negated is_body closed whole =
    let closed_there : inside_of (drop 1 cs) ≡ Some inside = ap inside_of (sym is_body) ∙ closed in
    let width : class_width cs ≡ 1 + (length inside + 1) = rw (negated, closed_there) (omega arith) in
    sym (ap (λ passed. drop passed cs) width ∙ sym (drop-drop (length inside + 1) 1 cs) ∙ ap (drop (length inside + 1)) (sym is_body ∙ whole)
    ∙ drop-past inside 93 behind)

-- what a class's text says of its characters, with and without a `!`
pub inside_of-plain : (cs : List ℕ) (o : Option (List ℕ)) → is_negated cs ≡ false → inside_of cs ≡ o → inside_of (behind_mark cs) ≡ o
inside_of-plain cs o plain is = rw plain is

pub inside_of-negated : (cs body : List ℕ) (o : Option (List ℕ)) → is_negated cs ≡ true → body ≡ drop 1 cs → inside_of body ≡ o → inside_of (behind_mark cs) ≡ o
inside_of-negated cs body o negated is_body is = rw negated (ap inside_of (sym is_body) ∙ is)
