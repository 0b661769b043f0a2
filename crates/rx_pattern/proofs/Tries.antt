-- How a try at a text goes, and what it shows of the items behind the last star.
use Rattle.std.proofs.Common.{◌≡◌, ℕ, zero, suc, ◌+◌, Bool, true, false, drop, List, [], ◌∷◌, refl, sym, ◌∙◌, ap, subst, arith, ⊎_elim}
use Rattle.std.proofs.lemmas.Bool.{true≢false, false≢true, or_cases, or_left, or_right, and_parts, and_left}
use Rattle.std.proofs.lemmas.List.{drop-drop}
use Rattle.rx_pattern.specs.declared.item.Item.{Item}
use Rattle.rx_pattern.specs.declared.item.Item.TheVariants.{Plain, AnyOne, Star, OneOf}
use Rattle.rx_pattern.specs.Match.{item_takes}
use Rattle.rx_pattern.specs.MatchTest.{is_match, some_rest}
use Rattle.rx_pattern.specs.Tries.{first_takes_first, begins_with_star, nothing_left}

-- two tests of which each passes where the other does
same_tests : (a b : Bool) → (a ≡ true → b ≡ true) → (b ≡ true → a ≡ true) → a ≡ b
same_tests true b to from = sym (to refl)
same_tests false true to from = from refl
same_tests false false to from = refl

-- a rest that passes
pub some_rest-shows : (test : List ℕ → Bool) (text : List ℕ) → some_rest test text ≡ true → (skipped : ℕ) × (test (drop skipped text) ≡ true)
some_rest-shows test [] some = (0, some)
some_rest-shows test (c ∷ text) some =
    ⊎_elim
    (λ whole. (0, whole))
    (λ behind. let found = some_rest-shows test text behind in (suc found.0, found.1))
    (or_cases (test (c ∷ text)) (some_rest test text) some)

pub some_rest-from : (test : List ℕ → Bool) (text : List ℕ) (skipped : ℕ) → test (drop skipped text) ≡ true → some_rest test text ≡ true
some_rest-from test [] zero passes = passes
some_rest-from test [] (suc skipped) passes = passes
some_rest-from test (c ∷ text) zero passes = or_left (test (c ∷ text)) (some_rest test text) passes
some_rest-from test (c ∷ text) (suc skipped) passes = or_right (test (c ∷ text)) (some_rest test text) (some_rest-from test text skipped passes)

-- a try of items at a text has taken some characters, and what is left of both decides it; each text that the items
-- match is, behind as many characters, one that the items that are left match
pub record IsTried (star : List Item) (tried : List ℕ) (left : List Item) (rest : List ℕ) : Type 0 where
  pub taken : ℕ
  pub rest_is : rest ≡ drop taken tried
  pub same : is_match star tried ≡ is_match left rest
  pub later : (text : List ℕ) → is_match star text ≡ true → is_match left (drop taken text) ≡ true

pub IsTried-start : (star : List Item) (tried : List ℕ) → IsTried star tried star tried
IsTried-start star tried = record { taken = 0; rest_is = refl; same = refl; later = λ text matches. matches }

-- where the first item takes the first character, the others decide
pub is_match-taken : (items : List Item) (text : List ℕ) → first_takes_first items text ≡ true → is_match items text ≡ is_match (drop 1 items) (drop 1 text)
unfolding is_match
is_match-taken [] text takes = absurd (false≢true takes)
is_match-taken (item ∷ items) [] takes = absurd (false≢true takes)
is_match-taken (Star ∷ items) (c ∷ text) takes = absurd (false≢true takes)
is_match-taken (Plain plain ∷ items) (c ∷ text) takes = rw takes refl
is_match-taken (AnyOne ∷ items) (c ∷ text) takes = refl
is_match-taken (OneOf class ∷ items) (c ∷ text) takes = rw takes refl

-- where the first item takes some character, it takes one of each text that the items match
is_match-behind : (items : List Item) (some text : List ℕ) → first_takes_first items some ≡ true → is_match items text ≡ true → is_match (drop 1 items) (drop 1 text) ≡ true
unfolding is_match
is_match-behind [] some text takes matches = absurd (false≢true takes)
is_match-behind (item ∷ items) [] text takes matches = absurd (false≢true takes)
is_match-behind (Star ∷ items) (d ∷ some) text takes matches = absurd (false≢true takes)
is_match-behind (Plain plain ∷ items) (d ∷ some) (c ∷ text) takes matches = (and_parts (item_takes (Plain plain) c) (is_match items text) matches).1
is_match-behind (AnyOne ∷ items) (d ∷ some) (c ∷ text) takes matches = matches
is_match-behind (OneOf class ∷ items) (d ∷ some) (c ∷ text) takes matches = (and_parts (item_takes (OneOf class) c) (is_match items text) matches).1
is_match-behind other (d ∷ some) [] takes matches = absurd (false≢true matches)

-- a try goes on where the first item takes the first character
pub IsTried-taken : (star : List Item) (tried : List ℕ) (left : List Item) (rest : List ℕ) → IsTried star tried left rest
    → first_takes_first left rest ≡ true → IsTried star tried (drop 1 left) (drop 1 rest)
IsTried-taken star tried left rest try takes = record {
  taken = try.taken + 1;
  rest_is = ap (drop 1) try.rest_is ∙ drop-drop 1 try.taken tried;
  same = try.same ∙ is_match-taken left rest takes;
  later = λ text matches. subst (λ (behind : List ℕ). is_match (drop 1 left) behind ≡ true) (drop-drop 1 try.taken text)
      (is_match-behind left rest (drop try.taken text) takes (try.later text matches));
}

drop-swapped : (first last between : ℕ) (text : List ℕ) → drop last (drop between (drop first text)) ≡ drop (first + last) (drop between text)
drop-swapped first last between text =
    drop-drop last between (drop first text) ∙ drop-drop (between + last) first text
    ∙ ap (λ skipped. drop skipped text) (omega arith) ∙ sym (drop-drop (first + last) between text)

-- where the items begin with a star, what is behind the star matches some rest
pub is_match-behind_star : (items : List Item) (text : List ℕ) → begins_with_star items ≡ true → is_match items text ≡ some_rest (is_match (drop 1 items)) text
unfolding is_match
is_match-behind_star (Star ∷ items) text star = refl
is_match-behind_star other text star = absurd (false≢true star)

-- where a try comes to a star, what is behind the star decides
pub some_rest-star : (star : List Item) (tried : List ℕ) (left : List Item) (rest : List ℕ) → IsTried star tried left rest → begins_with_star left ≡ true
    → some_rest (is_match star) tried ≡ some_rest (is_match (drop 1 left)) rest
some_rest-star star tried left rest try at_star =
    let later : List Item = drop 1 left in
    same_tests (some_rest (is_match star) tried) (some_rest (is_match later) rest)
    (λ some.
    let found = some_rest-shows (is_match star) tried some in
    let behind = some_rest-shows (is_match later) (drop try.taken (drop found.0 tried))
    (sym (is_match-behind_star left (drop try.taken (drop found.0 tried)) at_star) ∙ try.later (drop found.0 tried) found.1) in
    some_rest-from (is_match later) rest (found.0 + behind.0)
    (ap (is_match later) (ap (drop (found.0 + behind.0)) try.rest_is ∙ sym (drop-swapped found.0 behind.0 try.taken tried)) ∙ behind.1))
    (λ some. some_rest-from (is_match star) tried 0 (try.same ∙ is_match-behind_star left rest at_star ∙ some))

-- items and text that have both ended match
is_match-ended : (items : List Item) (text : List ℕ) → nothing_left items text ≡ true → is_match items text ≡ true
unfolding is_match
is_match-ended [] text ended = ended
is_match-ended (item ∷ items) text ended = absurd (false≢true ended)

-- a try fails where the first item is no star and takes no character, unless items and text have both ended
is_match-fails : (items : List Item) (text : List ℕ) → first_takes_first items text ≡ false → begins_with_star items ≡ false
    → nothing_left items text ≡ false → is_match items text ≡ false
unfolding is_match
is_match-fails [] [] fails no_star goes_on = absurd (true≢false goes_on)
is_match-fails [] (c ∷ text) fails no_star goes_on = refl
is_match-fails (Star ∷ items) text fails no_star goes_on = absurd (true≢false no_star)
is_match-fails (Plain plain ∷ items) (c ∷ text) fails no_star goes_on = and_left (item_takes (Plain plain) c) (is_match items text) fails
is_match-fails (AnyOne ∷ items) (c ∷ text) fails no_star goes_on = absurd (true≢false fails)
is_match-fails (OneOf class ∷ items) (c ∷ text) fails no_star goes_on = and_left (item_takes (OneOf class) c) (is_match items text) fails
is_match-fails other [] fails no_star goes_on = refl

-- where the whole text fails, a rest of what is behind its first character is left to try
pub some_rest-next : (test : List ℕ → Bool) (text : List ℕ) (c : ℕ) (behind : List ℕ) → text ≡ c ∷ behind → test text ≡ false
    → some_rest test text ≡ some_rest test behind
some_rest-next test text c behind begins fails = ap (some_rest test) begins ∙ rw (sym (ap test begins) ∙ fails) refl

-- where the empty text fails, nothing is left to try
pub some_rest-last : (test : List ℕ → Bool) (text : List ℕ) → text ≡ [] → test text ≡ false → some_rest test text ≡ false
some_rest-last test text ended fails = ap (some_rest test) ended ∙ sym (ap test ended) ∙ fails

-- the try fails, and so its text does
pub IsTried-fails : (star : List Item) (tried : List ℕ) (left : List Item) (rest : List ℕ) → IsTried star tried left rest
    → first_takes_first left rest ≡ false → begins_with_star left ≡ false → nothing_left left rest ≡ false → is_match star tried ≡ false
IsTried-fails star tried left rest try fails no_star goes_on = try.same ∙ is_match-fails left rest fails no_star goes_on

-- items and text have ended together, and so the text matches
pub IsTried-ended : (star : List Item) (tried : List ℕ) (left : List Item) (rest : List ℕ) → IsTried star tried left rest
    → nothing_left left rest ≡ true → some_rest (is_match star) tried ≡ true
IsTried-ended star tried left rest try ended = some_rest-from (is_match star) tried 0 (try.same ∙ is_match-ended left rest ended)

-- what is left decides where no first item takes the first character and none is a star
pub is_match-last : (items : List Item) (text : List ℕ) → first_takes_first items text ≡ false → begins_with_star items ≡ false
    → is_match items text ≡ nothing_left items text
unfolding is_match
is_match-last [] text fails no_star = refl
is_match-last (item ∷ items) text fails no_star = is_match-fails (item ∷ items) text fails no_star refl
