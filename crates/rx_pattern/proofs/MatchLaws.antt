-- Laws of matching.
use Rattle.std.proofs.Common.{◌≡◌, ℕ, List, [], ◌∷◌, ◌++◌, ◌↔◌, refl, sym, ◌∙◌, ap, append_assoc, append-nil, subst}
use Rattle.std.specs.Prelude.{map}
use Rattle.std.proofs.lemmas.Bool.{eqb-true, eq-eqb}
use Rattle.rx_pattern.specs.declared.item.Item.{Item}
use Rattle.rx_pattern.specs.declared.item.Item.TheVariants.{Plain, AnyOne, Star, OneOf}
use Rattle.rx_pattern.specs.Match.{BeginsWith, Match, IsSplit}

plain_matches : (letters text : List ℕ) → Match (map Plain letters) text → text ≡ letters
unfolding Match
plain_matches [] text matches = matches
plain_matches (letter ∷ letters) text matches =
    let same : matches.0 ≡ letter = eqb-true matches.0 letter matches.3 in
    let rest : matches.1 ≡ letters = plain_matches letters matches.1 matches.4 in
    cc (matches.2, same, rest)

matches_itself : (letters : List ℕ) → Match (map Plain letters) letters
unfolding Match
matches_itself [] = refl
matches_itself (letter ∷ letters) = (letter, letters, refl, eq-eqb letter letter refl, matches_itself letters)

-- plain characters match themselves, and nothing else
pub plain_matches_itself : (letters text : List ℕ) → Match (map Plain letters) text ↔ (text ≡ letters)
plain_matches_itself letters text =
    (plain_matches letters text, λ same. subst (Match (map Plain letters)) (sym same) (matches_itself letters))

-- a star alone matches everything
pub star_matches_all : (text : List ℕ) → Match (Star ∷ []) text
unfolding Match
star_matches_all text = (text, [], sym (append-nil text), refl)

-- one more character in front
split_behind : (item : Item) (front back : List Item) (text : List ℕ)
    → ((before : List ℕ) → BeginsWith item (Match front) before → Match (item ∷ front) before)
    → ((rest : List ℕ) → Match (front ++ Star ∷ back) rest → IsSplit front back rest)
    → BeginsWith item (Match (front ++ Star ∷ back)) text → IsSplit (item ∷ front) back text
split_behind item front back text one later begins =
    let split = later begins.1 begins.4 in
    record {
      before = begins.0 ∷ split.before;
      starred = split.starred;
      behind = split.behind;
      whole = begins.2 ∙ ap (λ rest. begins.0 ∷ rest) split.whole;
      front_matches = one (begins.0 ∷ split.before) (begins.0, split.before, refl, begins.3, split.front_matches);
      back_matches = split.back_matches;
    }

split_round : (front back : List Item) (text : List ℕ) → Match (front ++ Star ∷ back) text → IsSplit front back text
unfolding Match
split_round [] back text matches = record {
  before = [];
  starred = matches.0;
  behind = matches.1;
  whole = matches.2;
  front_matches = refl;
  back_matches = matches.3;
}
split_round (Star ∷ front) back text matches =
    let split = split_round front back matches.1 matches.3 in
    record {
      before = matches.0 ++ split.before;
      starred = split.starred;
      behind = split.behind;
      whole = matches.2 ∙ ap (λ rest. matches.0 ++ rest) (split.whole ∙ append_assoc split.before split.starred split.behind)
          ∙ sym (append_assoc matches.0 split.before (split.starred ++ split.behind))
          ∙ sym (append_assoc (matches.0 ++ split.before) split.starred split.behind);
      front_matches = (matches.0, split.before, refl, split.front_matches);
      back_matches = split.back_matches;
    }
split_round (Plain plain ∷ front) back text matches = split_behind (Plain plain) front back text (λ before begins. begins) (split_round front back) matches
split_round (AnyOne ∷ front) back text matches = split_behind AnyOne front back text (λ before begins. begins) (split_round front back) matches
split_round (OneOf class ∷ front) back text matches = split_behind (OneOf class) front back text (λ before begins. begins) (split_round front back) matches

-- one more character in front of a split
joined_behind : (item : Item) (front back : List Item) (before starred behind text : List ℕ) → text ≡ before ++ starred ++ behind
    → ((rest middle : List ℕ) → rest ≡ middle ++ starred ++ behind → Match front middle → Match (front ++ Star ∷ back) rest)
    → BeginsWith item (Match front) before → BeginsWith item (Match (front ++ Star ∷ back)) text
joined_behind item front back before starred behind text whole later begins = (
  begins.0,
  begins.1 ++ starred ++ behind,
  whole ∙ ap (λ first. first ++ starred ++ behind) begins.2,
  begins.3,
  later (begins.1 ++ starred ++ behind) begins.1 refl begins.4,
)

joined_round : (front back : List Item) (before starred behind text : List ℕ) → text ≡ before ++ starred ++ behind → Match front before → Match back behind
    → Match (front ++ Star ∷ back) text
unfolding Match
joined_round [] back before starred behind text whole front_matches back_matches =
    (starred, behind, whole ∙ ap (λ first. first ++ starred ++ behind) front_matches, back_matches)
joined_round (Star ∷ front) back before starred behind text whole front_matches back_matches =
    let first = front_matches.0 in
    let middle = front_matches.1 in (
      first,
      middle ++ starred ++ behind,
      whole ∙ ap (λ before. before ++ starred ++ behind) front_matches.2 ∙ ap (λ both. both ++ behind) (append_assoc first middle starred)
          ∙ append_assoc first (middle ++ starred) behind,
      joined_round front back middle starred behind (middle ++ starred ++ behind) refl front_matches.3 back_matches,
    )
joined_round (Plain plain ∷ front) back before starred behind text whole front_matches back_matches =
    joined_behind (Plain plain) front back before starred behind text whole
    (λ rest middle is matches. joined_round front back middle starred behind rest is matches back_matches) front_matches
joined_round (AnyOne ∷ front) back before starred behind text whole front_matches back_matches =
    joined_behind AnyOne front back before starred behind text whole
    (λ rest middle is matches. joined_round front back middle starred behind rest is matches back_matches) front_matches
joined_round (OneOf class ∷ front) back before starred behind text whole front_matches back_matches =
    joined_behind (OneOf class) front back before starred behind text whole
    (λ rest middle is matches. joined_round front back middle starred behind rest is matches back_matches) front_matches

-- a match of items with a star between them splits the text
pub star_splits : (front back : List Item) (text : List ℕ) → Match (front ++ Star ∷ back) text ↔ IsSplit front back text
star_splits front back text = (
  split_round front back text,
  λ split. joined_round front back split.before split.starred split.behind text split.whole split.front_matches split.back_matches,
)
