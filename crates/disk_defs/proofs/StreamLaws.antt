-- Laws of streams: what was taken piece by piece was taken whole.
use Rattle.std.specs.Prelude.{◌≡◌, ℕ, ◌+◌, ◌<◌, Option, None, Some, Result, Ok, Err, OnErr, List, ◌++◌, length, take, drop, refl}
use Rattle.std.specs.List.{flat_map, slice_index_or}
use Rattle.std.proofs.Common.{sym, subst, suc, ◌∙◌, ap, append_assoc, arith, length-append}
use Rattle.std.proofs.Math.Seq.{take-append-add, drop-cons}
use Rattle.std.proofs.lemmas.List.{take-append-le, take-append-drop}
use Rattle.std.proofs.lemmas.Grind.{flat_map-append}
use Rattle.disk_defs.specs.Stream.{taken_with, TookPrefixOf}

-- what was taken after one text and after another was taken after both
pub taken_with-append : (before : Option (List ℕ)) (first second : List ℕ)
    → taken_with (taken_with before first) second ≡ taken_with before (first ++ second)
taken_with-append None first second = refl
taken_with-append (Some bytes) first second = ap Some (append_assoc bytes first second)

-- some first bytes of a text are first bytes of a longer one
pub took_prefix-of_longer : (before after : Option (List ℕ)) (text more : List ℕ) → TookPrefixOf before after text
    → TookPrefixOf before after (text ++ more)
took_prefix-of_longer before after text more h =
    (h.0, omega (arith, h.1, length-append text more), h.2 ∙ ap (taken_with before) (sym (take-append-le h.0 text more h.1)))

-- after a whole text, some first bytes of a second one are first bytes of both
pub took_prefix-behind : (before mid after : Option (List ℕ)) (first second : List ℕ) → mid ≡ taken_with before first
    → TookPrefixOf mid after second → TookPrefixOf before after (first ++ second)
took_prefix-behind before mid after first second whole h = (
  length first + h.0,
  omega (arith, h.1, length-append first second),
  h.2 ∙ ap (λ taken. taken_with taken (take h.0 second)) whole ∙ taken_with-append before first (take h.0 second)
      ∙ ap (taken_with before) (sym (take-append-add first second h.0)),
)

-- after a first text was taken, some first bytes of what follows it in a whole are first bytes of the whole
pub took_prefix-within : (before mid after : Option (List ℕ)) (first own more whole : List ℕ) → mid ≡ taken_with before first
    → TookPrefixOf mid after own → first ++ (own ++ more) ≡ whole → TookPrefixOf before after whole
took_prefix-within before mid after first own more whole taken h is =
    subst (λ text. TookPrefixOf before after text) is
    (took_prefix-behind before mid after first (own ++ more) taken (took_prefix-of_longer mid after own more h))

-- the pieces of a list up to one of its items, that item's and those of the rest are all of them
pub flat_map-around : {X : Type 0} (piece : X → List ℕ) (xs : List X) (i : ℕ) (d : X) → i < length xs
    → flat_map piece xs ≡ flat_map piece (take i xs) ++ (piece (slice_index_or xs i d) ++ flat_map piece (drop (suc i) xs))
flat_map-around piece xs i d h =
    sym (ap (flat_map piece) (take-append-drop i xs)) ∙ flat_map-append piece (take i xs) (drop i xs)
    ∙ ap (λ rest. flat_map piece (take i xs) ++ flat_map piece rest) (drop-cons xs i d h)

-- what holds holds of an error
pub on_err : {T E P : Type 0} (r : Result T E) → P → OnErr r P
on_err (Ok x) p = tt
on_err (Err e) p = p

-- the same as `took_prefix-within`, of the last text of a whole, where an error comes
pub took_prefix-last : {T E : Type 0} (r : Result T E) (before mid after : Option (List ℕ)) (first own whole : List ℕ) → mid ≡ taken_with before first
    → OnErr r (TookPrefixOf mid after own) → first ++ own ≡ whole → OnErr r (TookPrefixOf before after whole)
took_prefix-last (Ok x) before mid after first own whole taken h is = tt
took_prefix-last (Err e) before mid after first own whole taken h is =
    subst (λ text. TookPrefixOf before after text) is (took_prefix-behind before mid after first own taken h)
