-- Items that are taken one after the other.
use Rattle.std.specs.Prelude.{◌≡◌, ◌+◌, ◌-◌, ◌<◌, List, [], ◌∷◌, ◌++◌, length, take, get_or, refl}
use Rattle.std.proofs.Common.{arith, ap, sym, ◌∙◌, append_assoc, append-nil, length-append}
use Rattle.std.proofs.Math.Seq.{get_or-append_seam}
use Rattle.std.proofs.lemmas.List.{take_at}

-- the items that were taken, where these are left
abbrev pub taken : {X : Type 0} → List X → List X → List X
taken all rest = take (length all - length rest) all

pub record IsRestOf {X : Type 0} (all rest : List X) : Type 0 where
  pub is : all ≡ taken all rest ++ rest

pub none_taken : {X : Type 0} (all : List X) → taken all all ≡ []
none_taken all = let none : length all - length all ≡ 0 = omega arith in ap (λ n. take n all) none

pub all_left : {X : Type 0} (all : List X) → IsRestOf all all
all_left all = record { is = sym (ap (λ list. list ++ all) (none_taken all)) }

pub none_left : {X : Type 0} (all rest : List X) → IsRestOf all rest → rest ≡ [] → taken all rest ≡ all
none_left all rest of none = sym (of.is ∙ ap (λ list. taken all rest ++ list) none ∙ append-nil (taken all rest))

-- one more
pub record IsNext {X : Type 0} (all rest after : List X) (x : X) : Type 0 where
  pub here : (length (taken all rest) < length all) × (x ≡ get_or all (length (taken all rest)) x)
  pub front : taken all rest ≡ take (length (taken all rest)) all
  pub more : taken all after ≡ taken all rest ++ x ∷ []
  pub left : IsRestOf all after

pub next_of : {X : Type 0} (all rest after : List X) (x : X) → IsRestOf all rest → rest ≡ x ∷ after → IsNext all rest after x
next_of {X = X} all rest after x of is =
    let front : List X = taken all rest in
    let whole : all ≡ front ++ x ∷ after = of.is ∙ ap (λ list. front ++ list) is in
    let long : length all ≡ length front + length (x ∷ after) = ap length whole ∙ length-append front (x ∷ after) in
    let split : all ≡ (front ++ x ∷ []) ++ after = whole ∙ sym (append_assoc front (x ∷ []) after) in
    let count : length (front ++ x ∷ []) ≡ length all - length after = length-append front (x ∷ []) ∙ omega (arith, long) in
    let more : taken all after ≡ front ++ x ∷ [] = ap (λ list. take (length all - length after) list) split ∙ take_at (front ++ x ∷ []) after (length all - length after) count in
    record {
      here = (omega (arith, long), sym (ap (λ list. get_or list (length front) x) whole ∙ get_or-append_seam front x after x));
      front = sym (ap (λ list. take (length front) list) whole ∙ take_at front (x ∷ after) (length front) refl);
      more = more;
      left = record { is = split ∙ ap (λ list. list ++ after) (sym more) };
    }
