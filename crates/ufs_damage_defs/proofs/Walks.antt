-- What a walk over items says of each: where it stops, and what holds at its end.
use Rattle.std.specs.Prelude.{◌≡◌, ℕ, Bool, true, false, Result, Ok, Err, List, [], ◌∷◌, refl}
use Rattle.std.specs.List.{All}
use Rattle.std.proofs.Common.{subst, ⊎_elim}
use Rattle.std.proofs.lemmas.List.Elements.{All-cons, All-nil}
use Rattle.image_defs.specs.Ask.{Ask, result_of, check}
use Rattle.image_defs.specs.Through.{through}
use Rattle.image_defs.proofs.Looks.{bind_gives, bind_refuses}

pub same_value : {E X : Type 0} (one other : X) → (let a : Result X E = Ok one in let b : Result X E = Ok other in a ≡ b) → one ≡ other
same_value one other same = cc

pub same_error : {E X : Type 0} (one other : E) → (let a : Result X E = Err one in let b : Result X E = Err other in a ≡ b) → one ≡ other
same_error one other same = cc

pub not_both : {E X : Type 0} (x : X) (e : E) (result : Result X E) → result ≡ Ok x → result ≡ Err e → ⊥
not_both x e result ok err = absurd cc

pub failed : {E : Type 0} (image : List ℕ) (test : Bool) (fault e : E) → result_of image (check test fault) ≡ Err e → (test ≡ false) × (fault ≡ e)
failed image true fault e is = absurd cc
failed {E = E} image false fault e is = (refl, same_error {X = Unit {0}} fault e is)

module _ {E X S : Type 0} (image : List ℕ) (step : S → X → Ask E S) where
  -- what holds of the items that are left and of a state holds at the end
  pub through_keeps : (P : List X → S → Type 0) → ((x : X) (rest : List X) (s after : S) → P (x ∷ rest) s → result_of image (step s x) ≡ Ok after → P rest after)
      → (items : List X) (start end : S) → P items start → result_of image (through step start items) ≡ Ok end → P [] end
  through_keeps P keeps [] start end holds gives = let Q : S → Type 0 = λ s. P [] s in subst Q (same_value {E = E} start end gives) holds
  through_keeps P keeps (x ∷ items) start end holds gives =
      let first = bind_gives image (step start x) (λ after. through step after items) end gives in
      through_keeps P keeps items first.0 end (keeps x items start first.0 holds first.1) first.2

  -- a walk that is refused is refused at an item
  pub record StopsAt (P : List X → S → Type 0) (e : E) : Type 0 where
    pub item : X
    pub rest : List X
    pub state : S
    pub holds : P (item ∷ rest) state
    pub is : result_of image (step state item) ≡ Err e

  pub through_stops_at : (P : List X → S → Type 0) → ((x : X) (rest : List X) (s after : S) → P (x ∷ rest) s → result_of image (step s x) ≡ Ok after → P rest after)
      → (items : List X) (start : S) (e : E) → P items start → result_of image (through step start items) ≡ Err e → StopsAt P e
  through_stops_at P keeps [] start e holds refuses = absurd cc
  through_stops_at P keeps (x ∷ items) start e holds refuses =
      ⊎_elim
      (λ here. record { item = x; rest = items; state = start; holds = holds; is = here })
      (λ later. through_stops_at P keeps items later.0 e (keeps x items start later.0 holds later.1) later.2)
      (bind_refuses image (step start x) (λ after. through step after items) e refuses)

  -- what each step makes of its item stays at the end
  pub record Walks (P : S → Type 0) (Grows : S → S → Type 0) (Q : X → S → Type 0) : Type 0 where
    pub same : (s : S) → Grows s s
    pub more : (s t u : S) → Grows s t → Grows t u → Grows s u
    pub stays : (x : X) (s t : S) → Grows s t → Q x s → Q x t
    pub steps : (x : X) (s after : S) → P s → result_of image (step s x) ≡ Ok after → P after × Grows s after × Q x after

  pub through_walks : (P : S → Type 0) (Grows : S → S → Type 0) (Q : X → S → Type 0) → Walks P Grows Q → (items : List X) (start end : S) → P start → result_of image (through step start items) ≡ Ok end
      → P end × Grows start end × All (λ x. Q x end) items
  through_walks P Grows Q walks [] start end holds gives =
      let R : S → Type 0 = λ s. P s × Grows start s × All (λ x. Q x s) [] in
      subst R (same_value {E = E} start end gives) (holds, walks.same start, All-nil (λ x. Q x start))
  through_walks P Grows Q walks (x ∷ items) start end holds gives =
      let first = bind_gives image (step start x) (λ after. through step after items) end gives in
      let here = walks.steps x start first.0 holds first.1 in
      let later = through_walks P Grows Q walks items first.0 end here.0 first.2 in
      (later.0, walks.more start first.0 end here.1 later.1, All-cons (λ y. Q y end) x items (walks.stays x first.0 end later.1 here.2) later.2)
