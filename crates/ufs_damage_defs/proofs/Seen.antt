-- What a program looks at is covered by some ranges; so is what its parts look at.
use Rattle.std.specs.Prelude.{◌≡◌, ℕ, ◌+◌, ◌<◌, ◌≤◌, Bool, true, false, Result, Ok, List, [], ◌∷◌}
use Rattle.std.specs.List.{All}
use Rattle.std.proofs.Common.{sym, ◌∙◌, subst, arith}
use Rattle.std.proofs.lemmas.Bool.{or_left, or_right}
use Rattle.std.proofs.lemmas.Bool.Decides.{nat_tests}
use Rattle.std.proofs.lemmas.List.Elements.{All-cons, All-nil}
use Rattle.range_defs.specs.declared.Range.{Range}
use Rattle.range_defs.specs.Places.{in_range, covers}
use Rattle.range_defs.proofs.RangeLaws.{covers_front, covers_back}
use Rattle.bytes_defs.specs.Bytes.{part}
use Rattle.image_defs.specs.Ask.{Ask, result_of, visits, look, check, given, ◌>>=◌}
use Rattle.image_defs.specs.Through.{through}
use Rattle.image_defs.proofs.Looks.{bind_gives}
use Rattle.image_defs.proofs.Results.{visits_bind_ok, result_given}

abbrev pub IsWithin : {E X : Type 0} → List ℕ → List Range → Ask E X → Type 0
IsWithin image ranges ask = (byte : ℕ) → covers (visits image ask) byte ≡ true → covers ranges byte ≡ true

-- so are the parts of a program
pub within_first : {E X Y : Type 0} (image : List ℕ) (ranges : List Range) (ask : Ask E X) (next : X → Ask E Y) (x : X) → result_of image ask ≡ Ok x → IsWithin image ranges (ask >>= next) → IsWithin image ranges ask
within_first image ranges ask next x is within byte covered =
    let P : List Range → Type 0 = λ list. covers list byte ≡ true in
    within byte (subst P (sym (visits_bind_ok image ask next x is)) (covers_front (visits image ask) (visits image (next x)) byte covered))

pub within_next : {E X Y : Type 0} (image : List ℕ) (ranges : List Range) (ask : Ask E X) (next : X → Ask E Y) (x : X) → result_of image ask ≡ Ok x → IsWithin image ranges (ask >>= next)
    → IsWithin image ranges (next x)
within_next image ranges ask next x is within byte covered =
    let P : List Range → Type 0 = λ list. covers list byte ≡ true in
    within byte (subst P (sym (visits_bind_ok image ask next x is)) (covers_back (visits image ask) (visits image (next x)) byte covered))

pub within_check : {E Y : Type 0} (image : List ℕ) (ranges : List Range) (test : Bool) (fault : E) (next : Unit {0} → Ask E Y) → test ≡ true → IsWithin image ranges (check test fault >>= next) → IsWithin image ranges (next tt)
within_check image ranges true fault next is within = within
within_check image ranges false fault next is within = absurd cc

pub within_given : {E X Y : Type 0} (image : List ℕ) (ranges : List Range) (result : Result X E) (next : X → Ask E Y) (x : X) → result ≡ Ok x → IsWithin image ranges (given result >>= next) → IsWithin image ranges (next x)
within_given image ranges result next x is within = within_next image ranges (given result) next x (result_given image result ∙ is) within

-- behind a look, and the look itself
pub within_behind : {E Y : Type 0} (image : List ℕ) (ranges : List Range) (at len : ℕ) (next : List ℕ → Ask E Y) → IsWithin image ranges (look at len >>= next) → IsWithin image ranges (next (part image at len))
within_behind image ranges at len next within byte covered = within byte (or_right (in_range (record { at = at; len = len }) byte) (covers (visits image (next (part image at len))) byte) covered)

pub within_look : {E Y : Type 0} (image : List ℕ) (ranges : List Range) (at len : ℕ) (next : List ℕ → Ask E Y) → IsWithin image ranges (look at len >>= next) → (byte : ℕ) → at ≤ byte → byte < at + len → covers ranges byte ≡ true
within_look image ranges at len next within byte from to =
    within byte (or_left (in_range (record { at = at; len = len }) byte) (covers (visits image (next (part image at len))) byte) (grind (arith, nat_tests)))

-- a step of a walk over items that ended
pub record IsStepOf {E X S : Type 0} (image : List ℕ) (ranges : List Range) (step : S → X → Ask E S) (x : X) : Type 0 where
  pub state : S
  pub after : S
  pub gives : result_of image (step state x) ≡ Ok after
  pub within : IsWithin image ranges (step state x)

pub through_steps : {E X S : Type 0} (image : List ℕ) (ranges : List Range) (step : S → X → Ask E S) (items : List X) (start end : S) → result_of image (through step start items) ≡ Ok end → IsWithin image ranges (through step start items)
    → All (IsStepOf image ranges step) items
through_steps image ranges step [] start end gives within = All-nil (IsStepOf image ranges step)
through_steps image ranges step (x ∷ items) start end gives within =
    let first = bind_gives image (step start x) (λ after. through step after items) end gives in
    All-cons (IsStepOf image ranges step) x items
    (record { state = start; after = first.0; gives = first.1; within = within_first image ranges (step start x) (λ after. through step after items) first.0 first.1 within })
    (through_steps image ranges step items first.0 end first.2 (within_next image ranges (step start x) (λ after. through step after items) first.0 first.1 within))
