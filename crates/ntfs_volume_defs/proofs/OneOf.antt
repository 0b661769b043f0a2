-- What holds of each of some numbers holds of a number that is one of them.
use Rattle.std.specs.Prelude.{◌≡◌, ℕ, true, ◌==◌, List, [], ◌∷◌}
use Rattle.std.specs.List.{list_any}
use Rattle.std.proofs.Common.{sym, subst, ⊎_elim}
use Rattle.std.proofs.lemmas.Bool.{eqb-true, or_cases}
use Rattle.ntfs_volume_defs.specs.Boot.{is_one_of}

abbrev pub Each : (ℕ → Type 0) → List ℕ → Type 0
Each P [] = Unit {0}
Each P (value ∷ values) = P value × Each P values

pub one_of_holds : (P : ℕ → Type 0) (values : List ℕ) → Each P values → (n : ℕ) → is_one_of values n ≡ true → P n
one_of_holds P [] each n is = absurd cc
one_of_holds P (value ∷ values) each n is =
    ⊎_elim
    (λ first. subst P (sym (eqb-true n value first)) each.0)
    (λ later. one_of_holds P values each.1 n later)
    (or_cases (n == value) (list_any (λ value. n == value) values) is)
