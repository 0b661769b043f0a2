-- Checks that hold, one behind the other.
use Rattle.std.specs.Prelude.{◌≡◌, ℕ, Bool, true, false, None, Some, List, [], ◌∷◌, ◌++◌, refl}
use Rattle.std.proofs.Common.{◌∙◌}
use Rattle.std.proofs.lemmas.Bool.{cond-true, cond-false}
use Rattle.journal_defs.specs.Checks.{Check, first_failing}

-- a check that holds in front of others
pub pass_with : (place : ℕ) (holds : Bool) (checks : List Check) → holds ≡ true → first_failing ((place, holds) ∷ checks) ≡ first_failing checks
unfolding first_failing
pass_with place holds checks true_here = cond-true holds (first_failing checks) (Some place) true_here

-- a check that fails in front of others
pub fail_with : (place : ℕ) (holds : Bool) (checks : List Check) → holds ≡ false → first_failing ((place, holds) ∷ checks) ≡ Some place
unfolding first_failing
fail_with place holds checks false_here = cond-false holds (first_failing checks) (Some place) false_here

-- where none fails, the first one holds, and none of the others fails
pub passes : (place : ℕ) (holds : Bool) (checks : List Check) → first_failing ((place, holds) ∷ checks) ≡ None → (holds ≡ true) × (first_failing checks ≡ None)
unfolding first_failing
passes place true checks none = (refl, none)
passes place false checks none = absurd cc

pub nothing_fails : first_failing [] ≡ None
unfolding first_failing
nothing_fails = refl

-- checks that hold in front of others
pub pass_all : (front checks : List Check) → first_failing front ≡ None → first_failing (front ++ checks) ≡ first_failing checks
pass_all [] checks none = refl
pass_all (check ∷ front) checks none =
    let here = passes check.0 check.1 front none in
    pass_with check.0 check.1 (front ++ checks) here.0 ∙ pass_all front checks here.1

-- checks of which one fails in front of others
pub fail_all : (place : ℕ) (front checks : List Check) → first_failing front ≡ Some place → first_failing (front ++ checks) ≡ Some place
unfolding first_failing
fail_all place [] checks fails = absurd cc
fail_all place ((at, true) ∷ front) checks fails = fail_all place front checks fails
fail_all place ((at, false) ∷ front) checks fails = fails

-- where none of them fails, none of the front and none of the others does
pub both_pass : (front checks : List Check) → first_failing (front ++ checks) ≡ None → (first_failing front ≡ None) × (first_failing checks ≡ None)
unfolding first_failing
both_pass [] checks none = (refl, none)
both_pass ((at, true) ∷ front) checks none = both_pass front checks none
both_pass ((at, false) ∷ front) checks none = absurd cc
