-- Laws behind AnyByte: whether some byte passes a test.
use Rattle.std.proofs.Common.{◌≡◌, ℕ, zero, suc, ◌<◌, ◌≤◌, Bool, true, false, Some, None, is_some, cond, refl, ap, subst, sym, ◌∙◌, ⊎_elim, arith}
use Rattle.std.proofs.lemmas.Bool.{cases_lt, false≢true}
use Rattle.range_defs.specs.Places.{least_below, otherwise}
use Rattle.range_defs.proofs.LeastLaws.{same_as_least_below}
use Rattle.range_defs.specs.AnyByte.{TellsIfAny}

-- a byte that passes has a least one below each greater number
pub some_below : (test : ℕ → Bool) (end byte : ℕ) → test byte ≡ true → byte < end → is_some (least_below test end) ≡ true
unfolding least_below
some_below test zero byte passes low = absurd (omega arith)
some_below test (suc last) byte passes low =
    ⊎_elim
    (λ below. elim (least_below test last) as (λ r. is_some r ≡ true → is_some (otherwise r (cond (test last) (Some last) None)) ≡ true)
    [ Some least ↦ λ some. refl | None ↦ λ some. absurd (false≢true some) ] (some_below test last byte passes below))
    (λ above. let at : byte ≡ last = omega arith in
    let here : test last ≡ true = subst (λ (b : ℕ). test b ≡ true) at passes in
    elim (least_below test last) as (λ r. is_some (otherwise r (cond (test last) (Some last) None)) ≡ true)
    [ Some least ↦ refl | None ↦ ap (λ t. is_some (cond t (Some last) None)) here ])
    (cases_lt byte last)

-- it tells whether there is a least one below a number, where none from that number on passes
pub same_as_any_below : (test : ℕ → Bool) (end : ℕ) (answer : Bool) → TellsIfAny test answer → ((byte : ℕ) → end ≤ byte → test byte ≡ false)
    → answer ≡ is_some (least_below test end)
same_as_any_below test end false none past = ap is_some (same_as_least_below test end None none past)
same_as_any_below test end true some past =
    ⊎_elim
    (λ below. sym (some_below test end some.0 some.1 below))
    (λ above. absurd (false≢true (sym (past some.0 above) ∙ some.1)))
    (cases_lt some.0 end)
