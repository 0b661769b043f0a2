-- Laws on the least byte that passes a test.
use Rattle.std.proofs.Common.{◌≡◌, ℕ, zero, suc, ◌<◌, ◌≤◌, Bool, true, false, Option, Some, None, refl, ap, subst, sym, ◌∙◌, ⊎_elim, arith}
use Rattle.std.proofs.lemmas.Bool.{cases_lt, false≢true}
use Rattle.range_defs.specs.Places.{IsLeast, least_below}

-- where no byte below a number passes, there is no least one
none_below : (test : ℕ → Bool) (end : ℕ) → ((byte : ℕ) → byte < end → test byte ≡ false) → least_below test end ≡ None
unfolding least_below
none_below test zero fails = refl
none_below test (suc last) fails =
    let rest : least_below test last ≡ None = none_below test last (λ byte low. fails byte (omega arith)) in
    let here : test last ≡ false = fails last (omega arith) in
    rw rest (rw here refl)

-- where a byte passes and none below it does, it is the least one below each greater number
some_below : (test : ℕ → Bool) (end least : ℕ) → test least ≡ true → ((byte : ℕ) → byte < least → test byte ≡ false) → least < end
    → least_below test end ≡ Some least
unfolding least_below
some_below test zero least passes fails low = absurd (omega arith)
some_below test (suc last) least passes fails low =
    ⊎_elim
    (λ below. let rest : least_below test last ≡ Some least = some_below test last least passes fails below in rw rest refl)
    (λ above. let at : least ≡ last = omega arith in
    let rest : least_below test last ≡ None = none_below test last (λ byte under. fails byte (omega arith)) in
    let here : test last ≡ true = subst (λ (byte : ℕ). test byte ≡ true) at passes in
    rw rest (rw here (ap Some (sym at))))
    (cases_lt least last)

-- the least byte that passes is the least below a number, where none from that number on passes
pub same_as_least_below : (test : ℕ → Bool) (end : ℕ) (answer : Option ℕ) → IsLeast test answer
    → ((byte : ℕ) → end ≤ byte → test byte ≡ false) → answer ≡ least_below test end
same_as_least_below test end None least fails = sym (none_below test end (λ byte low. least byte))
same_as_least_below test end (Some byte) least fails =
    ⊎_elim
    (λ below. sym (some_below test end byte least.0 least.1 below))
    (λ above. absurd (false≢true (sym (fails byte above) ∙ least.0)))
    (cases_lt byte end)
