-- Whether a journal stands open, by its length and the first of its bytes.
use Rattle.std.proofs.Common.{◌≡◌, ℕ, ◌≤◌, Bool, true, false, nat_eq, Option, None, Some, IfSome, List, [], ◌∷◌, length, slice_index, refl, sym, ◌∙◌, ap, arith}
use Rattle.std.proofs.lemmas.Bool.{eqb-true, eqb-false}
use Rattle.bytes_defs.specs.Bytes.{part}
use Rattle.journal_defs.specs.declared.TheConstants.{OPEN_GATE}
use Rattle.journal_format.specs.Says.{TellsIfOpen}

-- the first byte that was read is the first byte
first_byte : (bytes : List ℕ) → slice_index (part bytes 0 1) 0 ≡ slice_index bytes 0
unfolding part
first_byte [] = refl
first_byte (byte ∷ bytes) = refl

by_byte : (bytes : List ℕ) (byte : ℕ) (answer : Bool) → nat_eq byte OPEN_GATE ≡ answer → byte ≡ slice_index bytes 0 → 41 ≤ length bytes → TellsIfOpen answer bytes
by_byte bytes byte true is here long = (long, sym here ∙ eqb-true byte OPEN_GATE is)
by_byte bytes byte false is here long = λ stands. eqb-false byte OPEN_GATE is (here ∙ stands.1)

pub told_open : (told : Option (List ℕ)) (read : List ℕ) (len : ℕ) → 41 ≤ len → IfSome told (λ bytes. length bytes ≡ len) → length read ≡ 1
    → IfSome told (λ bytes. read ≡ part bytes 0 (length read)) → IfSome told (TellsIfOpen (nat_eq (slice_index read 0) OPEN_GATE))
told_open None read len long sized one is = tt
told_open (Some bytes) read len long sized one is =
    by_byte bytes (slice_index read 0) (nat_eq (slice_index read 0) OPEN_GATE) refl
    (ap (λ list. slice_index list 0) (is ∙ ap (part bytes 0) one) ∙ first_byte bytes) (omega (arith, long, sized))
