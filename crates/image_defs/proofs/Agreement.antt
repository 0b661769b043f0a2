-- Laws behind Agreement: images that agree where a program looks, and the law that the program then gives the same.
use Rattle.std.specs.Prelude.{◌≡◌, ℕ, ◌+◌, ◌<◌, ◌≤◌, IsTrue, List, ◌∷◌, length, take, drop, slice_get, unwrap_or, refl}
use Rattle.std.proofs.Common.{ap, sym, ◌∙◌, arith}
use Rattle.std.proofs.lemmas.Bool.Decides.{nat_tests}
use Rattle.std.proofs.lemmas.List.{ext_get_or, get_or-take, get_or-drop, length-take, length-drop}
use Rattle.std.proofs.lemmas.Option.{unwrap_or-slice_get}
use Rattle.range_defs.specs.declared.Range.{Range}
use Rattle.range_defs.specs.Places.{covers}
use Rattle.bytes_defs.specs.Bytes.{part}
use Rattle.image_defs.specs.Ask.{Ask, Done, Stop, Look, result_of, visits}
use Rattle.image_defs.specs.Agreement.{AgreeOn, FootprintLaw}

-- a byte of a range in front is covered
pub covers_first : (range : Range) (ranges : List Range) (byte : ℕ) → range.at ≤ byte → byte < range.at + range.len → IsTrue (covers (range ∷ ranges) byte)
covers_first range ranges byte from to = grind (arith, nat_tests)

-- a byte that the ranges behind cover is covered
pub covers_behind : (range : Range) (ranges : List Range) (byte : ℕ) → IsTrue (covers ranges byte) → IsTrue (covers (range ∷ ranges) byte)
covers_behind range ranges byte covered = grind (arith, nat_tests)

-- images that agree on a range have the same bytes there
pub part_agree : (a b : List ℕ) (at len : ℕ) → length a ≡ length b → ((byte : ℕ) → at ≤ byte → byte < at + len → slice_get a byte ≡ slice_get b byte) → part a at len ≡ part b at len
unfolding part
part_agree a b at len same_length same_bytes =
    ext_get_or 0 (take len (drop at a)) (take len (drop at b))
    (simp (length-take, length-drop, same_length) refl)
    (λ i within.
    let below : i < len = omega (arith, within, length-take len (drop at a)) in
    rw (get_or-take len (drop at a) i 0 below, get_or-take len (drop at b) i 0 below, get_or-drop at a i 0, get_or-drop at b i 0)
    (sym (unwrap_or-slice_get a (at + i) 0) ∙ ap (λ byte. unwrap_or byte 0) (same_bytes (at + i) (omega arith) (omega arith)) ∙ unwrap_or-slice_get b (at + i) 0))

-- agreement on the ranges behind
agree_behind : (range : Range) (ranges : List Range) (a b : List ℕ) → AgreeOn (range ∷ ranges) a b → AgreeOn ranges a b
agree_behind range ranges a b agree = record {
  same_length = agree.same_length;
  same_bytes = λ byte covered. agree.same_bytes byte (covers_behind range ranges byte covered);
}

-- the bytes of a range in front
part_first : (range : Range) (ranges : List Range) (a b : List ℕ) → AgreeOn (range ∷ ranges) a b → part a range.at range.len ≡ part b range.at range.len
part_first range ranges a b agree =
    part_agree a b range.at range.len agree.same_length
    (λ byte from to. agree.same_bytes byte (covers_first range ranges byte from to))

-- the law of the footprint: where two images agree on what a program looks at, the program gives the same
pub result_agree : {E X : Type 0} (ask : Ask E X) (a b : List ℕ) → AgreeOn (visits a ask) a b → result_of b ask ≡ result_of a ask
result_agree (Done x) a b agree = refl
result_agree (Stop e) a b agree = refl
result_agree (Look at len next) a b agree =
    ap (λ bytes. result_of b (next bytes)) (sym (part_first (record { at = at; len = len }) (visits a (next (part a at len))) a b agree))
    ∙ result_agree (next (part a at len)) a b (agree_behind (record { at = at; len = len }) (visits a (next (part a at len))) a b agree)

-- and it looks at the same ranges
pub visits_agree : {E X : Type 0} (ask : Ask E X) (a b : List ℕ) → AgreeOn (visits a ask) a b → visits b ask ≡ visits a ask
visits_agree (Done x) a b agree = refl
visits_agree (Stop e) a b agree = refl
visits_agree (Look at len next) a b agree =
    ap (λ bytes. record { at = at; len = len } ∷ visits b (next bytes)) (sym (part_first (record { at = at; len = len }) (visits a (next (part a at len))) a b agree))
    ∙ ap (λ ranges. record { at = at; len = len } ∷ ranges) (visits_agree (next (part a at len)) a b (agree_behind (record { at = at; len = len }) (visits a (next (part a at len))) a b agree))

pub footprint_law : (E X : Type 0) → FootprintLaw E X
footprint_law E X ask a b agree = (result_agree ask a b agree, visits_agree ask a b agree)
