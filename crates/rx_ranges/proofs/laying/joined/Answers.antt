use Rattle.std.proofs.Common.{◌≡◌, ℕ, ◌+◌, ◌∷◌, false, List, get_or, arith, sym, ap, subst, ◌∙◌}
use Rattle.std.specs.List.{All}
use Rattle.std.proofs.lemmas.List.Elements.{All-head, All-tail, All-get_or, All-rest, All-same}
use Rattle.range_defs.specs.declared.Claim.{Claim}
use Rattle.range_defs.specs.Claims.{painted}
use Rattle.range_defs.specs.Places.{EndsInReach}
use Rattle.rx_ranges.specs.Laying.{AreApart, HasFill}
use Rattle.rx_ranges.proofs.Joining.{joins, joined_to, painted-joined, kept-joined, reach-joined, joins-both, joins-rule, joins-away}
use Rattle.rx_ranges.proofs.JoiningSteps.{so_far-grows, so_far-apart, so_far-done}
use Rattle.rx_ranges.proofs.laying.joined.Goals as goal
use Rattle.rx_ranges.proofs.laying.joined.Goals.{then-next-last+then-next-end, else-next-last+in_ok-push, else-next-last-via-then-next-last+else-next-end, else-next-last-via-else-next-last}

abbrev Reaches : Claim → Type 0
Reaches claim = EndsInReach claim.range

pub overflow_add-last : goal.overflow_add-last
overflow_add-last c =
    let reach = All-get_or Reaches c.in-Some.others.now c.loop-next.next-index (record { range = record { at = 0; len = 0 }; rule = 0; fill = 0 }) c.loop-next-test.true
    (All-rest Reaches c.in-Some.first.now c.in-Some.others.now c.args.laid.now c.in-Some.ensures.cases.0 c.requires.reach) in
    omega (arith, reach)

pub loop-next-preserved : goal.loop-next-preserved
loop-next-preserved c =
    let whole : List Claim = joined_to c.in-Some.first.now c.in-Some.others.now in
    let none : Claim = record { range = record { at = 0; len = 0 }; rule = 0; fill = 0 } in
    let next : Claim = get_or c.in-Some.others.now c.loop-next.next-index none in
    let reach = All-rest Reaches c.in-Some.first.now c.in-Some.others.now c.args.laid.now c.in-Some.ensures.cases.0 c.requires.reach in
    elim c.if-next-last.branch [
      | then-next-last+then-next-end w ↦
          let at : next.range.at ≡ c.loop-next.last.range.at + c.loop-next.last.range.len = w.if-next-end.true ∙ w.end.ensures in
          so_far-grows whole c.in-Some.others.now c.loop-next.out.items c.if-next-last.out.items c.loop-next.last c.if-next-last.last none c.loop-next.next-index
          c.loop-next.invariant reach c.loop-next-test.true (joins-both c.loop-next.last next w.if-next-last.true at) at (ap (λ v. v.items) w.out-is) w.last-is
      | else-next-last+in_ok-push w ↦
          let apart : joins c.loop-next.last next ≡ false =
          elim w.else-next-last.branch [
            | else-next-last-via-then-next-last+else-next-end w' ↦ joins-away c.loop-next.last next (λ at. w'.if-next-end.false (at ∙ sym w'.end.ensures))
            | else-next-last-via-else-next-last w' ↦ joins-rule c.loop-next.last next w'.if-next-last.false
          ] in
          so_far-apart whole c.in-Some.others.now c.loop-next.out.items c.if-next-last.out.items c.loop-next.last c.if-next-last.last none c.loop-next.next-index
          c.loop-next.invariant reach c.loop-next-test.true apart (ap (λ v. v.items) w.out-is ∙ w.in_ok-push.ensures.items) w.last-is
    ]

-- what is written at the end are the claims joined
written : (c : goal.In_ok-push-2) → c.push-2.new.self.items ≡ joined_to c.in-Some.first.now c.in-Some.others.now
written c =
    so_far-done (joined_to c.in-Some.first.now c.in-Some.others.now) c.in-Some.others.now c.loop-next.out.items c.push-2.new.self.items c.loop-next.last c.loop-next.next-index
    c.loop-next.invariant c.loop-next-test.false c.in_ok-push-2.ensures.items

pub returns-clause-bytes : goal.returns-clause-bytes
returns-clause-bytes c = λ byte.
    let fill : ℕ → ℕ = c.requires.one_fill.0 in
    let have : All (HasFill fill) (c.in-Some.first.now ∷ c.in-Some.others.now) =
    All-same (HasFill fill) (c.in-Some.first.now ∷ c.in-Some.others.now) c.args.laid.now (sym c.in-Some.ensures.cases.0) c.requires.one_fill.1 in
    ap (λ (xs : List Claim). painted xs byte) (written c)
    ∙ painted-joined fill c.in-Some.first.now c.in-Some.others.now byte (All-head (HasFill fill) c.in-Some.first.now c.in-Some.others.now have)
    (All-tail (HasFill fill) c.in-Some.first.now c.in-Some.others.now have)
    ∙ ap (λ (xs : List Claim). painted xs byte) (sym c.in-Some.ensures.cases.0)

pub returns-clause-kept : goal.returns-clause-kept
returns-clause-kept c =
    let apart : AreApart 0 (c.in-Some.first.now ∷ c.in-Some.others.now) = subst (λ (xs : List Claim). AreApart 0 xs) c.in-Some.ensures.cases.0 c.requires.apart in
    rw (written c) (kept-joined c.in-Some.first.now c.in-Some.others.now apart.1 apart.2)

pub returns-clause-reach_after : goal.returns-clause-reach_after
returns-clause-reach_after c =
    let laid_reach : All Reaches (c.in-Some.first.now ∷ c.in-Some.others.now) =
    All-same Reaches (c.in-Some.first.now ∷ c.in-Some.others.now) c.args.laid.now (sym c.in-Some.ensures.cases.0) c.requires.reach in
    All-same Reaches c.push-2.new.self.items (joined_to c.in-Some.first.now c.in-Some.others.now) (written c)
    (reach-joined c.in-Some.first.now c.in-Some.others.now (All-head Reaches c.in-Some.first.now c.in-Some.others.now laid_reach)
    (All-tail Reaches c.in-Some.first.now c.in-Some.others.now laid_reach))
