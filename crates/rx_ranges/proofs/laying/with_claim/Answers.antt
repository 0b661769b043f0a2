use Rattle.std.proofs.Common.{◌≡◌, List, arith, ap, ◌∙◌}
use Rattle.std.proofs.lemmas.List.Elements.{All-same}
use Rattle.range_defs.specs.declared.Claim.{Claim}
use Rattle.range_defs.specs.Claims.{painted}
use Rattle.range_defs.specs.Places.{EndsInReach}
use Rattle.rx_ranges.specs.Laying.{HasFill}
use Rattle.rx_ranges.proofs.Overlay.{laid_over, painted-over}
use Rattle.rx_ranges.proofs.OverlayKeeps.{apart-over, reach-over, fill-over}
use Rattle.rx_ranges.proofs.OverlaySteps.{so_far-more, so_far-done}
use Rattle.rx_ranges.proofs.laying.with_claim.Goals as goal

pub loop-next-preserved : goal.loop-next-preserved
loop-next-preserved c =
    so_far-more (laid_over c.args.claim c.args.laid.now) c.args.laid.now c.loop-next.out.items c.lay_on.new.out.items c.loop-next.rest c.part-rest.result
    (record { range = record { at = 0; len = 0 }; rule = 0; fill = 0 }) c.loop-next.next-index c.loop-next.invariant c.requires.reach_before c.loop-next-test.true
    c.in_ok-lay_on.ensures (rw (c.end.ensures, c.end-in-loop-next.ensures) at c.part-rest.ensures)

-- what is written at the end is the claim laid over the claims
written : (c : goal.In_ok-push_part) → c.push_part.new.out.items ≡ laid_over c.args.claim c.args.laid.now
written c =
    so_far-done (laid_over c.args.claim c.args.laid.now) c.args.laid.now c.loop-next.out.items c.push_part.new.out.items c.loop-next.rest c.loop-next.next-index
    c.loop-next.invariant c.loop-next-test.false c.in_ok-push_part.ensures

pub returns-clause-bytes : goal.returns-clause-bytes
returns-clause-bytes c = λ byte.
    ap (λ (xs : List Claim). painted xs byte) (written c) ∙ painted-over c.args.claim c.args.laid.now 0 byte c.requires.apart_before

pub returns-clause-reach_after : goal.returns-clause-reach_after
returns-clause-reach_after c =
    All-same (λ (claim : Claim). EndsInReach claim.range) c.push_part.new.out.items (laid_over c.args.claim c.args.laid.now) (written c)
    (reach-over c.args.claim c.args.laid.now c.requires.reach c.requires.reach_before)

pub returns-clause-apart_after : goal.returns-clause-apart_after
returns-clause-apart_after c = rw (written c) (apart-over c.args.claim c.args.laid.now 0 (omega arith) c.requires.apart_before)

pub returns-clause-fills : goal.returns-clause-fills
returns-clause-fills c = λ fill have has.
    All-same (HasFill fill) c.push_part.new.out.items (laid_over c.args.claim c.args.laid.now) (written c) (fill-over fill c.args.claim c.args.laid.now has have)
