use Rattle.std.proofs.Common.{List, get_or}
use Rattle.std.specs.List.{All}
use Rattle.std.proofs.lemmas.List.Elements.{All-get_or, All-same}
use Rattle.range_defs.specs.declared.Claim.{Claim}
use Rattle.range_defs.specs.Claims.{HaveOneFill}
use Rattle.rx_ranges.specs.Laying.{HasFill}
use Rattle.rx_ranges.proofs.Filling.{fill_of, all-have, laid-more}
use Rattle.rx_ranges.proofs.fills.FillMap.first_wins.Goals as goal

pub loop-claim-preserved : goal.loop-claim-preserved
loop-claim-preserved c =
    let claims : List Claim = c.deref-claim-items.result.now in
    let none : Claim = record { range = record { at = 0; len = 0 }; rule = 0; fill = 0 } in
    let one : HaveOneFill claims = rw c.deref-claim-items.ensures.value c.requires.one_fill in
    let has : HasFill (fill_of claims) (get_or claims c.loop-claim.claim-index none) =
    All-get_or (HasFill (fill_of claims)) claims c.loop-claim.claim-index none c.loop-claim-test.true (all-have claims one) in
    let laid_have : All (HasFill (fill_of claims)) c.deref.result.now =
    All-same (HasFill (fill_of claims)) c.deref.result.now c.loop-claim.laid.items c.deref.ensures.value c.loop-claim.invariant.2 in
    laid-more claims c.loop-claim.laid.items c.in_ok-laid.laid.items c.loop-claim.claim-index none c.loop-claim.invariant c.loop-claim-test.true
    c.in_ok-laid.ensures.apart_after c.in_ok-laid.ensures.reach_after (c.in_ok-laid.ensures.fills (fill_of claims) laid_have has)
    (λ byte. rw c.deref.ensures.value at c.in_ok-laid.ensures.bytes byte)

pub joined-requires-clause-one_fill : goal.joined-requires-clause-one_fill
joined-requires-clause-one_fill c = (
  fill_of c.deref-claim-items.result.now,
  All-same (HasFill (fill_of c.deref-claim-items.result.now)) c.deref-2.result.now c.loop-claim.laid.items c.deref-2.ensures.value c.loop-claim.invariant.2,
)
