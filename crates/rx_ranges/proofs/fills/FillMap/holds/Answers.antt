use Rattle.std.proofs.Common.{◌≡◌, ◌≤◌, List, sym, ap, ◌∙◌, arith}
use Rattle.range_defs.specs.declared.Claim.{Claim}
use Rattle.range_defs.specs.Claims.{painted, paint_of}
use Rattle.range_defs.proofs.ClaimLaws.{paint_inside, paint_behind}
use Rattle.rx_ranges.proofs.Holding.{held, held-none}
use Rattle.rx_ranges.proofs.fills.FillMap.holds.Goals as goal
use Rattle.rx_ranges.proofs.fills.FillMap.holds.Goals.{After-index-claim}

pub returns-then-begun-eq0 : goal.returns-then-begun-eq0
returns-then-begun-eq0 c =
    sym (held-none c.deref.result.now c.begun_by-begun.result c.args.byte c.if-begun-eq0.true (rw c.deref.ensures.value c.self.invariant.0) c.begun_by-begun.ensures.behind)
    ∙ ap (λ (claims : List Claim). painted claims c.args.byte) (c.deref.ensures.value ∙ c.self.view_is)

-- the last claim that begins by the byte may have it, and no other
last : (c : After-index-claim) → (c.index-claim.result.now.range.at ≤ c.args.byte) × (paint_of c.index-claim.result.now c.args.byte ≡ painted c.args.self.now c.args.byte)
last c =
    let found = held c.self.inside.claims.items c.begun_by-begun.result c.args.byte c.index-claim.result.now c.self.invariant.0 (omega arith)
    (rw c.deref.ensures.value at c.begun_by-begun.ensures.within) (rw c.deref.ensures.value at c.begun_by-begun.ensures.begun)
    (rw c.deref.ensures.value at c.begun_by-begun.ensures.behind) c.index-claim.ensures in
    (found.0, sym found.1 ∙ ap (λ (claims : List Claim). painted claims c.args.byte) c.self.view_is)

pub returns-then-byte-claim : goal.returns-then-byte-claim
returns-then-byte-claim c =
    let found = last ((goal.at.returns-then-byte-claim c).After-index-claim) in
    sym (paint_inside c.index-claim.result.now c.args.byte found.0 (omega (arith, found.0))) ∙ found.1

pub returns-else-byte-claim : goal.returns-else-byte-claim
returns-else-byte-claim c =
    let found = last ((goal.at.returns-else-byte-claim c).After-index-claim) in
    sym (paint_behind c.index-claim.result.now c.args.byte (omega (arith, found.0))) ∙ found.1
