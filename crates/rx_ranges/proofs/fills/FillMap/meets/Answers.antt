use Rattle.std.proofs.Common.{◌&&◌, List, is_some, nat_lt, false, subst, ap, arith}
use Rattle.range_defs.specs.declared.Claim.{Claim}
use Rattle.range_defs.specs.AnyByte.{TellsIfAny}
use Rattle.range_defs.specs.Claims.{painted}
use Rattle.range_defs.specs.Places.{in_range}
use Rattle.rx_ranges.proofs.Touching.{tells-empty, tells-first, tells-last}
use Rattle.rx_ranges.proofs.fills.FillMap.meets.Goals as goal

pub returns-then-range-eq0 : goal.returns-then-range-eq0
returns-then-range-eq0 c = tells-empty c.args.self.now c.args.range c.if-range-eq0.true

pub returns-then-begun-eq0 : goal.returns-then-begun-eq0
returns-then-begun-eq0 c =
    subst (λ (claims : List Claim). TellsIfAny (λ byte. is_some (painted claims byte) && in_range c.args.range byte) false) c.self.view_is
    (tells-first c.self.inside.claims.items c.args.range c.begun_by-begun.result c.self.invariant.0 c.if-begun-eq0.true
    (rw c.deref.ensures.value at c.begun_by-begun.ensures.behind))

pub returns : goal.returns
returns c =
    let answer = nat_lt c.saturating_sub.result c.index-last.result.now.range.len in
    subst (λ (claims : List Claim). TellsIfAny (λ byte. is_some (painted claims byte) && in_range c.args.range byte) answer) c.self.view_is
    (tells-last c.self.inside.claims.items c.args.range c.begun_by-begun.result c.index-last.result.now answer c.self.invariant.0 (omega arith) (omega arith)
    (rw c.deref.ensures.value at c.begun_by-begun.ensures.within) (rw c.deref.ensures.value at c.begun_by-begun.ensures.begun)
    (rw c.deref.ensures.value at c.begun_by-begun.ensures.behind) c.index-last.ensures
    (ap (λ n. nat_lt n c.index-last.result.now.range.len) c.saturating_sub.ensures))
