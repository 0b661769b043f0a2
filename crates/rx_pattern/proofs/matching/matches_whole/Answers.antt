use Rattle.std.proofs.Common.{rules}
use Rattle.std.specs.Str.{chars}
use Rattle.rx_pattern.proofs.Tries.{is_match-taken, is_match-behind_star, is_match-last}
use Rattle.rx_pattern.proofs.matching.matches_whole.Goals as goal

pub loop-later-preserved : goal.loop-later-preserved
loop-later-preserved c =
    let taken = is_match-taken c.loop-later.left.now (chars c.loop-later.rest.now) c.in-Some.ensures.0 in
    (search rules, cc (c.loop-later.invariant.1, taken, c.in-Some.ensures.1, c.in-Some.ensures.2))

pub returns-in-Some-behind_star : goal.returns-in-Some-behind_star
returns-in-Some-behind_star c =
    let star = is_match-behind_star c.loop-later.left.now (chars c.loop-later.rest.now) c.in-Some-behind_star.ensures.0 in
    cc (c.loop-later.invariant.1, star, c.in-Some-behind_star.ensures.1, c.matches_some_rest.ensures)

pub returns-in-None : goal.returns-in-None
returns-in-None c =
    let last = is_match-last c.loop-later.left.now (chars c.loop-later.rest.now) c.in_default.ensures c.in-None.ensures in
    cc (c.loop-later.invariant.1, last, c.have_ended.ensures)
