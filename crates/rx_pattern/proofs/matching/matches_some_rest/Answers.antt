use Rattle.std.proofs.Common.{rules, arith, ◌≤◌, length, sym, ◌∙◌}
use Rattle.std.specs.Str.{chars}
use Rattle.rx_pattern.specs.MatchTest.{is_match}
use Rattle.rx_pattern.proofs.Tries.{IsTried-start, IsTried-taken, IsTried-fails, IsTried-ended, some_rest-star, some_rest-next, some_rest-last}
use Rattle.rx_pattern.proofs.matching.matches_some_rest.Goals as goal

pub loop-later-preserved-in-Some : goal.loop-later-preserved-in-Some
loop-later-preserved-in-Some c =
    let before = c.loop-later.invariant in
    let try = IsTried-taken c.loop-later.star.now (chars c.loop-later.tried.now) c.loop-later.left.now (chars c.loop-later.rest.now)
    before.6 c.in-Some.ensures.0 in (
      before.0,
      search rules,
      before.2,
      omega (arith, before.3, c.in-Some.ensures.4),
      omega (arith, before.4, c.in-Some.ensures.3),
      before.5,
      rw (c.in-Some.ensures.1, c.in-Some.ensures.2) try,
    )

pub loop-later-preserved-in-Some-behind_star : goal.loop-later-preserved-in-Some-behind_star
loop-later-preserved-in-Some-behind_star c =
    let before = c.loop-later.invariant in
    let star = some_rest-star c.loop-later.star.now (chars c.loop-later.tried.now) c.loop-later.left.now (chars c.loop-later.rest.now)
    before.6 c.in-Some-behind_star.ensures.0 in
    let shorter : length c.in-Some-behind_star.later.now ≤ length c.args.items.now = omega (arith, before.3, c.in-Some-behind_star.ensures.2) in
    (before.1, before.1, shorter, shorter, omega arith, before.5 ∙ rw c.in-Some-behind_star.ensures.1 star, IsTried-start _ _)

pub returns-then-have_ended : goal.returns-then-have_ended
returns-then-have_ended c =
    let before = c.loop-later.invariant in
    sym (before.5 ∙ IsTried-ended c.loop-later.star.now (chars c.loop-later.tried.now) c.loop-later.left.now (chars c.loop-later.rest.now)
    before.6 (sym c.have_ended.ensures ∙ c.if-have_ended.true))

pub returns-in_default-split_first_char : goal.returns-in_default-split_first_char
returns-in_default-split_first_char c =
    let before = c.loop-later.invariant in
    let fails = IsTried-fails c.loop-later.star.now (chars c.loop-later.tried.now) c.loop-later.left.now (chars c.loop-later.rest.now)
    before.6 c.in_default.ensures c.in_default-behind_star.ensures (sym c.have_ended.ensures ∙ c.if-have_ended.false) in
    sym (before.5 ∙ some_rest-last (is_match c.loop-later.star.now) (chars c.loop-later.tried.now) c.in_default-split_first_char.ensures.0 fails)

pub loop-later-preserved : goal.loop-later-preserved
loop-later-preserved c =
    let before = c.loop-later.invariant in
    let fails = IsTried-fails c.loop-later.star.now (chars c.loop-later.tried.now) c.loop-later.left.now (chars c.loop-later.rest.now)
    before.6 c.in_default.ensures c.in_default-behind_star.ensures (sym c.have_ended.ensures ∙ c.if-have_ended.false) in
    let next = some_rest-next (is_match c.loop-later.star.now) (chars c.loop-later.tried.now) _ (chars c.in-Some-split_first_char.behind.now)
    c.in-Some-split_first_char.ensures.0 fails in
    (search rules, search rules, before.2, before.2, omega arith, before.5 ∙ next, IsTried-start _ _)
