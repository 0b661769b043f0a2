use Rattle.std.proofs.Common.{rules, arith, ◌∷◌, ◌++◌, take, ◌∙◌, ap, Some}
use Rattle.std.specs.Str.{chars}
use Rattle.rx_pattern.proofs.Closing.{IsInside-first, IsInside-more, IsInside-front, inside_of-closed, inside_of-unclosed}
use Rattle.rx_pattern.proofs.reading.split_inside.Goals as goal

pub loop-c-init : goal.loop-c-init
loop-c-init c =
    let first = c.in_ok-others.ensures in
    (search rules, omega (arith, first.1), IsInside-first c.args.text.now c.in_ok-others.others.now c.in_ok-others.field-0-0 first.2 first.0)

pub returns-then-c-eq93 : goal.returns-then-c-eq93
returns-then-c-eq93 c =
    let so_far = c.loop-c.invariant.2 in
    let closes = c.in-Some.ensures.0 ∙ ap (λ first. first ∷ chars c.in-Some.behind.now) c.if-c-eq93.true in
    let front = IsInside-front c.args.text.now c.loop-c.rest.now c.range.result.now so_far c.range.utf8
    (c.range.ensures.value ∙ ap (λ count. take count c.args.text.now) (omega arith)) in (
      inside_of-closed c.args.text.now c.loop-c.rest.now c.in-Some.behind.now so_far closes ∙ ap Some front,
      so_far.read ∙ ap (λ cs. so_far.front ++ cs) closes ∙ ap (λ cs. cs ++ 93 ∷ chars c.in-Some.behind.now) front,
      omega (arith, c.loop-c.invariant.1, c.in-Some.ensures.1),
    )

pub loop-c-preserved : goal.loop-c-preserved
loop-c-preserved c = (
  search rules,
  omega (arith, c.loop-c.invariant.1, c.in-Some.ensures.1),
  IsInside-more c.args.text.now c.loop-c.rest.now c.in-Some.behind.now c.in-Some.c c.loop-c.invariant.2 c.in-Some.ensures.2 c.in-Some.ensures.0 c.if-c-eq93.false,
)

pub returns : goal.returns
returns c = inside_of-unclosed c.args.text.now c.loop-c.rest.now c.loop-c.invariant.2 c.in_default.ensures.0
