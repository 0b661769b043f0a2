use Rattle.std.proofs.Common.{rules, arith, ◌≡◌, ◌-◌, ◌∷◌, length, ◌∙◌, ap, Err}
use Rattle.std.specs.Str.{chars}
use Rattle.rx_pattern.specs.Reading.{items_of}
use Rattle.rx_pattern.proofs.ItemsOf.{items_of-plain, items_of-class, read_pattern-unclosed, read_pattern-ended}
use Rattle.rx_pattern.proofs.pattern.Pattern.read.Goals as goal

pub loop-c-preserved-then-c-ne91 : goal.loop-c-preserved-then-c-ne91
loop-c-preserved-then-c-ne91 c =
    let more = items_of-plain (items_of (chars c.args.text.now)) c.loop-c.items.items (chars c.loop-c.rest.now) c.in-Some.c (chars c.in-Some.behind.now)
    c.loop-c.invariant.2 c.in-Some.ensures.0 c.if-c-ne91.true in
    (search rules, omega (arith, c.loop-c.invariant.1, c.in-Some.ensures.1), rw (c.in_ok-push.ensures.items, c.item_of.ensures) more)

pub returns-in_default-split_class-clause-unclosed : goal.returns-in_default-split_class-clause-unclosed
returns-in_default-split_class-clause-unclosed c = λ at is.
    let same : length c.args.text.now - length c.loop-c.rest.now ≡ at = cc in
    read_pattern-unclosed c.args.text.now c.loop-c.items.items c.loop-c.rest.now (chars c.in-Some.behind.now) c.utf8.text c.loop-c.invariant.0
    c.loop-c.invariant.2 (c.in-Some.ensures.0 ∙ ap (λ first. first ∷ chars c.in-Some.behind.now) c.if-c-ne91.false) c.in_default-split_class.ensures ∙ ap Err same

pub loop-c-preserved : goal.loop-c-preserved
loop-c-preserved c =
    let more = items_of-class (items_of (chars c.args.text.now)) c.loop-c.items.items (chars c.loop-c.rest.now) (chars c.in-Some.behind.now)
    (chars c.in-Some-split_class.inside.now) (chars c.in-Some-split_class.later.now) c.in-Some-split_class.negated c.loop-c.invariant.2
    (c.in-Some.ensures.0 ∙ ap (λ first. first ∷ chars c.in-Some.behind.now) c.if-c-ne91.false) c.in-Some-split_class.ensures.0 c.in-Some-split_class.ensures.1 c.in-Some-split_class.ensures.2 in
    (search rules, omega (arith, c.loop-c.invariant.1, c.in-Some.ensures.1, c.in-Some-split_class.ensures.3), rw (c.in_ok-push-2.ensures.items, c.in_ok-members.ensures) more)

pub returns-clause-items : goal.returns-clause-items
returns-clause-items c = read_pattern-ended (chars c.args.text.now) c.loop-c.items.items (chars c.loop-c.rest.now) c.loop-c.invariant.2 c.in_default.ensures.0
