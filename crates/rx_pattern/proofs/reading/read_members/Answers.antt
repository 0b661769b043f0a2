use Rattle.std.proofs.Common.{rules, ◌++◌, sym, ◌∙◌, ap, append-nil}
use Rattle.std.specs.Str.{chars}
use Rattle.rx_pattern.specs.Reading.{members_of}
use Rattle.rx_pattern.proofs.MembersOf.{members_of-range, members_of-single, members_of-end}
use Rattle.rx_pattern.proofs.reading.read_members.Goals as goal

pub loop-first-preserved-in-Some-split_range : goal.loop-first-preserved-in-Some-split_range
loop-first-preserved-in-Some-split_range c =
    let more = members_of-range (members_of (chars c.args.inside.now)) c.loop-first.members.items (chars c.loop-first.rest.now) c.in-Some.first (chars c.in-Some.behind.now)
    c.in-Some-split_range.last c.loop-first.invariant.1 c.in-Some.ensures.0 c.in-Some-split_range.ensures.0 in
    (search rules, rw (c.in_ok-push.ensures.items, c.in-Some-split_range.ensures.1) more)

pub loop-first-preserved : goal.loop-first-preserved
loop-first-preserved c =
    let more = members_of-single (members_of (chars c.args.inside.now)) c.loop-first.members.items (chars c.loop-first.rest.now) c.in-Some.first (chars c.in-Some.behind.now)
    c.loop-first.invariant.1 c.in-Some.ensures.0 c.in_default-split_range.ensures in
    (search rules, rw c.in_ok-push-2.ensures.items more)

pub returns : goal.returns
returns c =
    let members = c.loop-first.members.items in
    c.from_vec.ensures
    ∙ sym (c.loop-first.invariant.1 ∙ ap (λ others. members ++ others) (members_of-end (chars c.loop-first.rest.now) c.in_default.ensures.0) ∙ append-nil members)
