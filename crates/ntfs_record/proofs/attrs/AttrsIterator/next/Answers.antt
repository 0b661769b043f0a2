use Rattle.std.proofs.Common.{◌≡◌, ◌+◌, ◌∷◌, length, arith, ap, sym, ◌∙◌, Ok, Err, Some, None, subst}
use Rattle.ntfs_record_defs.specs.Record.{header_of}
use Rattle.ntfs_record_defs.specs.Lent.{lent_next, lent_from}
use Rattle.ntfs_record.specs.Mending.{IsWalk}
use Rattle.ntfs_record.proofs.Steps.{next_place, next_is}
use Rattle.ntfs_record.proofs.Walks.{Steps, walk_steps, walk_is_over, walk_is_sound}
use Rattle.ntfs_record.proofs.attrs.AttrsIterator.next.Goals as goal

steps : (c : goal.After-self-1) → Steps c.self.inside.bytes.now c.self.inside.at c.in-Ok-Some.attribute
unfolding header_of
steps c =
    let is : lent_next c.self.inside.bytes.now (header_of c.self.inside.bytes.now).used c.self.inside.at ≡ Ok (Some c.in-Ok-Some.attribute) = cc in
    walk_steps c.self.inside.bytes.now c.self.inside.at c.in-Ok-Some.attribute c.self.invariant is

behind : (c : goal.After-self-1) → next_place c.self.inside.bytes.now c.self.inside.at ≡ c.self.inside.at + c.u32_at.result
behind c = ap (λ n. c.self.inside.at + n) (sym c.u32_at.ensures)

pub u32_at-requires : goal.u32_at-requires
unfolding header_of
u32_at-requires c =
    let is : lent_next c.self.inside.bytes.now (header_of c.self.inside.bytes.now).used c.self.inside.at ≡ Ok (Some c.in-Ok-Some.attribute) = cc in
    let next = (next_is c.self.inside.bytes.now (header_of c.self.inside.bytes.now).used c.self.inside.at c.in-Ok-Some.attribute is).behind in
    omega (arith, next.rises, next.inside, c.self.invariant.inside)

pub invariant_of-self : goal.invariant_of-self
invariant_of-self c = subst (IsWalk c.self.inside.bytes.now) (behind c) (steps c).walk

pub returns-in-Ok-Some-clause-steps : goal.returns-in-Ok-Some-clause-steps
returns-in-Ok-Some-clause-steps c =
    sym c.self.view_is ∙ (steps c).lent_is ∙ ap (λ at. c.in-Ok-Some.attribute ∷ lent_from c.self.inside.bytes.now at) (behind c)

pub returns-in-Ok-Some-clause-goes : goal.returns-in-Ok-Some-clause-goes
returns-in-Ok-Some-clause-goes c =
    let fewer = ap length (returns-in-Ok-Some-clause-steps c) in
    record { on = λ finite. (tt, tt, omega (arith, fewer)); keeps = tt; rests = λ finite. tt }

pub returns-in-Ok-None-clause-steps : goal.returns-in-Ok-None-clause-steps
unfolding header_of
returns-in-Ok-None-clause-steps c =
    let is : lent_next c.self.inside.bytes.now (header_of c.self.inside.bytes.now).used c.self.inside.at ≡ Ok None = cc in
    let none = sym c.self.view_is ∙ walk_is_over c.self.inside.bytes.now c.self.inside.at is in
    (none, none)

pub returns-in-Err-clause-steps : goal.returns-in-Err-clause-steps
unfolding header_of
returns-in-Err-clause-steps c =
    let is : lent_next c.self.inside.bytes.now (header_of c.self.inside.bytes.now).used c.self.inside.at ≡ Err c.in-Err.field-0 = cc in
    absurd (walk_is_sound c.self.inside.bytes.now c.self.inside.at c.in-Err.field-0 c.self.invariant is)
