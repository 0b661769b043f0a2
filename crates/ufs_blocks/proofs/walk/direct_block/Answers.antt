use Rattle.std.proofs.Common.{ℕ, ◌+◌, ◌≤◌, Option, IfSome, arith, ap, ◌∙◌, subst}
use Rattle.ufs_inode_defs.specs.Blocks.{Laid}
use Rattle.ufs_inode_defs.specs.Stream.{allocated_len}
use Rattle.ufs_blocks.proofs.DirectLaws.{direct_past, direct_fault, direct_hole, direct_there, hole_way_after, block_way_after}
use Rattle.ufs_blocks.proofs.walk.direct_block.Goals as goal

pub returns-then-block_count-laid-clause-settles : goal.returns-then-block_count-laid-clause-settles
returns-then-block_count-laid-clause-settles c = direct_past c.args.sup.now c.args.size c.args.laid c.args.pointer.now c.block_count.result c.block_count.ensures (omega (arith, ap (λ (l : Laid). l.block) c.laid.view_is, c.if-block_count-laid.true))

pub returns-in_err-led-clause-settles : goal.returns-in_err-led-clause-settles
returns-in_err-led-clause-settles c =
    direct_fault c.args.sup.now c.args.size c.args.laid c.args.pointer.now c.block_count.result c.block_count.ensures (omega (arith, ap (λ (l : Laid). l.block) c.laid.view_is, c.if-block_count-laid.false)) c.allocated_len.result (c.allocated_len.ensures.value ∙ ap (allocated_len c.args.sup.now c.args.size) (ap (λ (l : Laid). l.block) c.laid.view_is))
    c.from_residual.result c.in_err-led.field-0.0 c.from_residual.ensures.0 c.from_residual.ensures.1 c.in_err-led.ensures.leads

pub returns-in_ok-with_hole-in-None-clause-settles : goal.returns-in_ok-with_hole-in-None-clause-settles
returns-in_ok-with_hole-in-None-clause-settles c =
    direct_hole c.args.sup.now c.args.size c.args.laid c.args.pointer.now c.block_count.result c.block_count.ensures (omega (arith, ap (λ (l : Laid). l.block) c.laid.view_is, c.if-block_count-laid.false)) c.allocated_len.result (c.allocated_len.ensures.value ∙ ap (allocated_len c.args.sup.now c.args.size) (ap (λ (l : Laid). l.block) c.laid.view_is))
    c.counted_runs.result c.in_ok-led.field-0 c.in_ok-with_hole-in-None.field-0 c.in-None.is c.in_ok-led.ensures.leads c.in_ok-with_hole-in-None.ensures.value c.counted_runs.ensures.settles

pub returns-in_ok-with_hole-in-None-clause-way_after : goal.returns-in_ok-with_hole-in-None-clause-way_after
returns-in_ok-with_hole-in-None-clause-way_after c =
    hole_way_after c.args.sup.now c.args.size c.args.laid c.requires.sound c.requires.way c.block_count.result c.block_count.ensures (omega (arith, ap (λ (l : Laid). l.block) c.laid.view_is, c.if-block_count-laid.false)) c.counted_runs.result c.in_ok-with_hole-in-None.field-0
    c.counted_runs.ensures.is c.counted_runs.ensures.few 1 (omega arith) c.in_ok-with_hole-in-None.ensures.value

pub returns-in_ok-with_block-in-Some-clause-settles : goal.returns-in_ok-with_block-in-Some-clause-settles
returns-in_ok-with_block-in-Some-clause-settles c =
    direct_there c.args.sup.now c.args.size c.args.laid c.args.pointer.now c.block_count.result c.block_count.ensures (omega (arith, ap (λ (l : Laid). l.block) c.laid.view_is, c.if-block_count-laid.false)) c.allocated_len.result (c.allocated_len.ensures.value ∙ ap (allocated_len c.args.sup.now c.args.size) (ap (λ (l : Laid). l.block) c.laid.view_is))
    c.counted_runs-in-Some.result c.in_ok-led.field-0 c.in-Some.place c.in_ok-with_block-in-Some.field-0 c.in-Some.is c.in_ok-led.ensures.leads c.in_ok-with_block-in-Some.ensures.value c.counted_runs-in-Some.ensures.settles

pub returns-in_ok-with_block-in-Some-clause-way_after : goal.returns-in_ok-with_block-in-Some-clause-way_after
returns-in_ok-with_block-in-Some-clause-way_after c =
    let P : Option ℕ → Type 0 = λ found. IfSome found (λ at. at + c.allocated_len.result ≤ c.args.sup.now.at + c.args.sup.now.len) in
    let there : c.in-Some.place + c.allocated_len.result ≤ c.args.sup.now.at + c.args.sup.now.len = subst P c.in-Some.is c.in_ok-led.ensures.within in
    block_way_after c.args.sup.now c.args.size c.args.laid c.requires.sound c.requires.way c.block_count.result c.block_count.ensures (omega (arith, ap (λ (l : Laid). l.block) c.laid.view_is, c.if-block_count-laid.false)) c.counted_runs-in-Some.result c.in_ok-with_block-in-Some.field-0
    c.counted_runs-in-Some.ensures.is c.counted_runs-in-Some.ensures.few c.in-Some.place (omega (arith, there, c.allocated_len.ensures.value ∙ ap (allocated_len c.args.sup.now c.args.size) (ap (λ (l : Laid). l.block) c.laid.view_is))) c.in_ok-with_block-in-Some.ensures.value
