use Rattle.std.proofs.Common.{ℕ, ◌≡◌, ◌+◌, ◌-◌, ◌*◌, ◌≤◌, Option, IfSome, length, arith, ap, sym, ◌∙◌, subst, refl, inl}
use Rattle.disk_defs.specs.Disk.{told_image}
use Rattle.ufs_inode_defs.specs.Blocks.{Laid, with_hole}
use Rattle.ufs_blocks.proofs.DirectLaws.{hole_way_after}
use Rattle.ufs_inode_defs.specs.Stream.{span}
use Rattle.ufs_inode_defs.specs.Layout.{layout_of, pointer_len}
use Rattle.bytes_defs.specs.Numbers.{signed_at}
use Rattle.ufs_inode_defs.proofs.BlockLaw.{some_span}
use Rattle.ufs_inode_defs.proofs.SoundSuper.{is_sound, has_pointers}
use Rattle.ufs_blocks.proofs.MappedLaws.{past_reads, led_fault_reads, hole_reads, visit_fault_reads, pointers_come, pointer_fits, pointer_goes_on, pointer_stops, pointers_end, kept_wider, visit_way, gone_on, gone_all}
use Rattle.ufs_blocks.proofs.walk.+mapped_blocks.Goals as goal

pub returns-then-block_count-laid-clause-reads : goal.returns-then-block_count-laid-clause-reads
returns-then-block_count-laid-clause-reads g t c =
    past_reads c.args.sup.now c.args.size c.args.level (c.args.level - 1) (omega arith) c.args.laid c.args.pointer.now c.block_count.result c.block_count.ensures (told_image (g.S.Store.state c.args.store.now)) c.args.looked.now.items
    (omega (arith, ap (λ (l : Laid). l.block) c.laid.view_is, c.if-block_count-laid.true))

pub returns-in_err-place-clause-reads : goal.returns-in_err-place-clause-reads
returns-in_err-place-clause-reads g t c =
    led_fault_reads c.args.sup.now c.args.size c.args.level (c.args.level - 1) (omega arith) c.args.laid c.args.pointer.now c.block_count.result c.block_count.ensures
    (omega (arith, ap (λ (l : Laid). l.block) c.laid.view_is, c.if-block_count-laid.false)) c.block_size.result c.block_size.ensures.value (told_image (g.S.Store.state c.args.store.now)) c.args.looked.now.items
    c.from_residual.result c.in_err-place.field-0.0 c.from_residual.ensures.0 c.from_residual.ensures.1 c.in_err-place.ensures.leads

pub returns-in_default-clause-reads : goal.returns-in_default-clause-reads
returns-in_default-clause-reads g t c =
    hole_reads c.args.sup.now c.args.size c.args.level (c.args.level - 1) (omega arith) c.args.laid c.args.pointer.now c.block_count.result c.block_count.ensures
    (omega (arith, ap (λ (l : Laid). l.block) c.laid.view_is, c.if-block_count-laid.false)) c.block_size.result c.block_size.ensures.value (told_image (g.S.Store.state c.args.store.now)) c.args.looked.now.items
    c.counted_runs.result c.in_ok-place.field-0 c.in_ok-with_hole.field-0 c.in_default.is c.in_ok-place.ensures.leads (c.in_ok-with_hole.ensures.value ∙ ap (λ n. with_hole c.args.sup.now c.args.size n c.args.laid) c.span.ensures.value) c.counted_runs.ensures.settles

pub returns-in_default-clause-way_after : goal.returns-in_default-clause-way_after
returns-in_default-clause-way_after g t c =
    let some = some_span c.args.sup.now (has_pointers c.args.sup.now (is_sound c.args.sup.now c.requires.sound)).some_pointers c.args.level in
    hole_way_after c.args.sup.now c.args.size c.args.laid c.requires.sound c.requires.way c.block_count.result c.block_count.ensures (omega (arith, ap (λ (l : Laid). l.block) c.laid.view_is, c.if-block_count-laid.false)) c.counted_runs.result c.in_ok-with_hole.field-0
    c.counted_runs.ensures.is c.counted_runs.ensures.few c.span.result (omega (arith, some, c.span.ensures.value)) c.in_ok-with_hole.ensures.value

pub returns-in_err-laid-clause-reads : goal.returns-in_err-laid-clause-reads
returns-in_err-laid-clause-reads g t c =
    visit_fault_reads c.args.sup.now c.args.size c.args.level (c.args.level - 1) (omega arith) c.args.laid c.args.pointer.now c.block_count.result c.block_count.ensures
    (omega (arith, ap (λ (l : Laid). l.block) c.laid.view_is, c.if-block_count-laid.false)) c.block_size.result c.block_size.ensures.value c.in_ok-place.field-0 c.in-Some.place c.in-Some.is c.in_ok-place.ensures.leads
    (told_image (g.S.Store.state c.args.store.now)) c.args.looked.now.items c.from_residual-in_err-laid.result c.in_err-laid.field-0.0 c.from_residual-in_err-laid.ensures.0 c.from_residual-in_err-laid.ensures.1 c.in_err-laid.ensures.settles

pub pointer_of-pointer-requires-clause-inside : goal.pointer_of-pointer-requires-clause-inside
pointer_of-pointer-requires-clause-inside g t c =
    pointer_fits c.args.sup.now c.loop-number.number (length c.deref.result.now) c.requires.sound (omega (arith, c.loop-number-test.true, c.from-number-end.ensures))
    (ap length c.deref.ensures.value ∙ c.in_ok-bytes.ensures.long ∙ c.block_size-2.ensures.value)

pub loop-number-init : goal.loop-number-init
loop-number-init g t c =
    let P : Option ℕ → Type 0 = λ found. IfSome found (λ at. at + c.block_size.result ≤ c.args.sup.now.at + c.args.sup.now.len) in
    let there : c.in-Some.place + c.block_size.result ≤ c.args.sup.now.at + c.args.sup.now.len = subst P c.in-Some.is c.in_ok-place.ensures.within in
    let same_size : c.block_size-2.result ≡ c.block_size.result = c.block_size-2.ensures.value ∙ sym c.block_size.ensures.value in
    record {
      same = c.in_ok-bytes.ensures.same;
      counted = c.in_ok-bytes.ensures.counted;
      come =
          pointers_come c.args.sup.now c.args.size c.args.level (c.args.level - 1) (omega arith) c.args.laid c.args.pointer.now c.block_count.result c.block_count.ensures
          (omega (arith, ap (λ (l : Laid). l.block) c.laid.view_is, c.if-block_count-laid.false)) c.block_size.result c.block_size.ensures.value c.in_ok-place.field-0 c.in-Some.place c.in-Some.is c.in_ok-place.ensures.leads
          (told_image (g.S.Store.state c.args.store.now)) (told_image (g.S.Store.state c.args.store.now)) c.args.looked.now.items c.args.looked.now.items c.bytes_at.new.looked.items c.in_ok-laid.laid c.block_size-2.result c.in_ok-bytes.bytes.items
          c.in_ok-laid.ensures.settles c.block_size-2.ensures.value refl refl c.in_ok-bytes.ensures.reads;
      way = visit_way c.args.sup.now c.args.size c.args.laid c.in_ok-laid.laid c.requires.way c.in_ok-laid.ensures.is c.in_ok-laid.ensures.few;
      gone = inl (omega arith);
      kept = kept_wider (c.in-Some.place + c.block_size-2.result) (c.args.sup.now.at + c.args.sup.now.len) c.args.looked.now.items c.bytes_at.new.looked.items (omega (arith, there, same_size)) c.in_ok-bytes.ensures.kept_within;
    }

pub returns-in_err-laid-2-clause-reads : goal.returns-in_err-laid-2-clause-reads
returns-in_err-laid-2-clause-reads g t c =
    pointer_stops c.args.sup.now c.args.size (c.args.level - 1) (told_image (g.S.Store.state c.args.store.now)) _ c.args.looked.now.items c.in-Some.place c.in_ok-bytes.bytes.items c.loop-number.number c.loop-number.laid c.loop-number.looked.items
    c.loop-number.invariant.come (omega (arith, c.loop-number-test.true, c.from-number-end.ensures))
    (pointer_fits c.args.sup.now c.loop-number.number (length c.in_ok-bytes.bytes.items) c.requires.sound (omega (arith, c.loop-number-test.true, c.from-number-end.ensures)) (c.in_ok-bytes.ensures.long ∙ c.block_size-2.ensures.value))
    c.pointer_of-pointer.result c.pointer_of-pointer.ensures.at (c.pointer_of-pointer.ensures.value ∙ ap (λ list. signed_at c.args.sup.now.order (layout_of c.args.sup.now.version).pointer list (c.loop-number.number * pointer_len c.args.sup.now.version)) c.deref.ensures.value) (told_image (g.S.Store.state c.loop-number.store)) (ap told_image c.loop-number.invariant.same) c.mapped_blocks.new.looked.items
    c.from_residual-in_err-laid-2.result c.in_err-laid-2.field-0.0 c.from_residual-in_err-laid-2.ensures.0 c.from_residual-in_err-laid-2.ensures.1 c.in_err-laid-2.ensures.reads

pub loop-number-preserved : goal.loop-number-preserved
loop-number-preserved g t c = record {
  same = c.in_ok-laid-2.ensures.same ∙ c.loop-number.invariant.same;
  counted = c.in_ok-laid-2.ensures.counted ∙ c.loop-number.invariant.counted;
  come =
      pointer_goes_on c.args.sup.now c.args.size (c.args.level - 1) (told_image (g.S.Store.state c.args.store.now)) _ c.args.looked.now.items c.in-Some.place c.in_ok-bytes.bytes.items c.loop-number.number c.loop-number.laid c.loop-number.looked.items
      c.loop-number.invariant.come (omega (arith, c.loop-number-test.true, c.from-number-end.ensures))
      (pointer_fits c.args.sup.now c.loop-number.number (length c.in_ok-bytes.bytes.items) c.requires.sound (omega (arith, c.loop-number-test.true, c.from-number-end.ensures)) (c.in_ok-bytes.ensures.long ∙ c.block_size-2.ensures.value))
      c.pointer_of-pointer.result c.pointer_of-pointer.ensures.at (c.pointer_of-pointer.ensures.value ∙ ap (λ list. signed_at c.args.sup.now.order (layout_of c.args.sup.now.version).pointer list (c.loop-number.number * pointer_len c.args.sup.now.version)) c.deref.ensures.value) (told_image (g.S.Store.state c.loop-number.store)) (ap told_image c.loop-number.invariant.same) c.mapped_blocks.new.looked.items
      c.in_ok-laid-2.laid c.in_ok-laid-2.ensures.reads;
  way = c.in_ok-laid-2.ensures.way_after;
  gone = gone_on c.args.sup.now c.args.size c.loop-number.number (span c.args.sup.now (c.args.level - 1)) c.in_ok-laid.laid c.loop-number.laid c.in_ok-laid-2.laid c.loop-number.invariant.gone c.in_ok-laid-2.ensures.gone;
  kept = λ end enough ends. c.in_ok-laid-2.ensures.kept_within end enough (c.loop-number.invariant.kept end enough ends);
}

pub returns-clause-reads : goal.returns-clause-reads
returns-clause-reads g t c =
    pointers_end c.args.sup.now c.args.size (c.args.level - 1) (told_image (g.S.Store.state c.args.store.now)) _ c.args.looked.now.items c.in-Some.place c.in_ok-bytes.bytes.items c.loop-number.number c.loop-number.laid c.loop-number.looked.items
    c.loop-number.invariant.come (omega (arith, c.loop-number-test.false, c.from-number-end.ensures))

pub returns-clause-gone : goal.returns-clause-gone
returns-clause-gone g t c =
    gone_all c.args.sup.now c.args.size c.loop-number.number (c.args.level - 1) c.args.level c.args.laid c.in_ok-laid.laid c.loop-number.laid (omega arith) c.in_ok-laid.ensures.is
    (omega (arith, c.loop-number-test.false, c.from-number-end.ensures)) (omega (arith, c.loop-number.auto.number-end, c.from-number-end.ensures)) c.loop-number.invariant.gone
