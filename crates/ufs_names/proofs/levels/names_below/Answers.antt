use Rattle.std.specs.Prelude.{◌≡◌, List, length}
use Rattle.std.specs.List.{All}
use Rattle.std.proofs.Common.{ℕ, ◌+◌, ◌-◌, ap, sym, subst, ◌∙◌, arith}
use Rattle.disk_defs.specs.Disk.{told_image}
use Rattle.image_reads.proofs.Coming.{IsCome}
use Rattle.ufs_volume_defs.specs.Names.{Named, directories_behind, names_below}
use Rattle.ufs_names.specs.Walked.{IsNamed}
use Rattle.ufs_names.proofs.WalkLaws.{kept_on}
use Rattle.ufs_names.proofs.LevelLaws.{behind_named, none_left, some_left, level_ends, too_deep, depth_goes, depth_stops}
use Rattle.ufs_names.proofs.levels.names_below.Goals as goal

pub returns-then-is_empty-clause-reads : goal.returns-then-is_empty-clause-reads
returns-then-is_empty-clause-reads g c =
    level_ends (told_image (g.S.Store.state c.args.store.now)) (names_below 1025 c.args.sup.now c.args.walk c.args.directories) c.args.seen.now.looked.items c.loop-depth.seen.looked.items c.args.sup.now c.loop-depth.walk
    (1025 - c.loop-depth._depth) c.loop-depth.directories (none_left c.loop-depth.directories c.items.result.now c.is_empty.result c.items.ensures c.is_empty.ensures c.if-is_empty.true) c.loop-depth.invariant.come

pub returns-then-is_empty-2-clause-reads : goal.returns-then-is_empty-2-clause-reads
returns-then-is_empty-2-clause-reads g c =
    level_ends (told_image (g.S.Store.state c.args.store.now)) (names_below 1025 c.args.sup.now c.args.walk c.args.directories) c.args.seen.now.looked.items c.loop-depth.seen.looked.items c.args.sup.now c.loop-depth.walk
    (1025 - c.loop-depth._depth) c.loop-depth.directories (none_left c.loop-depth.directories c.items-2.result.now c.is_empty-2.result c.items-2.ensures c.is_empty-2.ensures c.if-is_empty-2.true) c.loop-depth.invariant.come

pub returns-else-is_empty-2-clause-reads : goal.returns-else-is_empty-2-clause-reads
returns-else-is_empty-2-clause-reads g c =
    let last : 1025 - c.loop-depth._depth ≡ 0 = omega arith in
    let P : ℕ → Type 0 = λ n. IsCome (told_image (g.S.Store.state c.args.store.now)) (names_below 1025 c.args.sup.now c.args.walk c.args.directories) c.args.seen.now.looked.items (names_below n c.args.sup.now c.loop-depth.walk c.loop-depth.directories) c.loop-depth.seen.looked.items in
    too_deep (told_image (g.S.Store.state c.args.store.now)) (names_below 1025 c.args.sup.now c.args.walk c.args.directories) c.args.seen.now.looked.items c.loop-depth.seen.looked.items c.args.sup.now c.loop-depth.walk
    c.loop-depth.directories c.loop-depth.seen.looked.items (some_left c.loop-depth.directories c.items-2.result.now c.is_empty-2.result c.items-2.ensures c.is_empty-2.ensures c.if-is_empty-2.false)
    (subst P last c.loop-depth.invariant.come)

pub returns-in_err-walk-clause-reads : goal.returns-in_err-walk-clause-reads
returns-in_err-walk-clause-reads g c =
    depth_stops (told_image (g.S.Store.state c.args.store.now)) (names_below 1025 c.args.sup.now c.args.walk c.args.directories) c.args.seen.now.looked.items c.loop-depth.seen.looked.items c.args.sup.now c.loop-depth.walk
    (told_image (g.S.Store.state c.loop-depth.store)) c.loop-depth._depth c.loop-depth.directories c.items-in-loop-depth.result.now (ap told_image c.loop-depth.invariant.same)
    (some_left c.loop-depth.directories c.items.result.now c.is_empty.result c.items.ensures c.is_empty.ensures c.if-is_empty.false) c.items-in-loop-depth.ensures (omega arith) c.loop-depth.invariant.come
    c.from_residual.result c.in_err-walk.field-0.0 c.level_names.new.seen.looked.items c.from_residual.ensures.0 c.from_residual.ensures.1 c.in_err-walk.ensures.reads

pub loop-depth-preserved : goal.loop-depth-preserved
loop-depth-preserved g c = record {
  same = c.in_ok-walk.ensures.same ∙ c.loop-depth.invariant.same;
  calm = c.in_ok-walk.ensures.counted ∙ c.loop-depth.invariant.calm;
  walked = c.in_ok-walk.ensures.walked;
  named =
      let P : List Named → Type 0 = λ list. All (IsNamed c.args.sup.now) list in
      subst P (sym (c.in_ok-directories.ensures ∙ ap (directories_behind c.len-count.result) (c.as_slice.ensures.value ∙ ap (λ walk. walk.names) c.walk-in-loop-depth.view_is)))
      (behind_named c.args.sup.now c.len-count.result c.in_ok-walk.walk.names c.in_ok-walk.ensures.walked.named);
  come =
      depth_goes (told_image (g.S.Store.state c.args.store.now)) (names_below 1025 c.args.sup.now c.args.walk c.args.directories) c.args.seen.now.looked.items c.loop-depth.seen.looked.items c.args.sup.now c.loop-depth.walk
      (told_image (g.S.Store.state c.loop-depth.store)) c.loop-depth._depth c.loop-depth.directories c.items-in-loop-depth.result.now (ap told_image c.loop-depth.invariant.same)
      (some_left c.loop-depth.directories c.items.result.now c.is_empty.result c.items.ensures c.is_empty.ensures c.if-is_empty.false) c.items-in-loop-depth.ensures (omega arith) c.loop-depth.invariant.come
      c.in_ok-walk.walk c.len-count.result c.as_slice.result.now c.in_ok-directories.directories c.level_names.new.seen.looked.items
      (omega (arith, ap (λ walk. length walk.names) c.walk.view_is, c.len-count.ensures)) (c.as_slice.ensures.value ∙ ap (λ walk. walk.names) c.walk-in-loop-depth.view_is) c.in_ok-directories.ensures c.in_ok-walk.ensures.reads;
  kept = kept_on (c.args.sup.now.at + c.args.sup.now.len) c.args.seen.now.looked.items c.loop-depth.seen.looked.items c.level_names.new.seen.looked.items c.loop-depth.invariant.kept c.in_ok-walk.ensures.kept;
  inodes = c.in_ok-walk.ensures.inodes;
}
