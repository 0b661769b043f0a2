use Rattle.std.specs.Prelude.{◌≡◌, ◌-◌, Ok, Err, length, refl}
use Rattle.std.proofs.Common.{ap, ◌∙◌, arith}
use Rattle.disk_defs.specs.Disk.{told_image}
use Rattle.hfs_defs.specs.Nodes.{record_count, next_node}
use Rattle.hfs_btree.proofs.Nodes.{entered_kept, written}
use Rattle.hfs_btree.proofs.Moves.{none_from, length_from, no_records, same_records, read_as, enters_none, refuses_told, entered_told, entered_falls}
use Rattle.hfs_btree.proofs.leaves.Leaves.enter.Goals as goal

pub invariant_of-self-2 : goal.invariant_of-self-2
invariant_of-self-2 g c =
    let same : length c.read_leaf.new.node ≡ length c.self.inside.node.items = omega (arith, c.read_leaf.auto.node, ap length c.deref_mut.ensures.value) in
    let w = written c.read_leaf.new.node c.self.inside.node.items c.self.inside.node.len same (omega (arith, c.deref_mut.ensures.len, ap length c.deref_mut.ensures.value)) in
    entered_kept _ _ _ c.read_leaf.new.node _ _ _ _ _ c.self.invariant same w c.in_ok-place.ensures.sound (c.record_count-self-inside.ensures ∙ ap record_count (c.deref.ensures.value ∙ w))

pub returns-in_err-place-clause-told : goal.returns-in_err-place-clause-told
returns-in_err-place-clause-told g c =
    let same : length c.read_leaf.new.node ≡ length c.self.inside.node.items = omega (arith, c.read_leaf.auto.node, ap length c.deref_mut.ensures.value) in
    let w = written c.read_leaf.new.node c.self.inside.node.items c.self.inside.node.len same (omega (arith, c.deref_mut.ensures.len, ap length c.deref_mut.ensures.value)) in
    refuses_told (told_image (g.S.Store.state c.args.store.now)) _ c.args.self.now _ c.from_residual.result c.in_err-place.field-0.0 c.read_leaf.new.node c.from_residual.ensures.0 c.from_residual.ensures.1
    c.self.view_is (enters_none _ _ c.requires.enters)
    (record {
      pieces = refl;
      fork_data = refl;
      node_size = ap length w ∙ same;
      pending = no_records (c.self.inside.count - c.self.inside.index) _ _ _ _ _ _ _ (none_from _ _ _ _ _ (ap (λ cursor. cursor.pending) c.self.view_is ∙ enters_none _ _ c.requires.enters));
      link = refl;
      next = refl;
      left = refl;
    })
    (read_as (told_image (g.S.Store.state c.args.store.now)) c.self.inside.pieces c.items.result.now c.self.inside.fork_data (length c.self.inside.node.items) (length c.deref_mut.result.now) c.self.inside.way.link c.self.inside.way.following
    c.self.inside.way.left (Err c.in_err-place.field-0.0) c.read_leaf.new.node c.items.ensures (ap length c.deref_mut.ensures.value) c.in_err-place.ensures.told)

pub returns-clause-told : goal.returns-clause-told
returns-clause-told g c =
    let same : length c.read_leaf.new.node ≡ length c.self.inside.node.items = omega (arith, c.read_leaf.auto.node, ap length c.deref_mut.ensures.value) in
    let w = written c.read_leaf.new.node c.self.inside.node.items c.self.inside.node.len same (omega (arith, c.deref_mut.ensures.len, ap length c.deref_mut.ensures.value)) in
    entered_told (told_image (g.S.Store.state c.args.store.now)) _ c.args.self.now _ c.in_ok-place.place c.read_leaf.new.node c.self.view_is (enters_none _ _ c.requires.enters)
    (record {
      pieces = refl;
      fork_data = refl;
      node_size = ap length w ∙ same;
      pending = same_records _ _ _ _ _ w (c.record_count-self-inside.ensures ∙ ap record_count (c.deref.ensures.value ∙ w));
      link = refl;
      next = c.next_node.ensures ∙ ap next_node (c.deref-2.ensures.value ∙ w);
      left = refl;
    })
    (read_as (told_image (g.S.Store.state c.args.store.now)) c.self.inside.pieces c.items.result.now c.self.inside.fork_data (length c.self.inside.node.items) (length c.deref_mut.result.now) c.self.inside.way.link c.self.inside.way.following c.self.inside.way.left (Ok c.in_ok-place.place) c.read_leaf.new.node c.items.ensures (ap length c.deref_mut.ensures.value) c.in_ok-place.ensures.told)

pub returns-clause-falls : goal.returns-clause-falls
returns-clause-falls g c =
    entered_falls _ c.args.self.now _ _ c.record_count-self-inside.result c.self.view_is (length_from _ _ _ _ _) refl c.in_ok-place.ensures.more c.record_count-self-inside.type_inv
