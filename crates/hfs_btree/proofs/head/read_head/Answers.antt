use Rattle.std.specs.Prelude.{◌==◌, slice_index}
use Rattle.bytes_defs.specs.Numbers.{big_at}
use Rattle.std.proofs.Common.{ap, sym, ◌∙◌, arith}
use Rattle.disk_defs.specs.Disk.{told_image}
use Rattle.disk_defs.specs.declared.Area.TheVariants.{Image}
use Rattle.std.proofs.lemmas.Bool.{and_left, and_right}
use Rattle.std.proofs.lemmas.Bool.Decides.{nat_tests}
use Rattle.hfs_defs.specs.Nodes.{is_node_size}
use Rattle.hfs_btree.proofs.head.read_head.Goals.{then-not-is_node_size-via-then-not-is_node_size, then-not-is_node_size-via-else-not-is_node_size+then-bytes-ne1}
use Rattle.hfs_btree.proofs.HeadLaws.{short_told, no_head_told, head_told, size_is_long}
use Rattle.hfs_btree.proofs.head.read_head.Goals as goal

pub returns-then-len-lt512-clause-told : goal.returns-then-len-lt512-clause-told
returns-then-len-lt512-clause-told g c =
    short_told (told_image (g.S.Store.state c.args.store.now)) c.args.pieces.now _ c.args.len _ (g.met.S.Store.tells_its_sizes c.args.store.now Image) c.requires.within c.requires.covered c.if-len-lt512.true

pub returns-then-not-is_node_size-clause-told : goal.returns-then-not-is_node_size-clause-told
returns-then-not-is_node_size-clause-told g c =
    no_head_told (told_image (g.S.Store.state c.args.store.now)) c.args.pieces.now _ c.args.len c.args.fork_data c.read_pieces.new.buf (g.met.S.Store.tells_its_sizes c.args.store.now Image) c.requires.within c.requires.covered c.in_ok-read_pieces.ensures.bytes
    (omega (arith, c.read_pieces.auto.buf))
    (elim c.then-not-is_node_size.branch [
      | then-not-is_node_size-via-then-not-is_node_size w ↦ and_left _ _ (ap (is_node_size c.args.len) (sym c.u16_at-node_size.ensures) ∙ sym c.is_node_size.ensures.is ∙ w.if-not-is_node_size.true)
      | then-not-is_node_size-via-else-not-is_node_size+then-bytes-ne1 w ↦ and_right (is_node_size c.args.len (big_at 2 c.read_pieces.new.buf 32)) (slice_index c.read_pieces.new.buf 8 == 1) (grind (arith, nat_tests, w.if-bytes-ne1.true))
    ])

pub returns-clause-told : goal.returns-clause-told
returns-clause-told g c =
    head_told (told_image (g.S.Store.state c.args.store.now)) c.args.pieces.now _ c.args.len c.args.fork_data c.read_pieces.new.buf _ _ (g.met.S.Store.tells_its_sizes c.args.store.now Image) c.requires.within c.requires.covered c.in_ok-read_pieces.ensures.bytes
    (omega (arith, c.read_pieces.auto.buf)) (ap (is_node_size c.args.len) (sym c.u16_at-node_size.ensures) ∙ sym c.is_node_size.ensures.is ∙ c.if-not-is_node_size.false) c.if-bytes-ne1.false c.u16_at-node_size.ensures c.u32_at.ensures

pub returns-clause-long : goal.returns-clause-long
returns-clause-long g c = size_is_long c.args.len _ (sym c.is_node_size.ensures.is ∙ c.if-not-is_node_size.false)
