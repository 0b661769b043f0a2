use Rattle.std.specs.Prelude.{◌≡◌, length}
use Rattle.std.proofs.Common.{ℕ, ◌+◌, ◌%◌, ap, sym, subst, ◌∙◌, arith}
use Rattle.disk_defs.specs.Disk.{told_image}
use Rattle.ufs_inode_defs.specs.Stream.{content_len}
use Rattle.ufs_names.proofs.SizeLaws.{content_whole}
use Rattle.ufs_names.proofs.BlockNames.{block_stops, block_goes}
use Rattle.ufs_blocks.proofs.MappedLaws.{kept_wider}
use Rattle.ufs_names.proofs.WalkLaws.{kept_then}
use Rattle.ufs_names.proofs.block.block_names.Goals as goal

pub leading_entries-requires-clause-whole : goal.leading_entries-requires-clause-whole
leading_entries-requires-clause-whole g c =
    let whole = content_whole c.args.sup.now c.args.directory.now.inode.size c.args.block.now.index c.requires.sound c.requires.whole in
    let P : ℕ → Type 0 = λ n. n % 512 ≡ 0 in
    let size = ap (λ inode. content_len c.args.sup.now inode.size c.block.inside.index) (c.inode-inode.ensures ∙ ap (λ name. name.inode) c.directory.view_is) ∙ ap (λ block. content_len c.args.sup.now c.args.directory.now.inode.size block.index) c.block.view_is in
    subst P (sym (ap (λ bytes. length bytes) c.deref.ensures.value ∙ c.in_ok-bytes.ensures.long ∙ c.content_len-len.ensures.value ∙ size)) whole

pub returns-in_err-entries-clause-reads : goal.returns-in_err-entries-clause-reads
returns-in_err-entries-clause-reads g c =
    let size = ap (λ inode. content_len c.args.sup.now inode.size c.block.inside.index) (c.inode-inode.ensures ∙ ap (λ name. name.inode) c.directory.view_is) ∙ ap (λ block. content_len c.args.sup.now c.args.directory.now.inode.size block.index) c.block.view_is in
    block_stops (told_image (g.S.Store.state c.args.store.now)) c.args.sup.now c.args.directory.now c.args.walk c.args.block.now c.args.seen.now.looked.items c.bytes_at.new.looked.items
    c.block.inside.at c.content_len-len.result c.in_ok-bytes.bytes.items c.deref.result.now c.from_residual-in_err-entries.result c.in_err-entries.field-0.0
    c.from_residual-in_err-entries.ensures.0 c.from_residual-in_err-entries.ensures.1 (ap (λ block. block.at) c.block.view_is) (c.content_len-len.ensures.value ∙ size) c.deref.ensures.value
    c.in_ok-bytes.ensures.reads c.in_err-entries.ensures.entries

pub returns-clause-reads : goal.returns-clause-reads
returns-clause-reads g c =
    let size = ap (λ inode. content_len c.args.sup.now inode.size c.block.inside.index) (c.inode-inode.ensures ∙ ap (λ name. name.inode) c.directory.view_is) ∙ ap (λ block. content_len c.args.sup.now c.args.directory.now.inode.size block.index) c.block.view_is in
    block_goes (told_image (g.S.Store.state c.args.store.now)) c.args.sup.now c.args.directory.now c.args.walk c.args.block.now c.args.seen.now.looked.items c.bytes_at.new.looked.items
    c.block.inside.at c.content_len-len.result c.in_ok-bytes.bytes.items c.deref.result.now (told_image (g.S.Store.state c.bytes_at.new.store)) c.in_ok-entries.entries c.items.result.now
    c.entries_names.new.seen.looked.items c.entries_names.result (ap told_image c.in_ok-bytes.ensures.same) (ap (λ block. block.at) c.block.view_is) (c.content_len-len.ensures.value ∙ size)
    c.deref.ensures.value c.items.ensures c.in_ok-bytes.ensures.reads c.in_ok-entries.ensures.entries c.entries_names.ensures.reads

pub returns-clause-kept : goal.returns-clause-kept
returns-clause-kept g c =
    let size = ap (λ inode. content_len c.args.sup.now inode.size c.block.inside.index) (c.inode-inode.ensures ∙ ap (λ name. name.inode) c.directory.view_is) ∙ ap (λ block. content_len c.args.sup.now c.args.directory.now.inode.size block.index) c.block.view_is in
    let place = ap (λ block. block.at) c.block.view_is in
    let within = kept_wider (c.block.inside.at + c.content_len-len.result) (c.args.sup.now.at + c.args.sup.now.len) c.args.seen.now.looked.items c.bytes_at.new.looked.items (omega (arith, place, c.content_len-len.ensures.value, size, c.requires.lies.inside)) c.in_ok-bytes.ensures.kept_within in
    kept_then c.entries_names.result (c.args.sup.now.at + c.args.sup.now.len) c.args.seen.now.looked.items c.bytes_at.new.looked.items c.entries_names.new.seen.looked.items within c.entries_names.ensures.kept
