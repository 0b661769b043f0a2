use Rattle.std.proofs.Common.{◌+◌, length, arith, ap, refl}
use Rattle.disk_defs.specs.Disk.{told_image}
use Rattle.ufs_inode_defs.specs.Layout.{layout_of, pointer_len}
use Rattle.ufs_inode_defs.specs.Stream.{pointers_from}
use Rattle.ufs_blocks.proofs.MappedLaws.{settled_reads}
use Rattle.ufs_blocks.proofs.StreamLaws.{short_content, same_pointers, direct_refused, stream_reads, stream_stops, content_covered, content_placed}
use Rattle.ufs_blocks.proofs.streams.content_blocks.Goals as goal

pub direct_blocks-requires-clause-short : goal.direct_blocks-requires-clause-short
direct_blocks-requires-clause-short g c = short_content c.args.sup.now c.args.inode.now c.requires.sound c.requires.good

pub rising_blocks-requires-clause-short : goal.rising_blocks-requires-clause-short
rising_blocks-requires-clause-short g c = short_content c.args.sup.now c.args.inode.now c.requires.sound c.requires.good

pub returns-in_err-direct-clause-reads : goal.returns-in_err-direct-clause-reads
returns-in_err-direct-clause-reads g c =
    let same = same_pointers (c.args.inode.now.at + c.pointer_places-direct_at.result.0) (c.args.inode.now.at + (layout_of c.args.sup.now.version).direct_at) c.pointer_len.result (pointer_len c.args.sup.now.version) c.args.inode.now.direct c.args.inode.now.direct
    (ap (λ n. c.args.inode.now.at + n) c.pointer_places-direct_at.ensures.direct) c.pointer_len.ensures.value refl in
    settled_reads (told_image (g.S.Store.state c.args.store.now)) _ c.args.looked.now.items c.from_residual.result
    (direct_refused c.args.sup.now c.args.inode.now.size _ (pointers_from (c.args.inode.now.at + (layout_of c.args.sup.now.version).indirect_at) (pointer_len c.args.sup.now.version) c.args.inode.now.indirect) _ c.args.runs c.args.inode.now.size c.none_laid-none.result same
    refl c.none_laid-none.ensures c.from_residual.result c.in_err-direct.field-0.0 c.from_residual.ensures.0 c.from_residual.ensures.1 c.in_err-direct.ensures.settles)

pub returns-in_err-laid-clause-reads : goal.returns-in_err-laid-clause-reads
returns-in_err-laid-clause-reads g c =
    let same = same_pointers (c.args.inode.now.at + c.pointer_places-direct_at.result.0) (c.args.inode.now.at + (layout_of c.args.sup.now.version).direct_at) c.pointer_len.result (pointer_len c.args.sup.now.version) c.args.inode.now.direct c.args.inode.now.direct
    (ap (λ n. c.args.inode.now.at + n) c.pointer_places-direct_at.ensures.direct) c.pointer_len.ensures.value refl in
    stream_stops c.args.sup.now c.args.inode.now.size _ (pointers_from (c.args.inode.now.at + (layout_of c.args.sup.now.version).indirect_at) (pointer_len c.args.sup.now.version) c.args.inode.now.indirect) _ c.args.runs c.args.inode.now.size c.none_laid-none.result same
    refl c.none_laid-none.ensures c.in_ok-direct.direct c.in_ok-direct.ensures.settles (told_image (g.S.Store.state c.args.store.now)) c.args.looked.now.items c.rising_blocks.new.looked.items c.from_residual-in_err-laid.result c.in_err-laid.field-0.0
    (pointers_from (c.args.inode.now.at + c.pointer_places-direct_at.result.1) (pointer_len c.args.sup.now.version) c.args.inode.now.indirect)
    (ap (λ n. pointers_from (c.args.inode.now.at + n) (pointer_len c.args.sup.now.version) c.args.inode.now.indirect) c.pointer_places-direct_at.ensures.indirect)
    c.from_residual-in_err-laid.ensures.0 c.from_residual-in_err-laid.ensures.1 c.in_err-laid.ensures.reads

pub returns-clause-reads : goal.returns-clause-reads
returns-clause-reads g c =
    let same = same_pointers (c.args.inode.now.at + c.pointer_places-direct_at.result.0) (c.args.inode.now.at + (layout_of c.args.sup.now.version).direct_at) c.pointer_len.result (pointer_len c.args.sup.now.version) c.args.inode.now.direct c.args.inode.now.direct
    (ap (λ n. c.args.inode.now.at + n) c.pointer_places-direct_at.ensures.direct) c.pointer_len.ensures.value refl in
    stream_reads c.args.sup.now c.args.inode.now.size _ (pointers_from (c.args.inode.now.at + (layout_of c.args.sup.now.version).indirect_at) (pointer_len c.args.sup.now.version) c.args.inode.now.indirect) _ c.args.runs c.args.inode.now.size c.none_laid-none.result same
    refl c.none_laid-none.ensures c.in_ok-direct.direct c.in_ok-direct.ensures.settles (told_image (g.S.Store.state c.args.store.now)) c.args.looked.now.items c.rising_blocks.new.looked.items _
    (pointers_from (c.args.inode.now.at + c.pointer_places-direct_at.result.1) (pointer_len c.args.sup.now.version) c.args.inode.now.indirect)
    (ap (λ n. pointers_from (c.args.inode.now.at + n) (pointer_len c.args.sup.now.version) c.args.inode.now.indirect) c.pointer_places-direct_at.ensures.indirect)
    c.in_ok-laid.ensures.reads

pub returns-clause-covered : goal.returns-clause-covered
returns-clause-covered g c =
    content_covered c.args.sup.now c.args.inode.now c.requires.sound c.requires.good c.args.runs (length c.args.inode.now.direct) c.none_laid-none.result c.in_ok-direct.direct c.in_ok-laid.laid (omega arith) c.none_laid-none.ensures c.in_ok-direct.ensures.gone
    c.in_ok-laid.ensures.gone c.in_ok-laid.ensures.way_after

pub returns-clause-placed : goal.returns-clause-placed
returns-clause-placed g c =
    (content_placed c.args.sup.now c.args.inode.now c.requires.sound c.requires.good (told_image (g.S.Store.state c.args.store.now)) c.args.runs c.args.looked.now.items c.rising_blocks.new.looked.items c.in_ok-laid.laid (omega arith) (omega arith) (returns-clause-reads g c)).0

pub returns-clause-behind : goal.returns-clause-behind
returns-clause-behind g c =
    (content_placed c.args.sup.now c.args.inode.now c.requires.sound c.requires.good (told_image (g.S.Store.state c.args.store.now)) c.args.runs c.args.looked.now.items c.rising_blocks.new.looked.items c.in_ok-laid.laid (omega arith) (omega arith) (returns-clause-reads g c)).1
