use Rattle.std.proofs.Common.{◌+◌, ◌≤◌, ◌∷◌, [], sym, ap, ◌∙◌, subst, arith}
use Rattle.bytes_defs.specs.declared.order.Order.TheVariants.{Little}
use Rattle.disk_defs.specs.Disk.{told_image}
use Rattle.disk_defs.specs.declared.Area.TheVariants.{Image}
use Rattle.range_defs.specs.Places.{covers, longest_ranges}
use Rattle.rx_tree.specs.Within.{AreFilesWithin}
use Rattle.ufs_volume_defs.specs.Volume.{FoundVolume}
use Rattle.ufs_files.proofs.GuardedLaws.{rests_told}
use Rattle.ufs_files.proofs.ToldLaws.{has_size, tree_of_found, long_image, long_refused, tree_refused, tree_told}
use Rattle.ufs_files.proofs.TreeLaws.{files_wider}
use Rattle.ufs_files.proofs.volume.read_ufs.Goals as goal

pub returns-in_err-read_super-clause-told : goal.returns-in_err-read_super-clause-told
returns-in_err-read_super-clause-told g c =
    long_refused (Little ∷ []) (record { at = c.args.at; len = c.args.len }) c.args.volume (told_image (g.S.Store.state c.args.store.now)) (told_image (g.S.Store.state c.len.new.self)) c.in_err-read_super.field-0.0
    c.from_residual-in_err-read_super.result c.from_residual-in_err-read_super.ensures.0 c.from_residual-in_err-read_super.ensures.1 (ap told_image c.in_ok-size.ensures.same) c.in_err-read_super.ensures.told

pub returns-then-size-gt-LONGEST_IMAGE-clause-told :
    goal.returns-then-size-gt-LONGEST_IMAGE-clause-told
returns-then-size-gt-LONGEST_IMAGE-clause-told g c =
    long_image (Little ∷ []) (record { at = c.args.at; len = c.args.len }) c.args.volume (told_image (g.S.Store.state c.args.store.now)) (told_image (g.S.Store.state c.len.new.self)) c.in_ok-size.size c.in_ok-read_super.field-0 c.if-size-gt-LONGEST_IMAGE.true
    (ap told_image c.in_ok-size.ensures.same) (has_size (told_image (g.S.Store.state c.args.store.now)) c.in_ok-size.size _ c.in_ok-size.ensures.size (g.met.S.Store.tells_its_sizes c.args.store.now Image)) c.in_ok-read_super.ensures.told

pub returns-in_err-superblock-clause-told : goal.returns-in_err-superblock-clause-told
returns-in_err-superblock-clause-told g c =
    tree_refused (Little ∷ []) (record { at = c.args.at; len = c.args.len }) c.args.volume (told_image (g.S.Store.state c.args.store.now)) (told_image (g.S.Store.state c.len.new.self)) c.in_ok-size.size c.in_err-superblock.field-0.0 _ c.read_volume.new.looked.items
    c.from_residual-in_err-superblock.result c.from_residual-in_err-superblock.ensures.0 c.from_residual-in_err-superblock.ensures.1 (ap told_image c.in_ok-size.ensures.same)
    (has_size (told_image (g.S.Store.state c.args.store.now)) c.in_ok-size.size _ c.in_ok-size.ensures.size (g.met.S.Store.tells_its_sizes c.args.store.now Image)) c.in_err-superblock.ensures.reads

pub tree_of-requires-clause-within : goal.tree_of-requires-clause-within
tree_of-requires-clause-within g c =
    let found : FoundVolume = record { superblock = c.files.inside.superblock; files = c.files.inside.files } in
    let P : FoundVolume → Type 0 = λ f. AreFilesWithin (f.superblock.at + f.superblock.len) f.files in
    let Q : FoundVolume → Type 0 = λ f. f.superblock.at + f.superblock.len ≤ c.in_ok-size.size in
    files_wider found.files (found.superblock.at + found.superblock.len) c.in_ok-size.size
    (subst Q (sym c.files.view_is) (omega (arith, c.in_ok-superblock.ensures.begins, c.in_ok-superblock.ensures.long, c.in_ok-size.ensures.size, c.requires))) (subst P (sym c.files.view_is) c.in_ok-superblock.ensures.files.within)

pub returns-clause-told : goal.returns-clause-told
returns-clause-told g c =
    tree_told (Little ∷ []) (record { at = c.args.at; len = c.args.len }) c.args.volume (told_image (g.S.Store.state c.args.store.now)) (told_image (g.S.Store.state c.len.new.self)) c.in_ok-size.size c.in_ok-superblock.field-0 _ c.read_volume.new.looked.items
    c.in_ok-tree_of.field-0 c.new-looked.ensures.items (ap told_image c.in_ok-size.ensures.same)
    (has_size (told_image (g.S.Store.state c.args.store.now)) c.in_ok-size.size _ c.in_ok-size.ensures.size (g.met.S.Store.tells_its_sizes c.args.store.now Image)) c.in_ok-superblock.ensures.reads
    (c.in_ok-tree_of.ensures
    ∙ tree_of_found c.in_ok-size.size c.args.volume c.args.at c.args.len (longest_ranges (covers c.read_volume.new.looked.items) 0 c.in_ok-size.size) _ c.in_ok-superblock.field-0 c.files.view_is c.in_ok-superblock.ensures.begins
    c.in_ok-superblock.ensures.long)

pub returns-clause-rests : goal.returns-clause-rests
returns-clause-rests g c =
    rests_told (told_image (g.S.Store.state c.args.store.now)) (record { at = c.args.at; len = c.args.len }) c.args.volume c.in_ok-tree_of.field-0 (returns-clause-told g c)
