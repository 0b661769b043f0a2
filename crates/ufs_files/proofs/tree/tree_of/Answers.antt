use Rattle.std.proofs.Common.{◌≡◌, true, All, List, refl, sym, subst, ap, ◌∙◌}
use Rattle.range_defs.specs.declared.Range.{Range}
use Rattle.rx_tree.specs.Order.{AreInVolumes}
use Rattle.rx_tree.specs.Within.{IsWithin}
use Rattle.rx_tree.specs.NameLimits.{has_few_names}
use Rattle.rx_tree.specs.declared.file.FileEntry.{FileEntry}
use Rattle.rx_tree.specs.declared.volume.Volume.{Volume}
use Rattle.ufs_volume_defs.specs.Volume.{FoundVolume, kind_of_version, tree_of}
use Rattle.ufs_files.proofs.TreeLaws.{tree_is, tree_within, in_one}
use Rattle.ufs_files.proofs.tree.tree_of.Goals as goal

pub invariant_of-result-2 : goal.invariant_of-result-2
invariant_of-result-2 c =
    let files : List FileEntry = c.files.inside.files.items in
    let volume : Range = record { at = c.args.sup.now.at; len = c.args.sup.now.len } in
    let found : FoundVolume = record { superblock = c.args.sup.now; files = c.args.files } in
    let one : Volume = record { number = c.args.number; kind = kind_of_version c.args.sup.now.version; at = volume.at; len = volume.len } in
    let InThese : List Volume → Type 0 = λ volumes. AreInVolumes volumes files in
    let OfOne : List FileEntry → Type 0 = λ list. All (λ (file : FileEntry). file.id.volume ≡ c.args.number) list in
    let Few : List FileEntry → Type 0 = λ list. has_few_names list ≡ true in (
      subst IsWithin
          (tree_is c.args.size c.args.number volume found c.in_ok-volumes_of.field-0 c.in_ok-no_ranges.field-0 c.in_ok-guard_from.field-0 files c.in_ok-volumes_of.ensures c.in_ok-no_ranges.ensures c.files.view_is)
          (tree_within c.args.size c.args.number volume c.in_ok-guard_from.field-0 found c.requires.reach c.requires.inside c.requires.within c.in_ok-guard_from.ensures.within),
      subst InThese (sym c.in_ok-volumes_of.ensures) (in_one one c.args.number files refl (subst OfOne (sym c.files.view_is) c.requires.in_volume)),
      subst Few (sym c.files.view_is) c.requires.few_names,
    )

pub returns : goal.returns
returns c =
    let volume : Range = record { at = c.args.sup.now.at; len = c.args.sup.now.len } in
    let found : FoundVolume = record { superblock = c.args.sup.now; files = c.args.files } in
    sym (tree_is c.args.size c.args.number volume found c.in_ok-volumes_of.field-0 c.in_ok-no_ranges.field-0 c.in_ok-guard_from.field-0 c.files.inside.files.items c.in_ok-volumes_of.ensures c.in_ok-no_ranges.ensures c.files.view_is)
    ∙ ap (λ guard. tree_of c.args.size volume c.args.number guard found) c.in_ok-guard_from.ensures.guard
