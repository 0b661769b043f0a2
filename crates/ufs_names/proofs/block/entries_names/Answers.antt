use Rattle.std.proofs.Common.{◌+◌, ap, subst, ◌∙◌}
use Rattle.disk_defs.specs.Disk.{told_image}
use Rattle.image_defs.specs.Through.{through}
use Rattle.image_reads.proofs.Steps.{ends_with, through_value, through_fault}
use Rattle.image_reads.specs.Steps.{ReadsAs}
use Rattle.rx_store.specs.declared.read_fault.ReadFault.{ReadFault}
use Rattle.std.specs.Prelude.{Ok, Err, Result}
use Rattle.ufs_volume_defs.specs.Directory.{Entry}
use Rattle.ufs_volume_defs.specs.Names.{Walk, entry_name}
use Rattle.ufs_names.proofs.WalkLaws.{kept_on}
use Rattle.ufs_names.proofs.block.entries_names.Goals as goal

pub returns-in_err-walk-clause-reads : goal.returns-in_err-walk-clause-reads
returns-in_err-walk-clause-reads g c =
    let told = told_image (g.S.Store.state c.args.store.now) in
    let step = entry_name c.args.sup.now c.args.place.now.directory.now c.args.place.now.block.now in
    let whole = through step c.args.walk c.args.entries.now in
    let P : Entry → Type 0 = λ entry. (let failed : Result Walk ReadFault = Err c.in_err-walk.field-0.0 in ReadsAs (told_image (g.S.Store.state c.loop-entry.store)) (step c.loop-entry.walk entry) c.loop-entry.seen.looked.items c.entry_name.new.seen.looked.items failed) in
    ends_with told whole c.args.seen.now.looked.items c.entry_name.new.seen.looked.items c.from_residual.result c.in_err-walk.field-0.0 c.from_residual.ensures.0 c.from_residual.ensures.1
    (through_fault told whole c.args.seen.now.looked.items step c.args.entries.now c.loop-entry.entry-index c.entry-item.result c.loop-entry.walk c.loop-entry.seen.looked.items c.loop-entry.invariant.come
    (told_image (g.S.Store.state c.loop-entry.store)) c.in_err-walk.field-0.0 c.entry_name.new.seen.looked.items c.entry_name.new.seen.looked.items c.loop-entry-test.true (ap told_image c.loop-entry.invariant.same)
    (subst P c.entry-item.is c.in_err-walk.ensures.reads))

pub loop-entry-preserved : goal.loop-entry-preserved
loop-entry-preserved g c =
    let told = told_image (g.S.Store.state c.args.store.now) in
    let step = entry_name c.args.sup.now c.args.place.now.directory.now c.args.place.now.block.now in
    let whole = through step c.args.walk c.args.entries.now in
    let P : Entry → Type 0 = λ entry. (let found : Result Walk ReadFault = Ok c.in_ok-walk.walk in ReadsAs (told_image (g.S.Store.state c.loop-entry.store)) (step c.loop-entry.walk entry) c.loop-entry.seen.looked.items c.entry_name.new.seen.looked.items found) in
    record {
      same = c.in_ok-walk.ensures.same ∙ c.loop-entry.invariant.same;
      calm = c.in_ok-walk.ensures.counted ∙ c.loop-entry.invariant.calm;
      walked = c.in_ok-walk.ensures.walked;
      come =
          through_value told whole c.args.seen.now.looked.items step c.args.entries.now c.loop-entry.entry-index c.entry-item.result c.loop-entry.walk c.loop-entry.seen.looked.items c.loop-entry.invariant.come
          (told_image (g.S.Store.state c.loop-entry.store)) c.in_ok-walk.walk c.entry_name.new.seen.looked.items c.loop-entry-test.true (ap told_image c.loop-entry.invariant.same) (subst P c.entry-item.is c.in_ok-walk.ensures.reads);
      kept = kept_on (c.args.sup.now.at + c.args.sup.now.len) c.args.seen.now.looked.items c.loop-entry.seen.looked.items c.entry_name.new.seen.looked.items c.loop-entry.invariant.kept c.in_ok-walk.ensures.kept;
      inodes = c.in_ok-walk.ensures.inodes;
    }
