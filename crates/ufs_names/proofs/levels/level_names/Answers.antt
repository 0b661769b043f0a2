use Rattle.std.proofs.Common.{◌+◌, ap, subst, ◌∙◌}
use Rattle.disk_defs.specs.Disk.{told_image}
use Rattle.image_defs.specs.Through.{through}
use Rattle.image_reads.proofs.Steps.{ends_with, through_value, through_fault}
use Rattle.image_reads.specs.Steps.{ReadsAs}
use Rattle.rx_store.specs.declared.read_fault.ReadFault.{ReadFault}
use Rattle.std.specs.Prelude.{Ok, Err, Result}
use Rattle.ufs_volume_defs.specs.Names.{Named}
use Rattle.ufs_volume_defs.specs.Names.{Walk, directory_names}
use Rattle.ufs_names.proofs.WalkLaws.{kept_on}
use Rattle.ufs_names.proofs.levels.level_names.Goals as goal

pub returns-in_err-walk-clause-reads : goal.returns-in_err-walk-clause-reads
returns-in_err-walk-clause-reads g c =
    let told = told_image (g.S.Store.state c.args.store.now) in
    let step = directory_names c.args.sup.now in
    let whole = through step c.args.walk c.args.directories.now in
    let P : Named → Type 0 = λ directory. (let failed : Result Walk ReadFault = Err c.in_err-walk.field-0.0 in ReadsAs (told_image (g.S.Store.state c.loop-directory.store)) (step c.loop-directory.walk directory) c.loop-directory.seen.looked.items c.directory_names.new.seen.looked.items failed) in
    ends_with told whole c.args.seen.now.looked.items c.directory_names.new.seen.looked.items c.from_residual.result c.in_err-walk.field-0.0 c.from_residual.ensures.0 c.from_residual.ensures.1
    (through_fault told whole c.args.seen.now.looked.items step c.args.directories.now c.loop-directory.directory-index c.directory-item.result c.loop-directory.walk c.loop-directory.seen.looked.items c.loop-directory.invariant.come
    (told_image (g.S.Store.state c.loop-directory.store)) c.in_err-walk.field-0.0 c.directory_names.new.seen.looked.items c.directory_names.new.seen.looked.items c.loop-directory-test.true (ap told_image c.loop-directory.invariant.same)
    (subst P c.directory-item.is c.in_err-walk.ensures.reads))

pub loop-directory-preserved : goal.loop-directory-preserved
loop-directory-preserved g c =
    let told = told_image (g.S.Store.state c.args.store.now) in
    let step = directory_names c.args.sup.now in
    let whole = through step c.args.walk c.args.directories.now in
    let P : Named → Type 0 = λ directory. (let found : Result Walk ReadFault = Ok c.in_ok-walk.walk in ReadsAs (told_image (g.S.Store.state c.loop-directory.store)) (step c.loop-directory.walk directory) c.loop-directory.seen.looked.items c.directory_names.new.seen.looked.items found) in
    record {
      same = c.in_ok-walk.ensures.same ∙ c.loop-directory.invariant.same;
      calm = c.in_ok-walk.ensures.counted ∙ c.loop-directory.invariant.calm;
      walked = c.in_ok-walk.ensures.walked;
      come =
          through_value told whole c.args.seen.now.looked.items step c.args.directories.now c.loop-directory.directory-index c.directory-item.result c.loop-directory.walk c.loop-directory.seen.looked.items c.loop-directory.invariant.come
          (told_image (g.S.Store.state c.loop-directory.store)) c.in_ok-walk.walk c.directory_names.new.seen.looked.items c.loop-directory-test.true (ap told_image c.loop-directory.invariant.same) (subst P c.directory-item.is c.in_ok-walk.ensures.reads);
      kept = kept_on (c.args.sup.now.at + c.args.sup.now.len) c.args.seen.now.looked.items c.loop-directory.seen.looked.items c.directory_names.new.seen.looked.items c.loop-directory.invariant.kept c.in_ok-walk.ensures.kept;
      inodes = c.in_ok-walk.ensures.inodes;
    }
