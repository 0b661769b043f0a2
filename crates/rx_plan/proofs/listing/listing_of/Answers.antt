use Rattle.std.proofs.Common.{◌≡◌, ◌∙◌, ap, subst}
use Rattle.plan_defs.specs.Plan.{is_painted}
use Rattle.rx_tree.specs.TreeValue.{TreeValue}
use Rattle.rx_tree.specs.Within.{IsWithin}
use Rattle.plan_defs.proofs.PlanLaws.{file-within, file-in_reach}
use Rattle.rx_plan.proofs.FileLines.{lines-more}
use Rattle.rx_plan.proofs.listing.listing_of.Goals as goal

pub push_lines_of-requires-clause-within : goal.push_lines_of-requires-clause-within
push_lines_of-requires-clause-within c =
    let tree = c.args.tree.now in
    let within : IsWithin tree = subst (λ (t : TreeValue). IsWithin t) c.tree.view_is c.tree.invariant.0 in
    let files_are : c.items-files.result.now ≡ tree.files = c.items-files.ensures.items ∙ ap (λ (t : TreeValue). t.files) c.tree.view_is in
    file-in_reach tree c.items-files.result.now c.loop-i.i c.index-files-i.result within files_are c.loop-i-test.true c.index-files-i.is

pub loop-i-preserved : goal.loop-i-preserved
loop-i-preserved c =
    let tree = c.args.tree.now in
    let files = c.items-files.result.now in
    let file = c.index-files-i.result in
    let within : IsWithin tree = subst (λ (t : TreeValue). IsWithin t) c.tree.view_is c.tree.invariant.0 in
    let files_are : files ≡ tree.files = c.items-files.ensures.items ∙ ap (λ (t : TreeValue). t.files) c.tree.view_is in record {
      lines = λ rules listed_are.
          lines-more rules files c.args.listed.now c.loop-i.i tree.image_len (is_painted c.args.fills.now) file c.loop-i.lines.items _
          c.loop-i-test.true listed_are c.index-files-i.is (c.loop-i.invariant.lines rules listed_are)
          (c.in_ok-push_lines_of.ensures.lines tree.image_len (file-within tree files c.loop-i.i file within files_are c.loop-i-test.true c.index-files-i.is));
      paths = c.in_ok-push_lines_of.ensures.paths;
    }
