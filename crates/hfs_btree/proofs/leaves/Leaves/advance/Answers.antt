use Rattle.std.proofs.Common.{sym, ◌∙◌}
use Rattle.hfs_btree.proofs.Moves.{advance_told}
use Rattle.hfs_btree.proofs.leaves.Leaves.advance.Goals as goal

pub returns-clause-told : goal.returns-clause-told
returns-clause-told g c =
    advance_told _ c.args.self.now _ _ c.entering.invariant.told (sym c.must_enter.ensures ∙ c.entering-test.false)
    (record {
      steps = c.step.ensures.steps;
      keeps = c.step.ensures.keeps;
      link = c.step.ensures.link;
      next = c.step.ensures.following;
      left = c.step.ensures.left;
    })
