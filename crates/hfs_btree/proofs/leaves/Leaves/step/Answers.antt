use Rattle.std.proofs.Common.{ap, arith}
use Rattle.std.proofs.lemmas.Bool.Decides.{nat_tests}
use Rattle.hfs_btree.proofs.Moves.{steps_on}
use Rattle.hfs_btree.proofs.leaves.Leaves.step.Goals as goal

pub returns-then-self-clause-steps : goal.returns-then-self-clause-steps
returns-then-self-clause-steps c = steps_on _ _ _ _ _ _ _ (ap (λ cursor. cursor.pending) c.self.view_is) (grind (arith, nat_tests, c.if-self.true)) c.if-self.true
