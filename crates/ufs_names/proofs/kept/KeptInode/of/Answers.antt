use Rattle.std.proofs.Common.{rules, ◌∙◌}
use Rattle.ufs_names.proofs.KeptLaws.{pointers_in, same_pointers, with_its_own}
use Rattle.ufs_names.proofs.kept.KeptInode.of.Goals as goal
use Rattle.ufs_names.proofs.kept.KeptInode.of.Goals.{then-eq, else-eq+in_ok-new}

pub returns : goal.returns
returns c = elim c.if-eq.branch [
  | then-eq w ↦
      let own = same_pointers (pointers_in c.args.inode.now) c.lone.result c.eq.result c.eq.ensures w.if-eq.true ∙ c.lone.ensures in
      rw w.kept-is (search (rules, with_its_own c.args.inode.now _ own))
  | else-eq+in_ok-new w ↦ rw w.kept-is (search rules)
]
