-- A redaction that is done keeps the tree, and the files that meet no planned byte.
use Rattle.std.proofs.Common.{◌≡◌, ℕ, Option, Some, None, IfSome, List, subst, sym}
use Rattle.disk_defs.specs.Story.{Held}
use Rattle.disk_defs.specs.Disk.{State, held}
use Rattle.redacted_defs.proofs.SameTree.{same_tree_law, same_files_law}
use Rattle.cmd_defs.specs.Outcome.{IfTextAndHeld}
use Rattle.cmd_defs.specs.RedactCommand.{HasRedacted, RedactSays}
use Rattle.cmd_defs.specs.KeptTree.{KeepsTree}
use Rattle.cmd_defs.specs.declared.status.Status.{Status}
use Rattle.cmd_defs.specs.declared.status.Status.TheVariants.{Done}

done_keeps : (text : List ℕ) (h : Held) (before now : State) (W : List ℕ → Type 0) → HasRedacted text h before now W → IfSome (held now) (λ after. KeepsTree text h.image after.image)
done_keeps text h before now W (rules, tree, planned, carried, wrote) =
    let same = same_tree_law h.image tree rules planned.forms.tree_is planned.unguarded in
    let P : Option Held → Type 0 = λ found. IfSome found (λ after. KeepsTree text h.image after.image) in
    subst P (sym carried.holds) (
      rules,
      tree,
      planned.forms,
      record {
        tree_is = same.0;
        guard_is = same.1;
        kind_is = same.2;
        files = λ file apart. same_files_law h.image tree rules file apart;
      },
    )

pub redact_keeps : (text : Option (List ℕ)) (told : Option Held) (before now : State) (W P : List ℕ → Type 0) (status : Status) → IfTextAndHeld text told (λ t h. RedactSays status t h before now W P) → status ≡ Done
    → IfTextAndHeld text told (λ t h. IfSome (held now) (λ after. KeepsTree t h.image after.image))
redact_keeps None told before now W P status says is = tt
redact_keeps (Some t) None before now W P status says is = tt
redact_keeps (Some t) (Some h) before now W P status says is =
    done_keeps t h before now W (let S : Status → Type 0 = λ one. RedactSays one t h before now W P in subst S is says)
