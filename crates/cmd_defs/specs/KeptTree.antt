-- What a redaction leaves as it was: the tree of the image, and the files that meet no planned byte.
use Rattle.std.specs.Prelude.{◌≡◌, ℕ, false, Ok, List}
use Rattle.image_defs.specs.Agreement.{AgreeOn}
use Rattle.rule_defs.specs.declared.Rule.{Rule}
use Rattle.rx_tree.specs.TreeValue.{TreeValue}
use Rattle.rx_tree.specs.declared.file.FileEntry.{FileEntry}
use Rattle.plan_defs.specs.Plan.{is_planned, touched_ranges, touches_planned}
use Rattle.tree_defs.specs.Kind.{other_kind}
use Rattle.tree_defs.specs.ImageTree.{image_tree, image_guard}
use Rattle.cmd_defs.specs.PlanCommand.{MeetsForms}

-- an image has the tree, the guard and the kind that one had before, and each file that touches no planned byte has its bytes
pub record HasKeptTree (rules : List Rule) (tree : TreeValue) (before now : List ℕ) : Type 0 where
  pub tree_is : image_tree now ≡ Ok tree
  pub guard_is : image_guard now ≡ image_guard before
  pub kind_is : other_kind now ≡ other_kind before
  pub files : (file : FileEntry) → touches_planned tree.image_len (is_planned rules tree.files) file ≡ false → AgreeOn (touched_ranges file) now before

-- so it is of the rules that a text says and the tree of the image before
abbrev pub KeepsTree : List ℕ → List ℕ → List ℕ → Type 0
KeepsTree text before now = (rules : List Rule) × (tree : TreeValue) × MeetsForms text before rules tree × HasKeptTree rules tree before now
