-- The tree and the files of an image that was filled as its plan says.
use Rattle.std.specs.Prelude.{◌≡◌, ℕ, false, None, Ok, List}
use Rattle.image_defs.specs.Agreement.{AgreeOn}
use Rattle.plan_defs.specs.Plan.{plan_of, guarded_byte, is_planned, touched_ranges, touches_planned}
use Rattle.rule_defs.specs.declared.Rule.{Rule}
use Rattle.rx_tree.specs.declared.file.FileEntry.{FileEntry}
use Rattle.rx_tree.specs.TreeValue.{TreeValue}
use Rattle.session_defs.specs.Outcome.{filled}
use Rattle.tree_defs.specs.Kind.{other_kind}
use Rattle.tree_defs.specs.ImageTree.{image_tree, image_guard}

-- an image with the planned bytes filled
abbrev pub redacted : TreeValue → List Rule → List ℕ → List ℕ
redacted tree rules image = filled (plan_of tree rules).ranges image

-- Where the plan of an image fills no byte of its guard, the filled image has the same tree, the same guard and the same kind.
abbrev pub SameTreeLaw : Type 0
SameTreeLaw = (image : List ℕ) (tree : TreeValue) (rules : List Rule) → image_tree image ≡ Ok tree → guarded_byte tree rules ≡ None
    → (image_tree (redacted tree rules image) ≡ Ok tree) × (image_guard (redacted tree rules image) ≡ image_guard image)
    × (other_kind (redacted tree rules image) ≡ other_kind image)

-- A file that touches no planned byte has the same bytes at all its places.
abbrev pub SameFilesLaw : Type 0
SameFilesLaw = (image : List ℕ) (tree : TreeValue) (rules : List Rule) (file : FileEntry)
    → touches_planned tree.image_len (is_planned rules tree.files) file ≡ false → AgreeOn (touched_ranges file) (redacted tree rules image) image
