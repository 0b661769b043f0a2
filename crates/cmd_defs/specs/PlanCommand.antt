-- The command `plan`: what each status says of the rule text and the image, and of what was written.
use Rattle.std.specs.Prelude.{◌≡◌, ◌⊎◌, ℕ, ◌≤◌, Some, None, Ok, Err, List, length}
use Rattle.fault_defs.specs.declared.Bound.{Bound}
use Rattle.fault_defs.specs.declared.Bound.TheVariants.{Ranges}
use Rattle.fault_defs.specs.declared.Refusal.{Refusal}
use Rattle.fault_defs.specs.declared.Refusal.TheVariants as refusals
use Rattle.rx_ranges.specs.declared.plan.TheConstants.{MAX_RANGES}
use Rattle.rule_defs.specs.declared.Rule.{Rule}
use Rattle.rule_defs.specs.Reads.{Reads, SaysNoRules}
use Rattle.rx_tree.specs.TreeValue.{TreeValue}
use Rattle.tree_defs.specs.Kind.{other_kind, IsOtherKind}
use Rattle.tree_defs.specs.ImageTree.{image_tree}
use Rattle.plan_defs.specs.Plan.{plan_of, guarded_byte, planning_rule, HasMoreRanges}
use Rattle.text_defs.specs.Report.{report}
use Rattle.text_defs.specs.declared.ReportState.TheVariants.{Planned}
use Rattle.cmd_defs.specs.declared.status.Status.{Status}
use Rattle.cmd_defs.specs.declared.status.Status.TheVariants.{Done, NotRecognised, Damaged, Unsupported, PlanRefused, DeviceFault, SourceFault, SinkFault, Limit, NoMemory, NotBuilt}
use Rattle.cmd_defs.specs.declared.status.PlanRefusal.TheVariants.{MeetsGuard}
use Rattle.cmd_defs.specs.Outcome.{IsAnswer}

-- the rule text says these rules, and the image, which is of no other kind, this tree
pub record MeetsForms (text image : List ℕ) (rules : List Rule) (tree : TreeValue) : Type 0 where
  pub reads : Reads text rules
  pub no_other : other_kind image ≡ None
  pub tree_is : image_tree image ≡ Ok tree

-- the text says some rules
abbrev pub SaysRules : List ℕ → Type 0
SaysRules text = (rules : List Rule) × Reads text rules

-- the text has another form, or the image is of another kind
abbrev pub HasNoForm : List ℕ → List ℕ → Type 0
HasNoForm text image = SaysNoRules text ⊎ IsOtherKind image

-- the text says some rules, and the image, which is of no other kind, has no tree for this reason
pub record RefusesImage (refusal : Refusal) (text image : List ℕ) : Type 0 where
  pub says : SaysRules text
  pub no_other : other_kind image ≡ None
  pub refused : image_tree image ≡ Err refusal

-- this byte is the least of the guard that the plan fills, and this is its rule
abbrev pub FillsGuard : ℕ → ℕ → List ℕ → List ℕ → Type 0
FillsGuard byte number text image =
    (rules : List Rule) × (tree : TreeValue) × MeetsForms text image rules tree × (guarded_byte tree rules ≡ Some byte)
    × (planning_rule rules tree byte ≡ Some number)

-- the plan fills no byte of the guard and has too many ranges: this limit was passed
abbrev pub PassesRanges : Bound → ℕ → List ℕ → List ℕ → Type 0
PassesRanges bound number text image =
    (rules : List Rule) × (tree : TreeValue) × MeetsForms text image rules tree × (bound ≡ Ranges) × (number ≡ MAX_RANGES)
    × HasMoreRanges number tree rules

-- the image passes this limit, or its plan does
abbrev pub PassesLimit : Bound → ℕ → List ℕ → List ℕ → Type 0
PassesLimit bound number text image = RefusesImage (refusals.Limit bound number) text image ⊎ PassesRanges bound number text image

-- the text and the image have a plan that fills no byte of the guard and has few enough ranges, and this holds of its report
abbrev pub HasReport : List ℕ → List ℕ → (List ℕ → Type 0) → Type 0
HasReport text image P =
    (rules : List Rule) × (tree : TreeValue) × MeetsForms text image rules tree × (guarded_byte tree rules ≡ None)
    × (length (plan_of tree rules).ranges ≤ MAX_RANGES) × P (report (plan_of tree rules) Planned)

-- What a status of `plan` says of the rule text and the image, in the order of the refusals. The two facts are of what was
-- written: this text, and some first bytes of it. A status that `plan` never gives has no case that holds.
abbrev pub PlanSays : Status → List ℕ → List ℕ → (List ℕ → Type 0) → (List ℕ → Type 0) → Type 0
PlanSays SourceFault text image Wrote BeganWith = Unit {0}
PlanSays NotBuilt text image Wrote BeganWith = HasNoForm text image
PlanSays DeviceFault text image Wrote BeganWith = SaysRules text
PlanSays NotRecognised text image Wrote BeganWith = RefusesImage refusals.NotThis text image
PlanSays (Damaged sort place) text image Wrote BeganWith = RefusesImage (refusals.Damaged sort place) text image
PlanSays (Unsupported what place) text image Wrote BeganWith = RefusesImage (refusals.Unsupported what place) text image
PlanSays (PlanRefused (MeetsGuard byte number)) text image Wrote BeganWith = FillsGuard byte number text image
PlanSays (Limit bound number) text image Wrote BeganWith = PassesLimit bound number text image
PlanSays SinkFault text image Wrote BeganWith = HasReport text image BeganWith
PlanSays Done text image Wrote BeganWith = HasReport text image Wrote
PlanSays NoMemory text image Wrote BeganWith = Unit {0}
PlanSays _ text image Wrote BeganWith = ⊥

-- the answer of `plan` to a text and an image, whatever was written
abbrev pub PlanAnswers : Status → List ℕ → List ℕ → Type 0
PlanAnswers status text image = IsAnswer status × PlanSays status text image (λ written. Unit {0}) (λ written. Unit {0})
