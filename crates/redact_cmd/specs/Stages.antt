-- The stages of the commands: the status with which a command ends where one is refused, and what two of them give.
use Rattle.std.specs.Prelude.{◌≡◌, ℕ, List, None, Ok}
use Rattle.disk_defs.specs.Story.{Change}
use Rattle.disk_defs.specs.Disk.{State, state_after_all}
use Rattle.rule_defs.specs.declared.Rule.{Rule}
use Rattle.rule_defs.specs.Reads.{Reads}
use Rattle.rx_ranges.specs.declared.plan.Plan.{Plan}
use Rattle.rx_tree.specs.TreeValue.{TreeValue}
use Rattle.plan_defs.specs.Plan.{plan_of, guarded_byte}
use Rattle.session_defs.specs.Session.{IsStopped}
use Rattle.cmd_defs.specs.PlanCommand.{PlanSays}
use Rattle.image_reader.specs.Says.{HasTree}
use Rattle.cmd_defs.specs.declared.status.Status.{Status}
use Rattle.cmd_defs.specs.declared.status.Status.TheVariants.{Done, SinkFault, NotRecognised, Damaged, Unsupported, PlanRefused, JournalRefused, DeviceFault, SourceFault, Limit, NoMemory, NotBuilt}
use Rattle.cmd_defs.specs.declared.status.PlanRefusal.TheVariants.{MeetsGuard}
use Rattle.cmd_defs.specs.declared.status.JournalRefusal.TheVariants.{NotOpen, Bad, OtherLength}
use Rattle.journal_format.specs.declared.fault.JournalFault.{JournalFault}
use Rattle.journal_format.specs.declared.fault.JournalFault.TheVariants as journal
use Rattle.rule_parse.specs.declared.RuleFault.{RuleFault}
use Rattle.rule_parse.specs.declared.RuleFault.TheVariants as rules
use Rattle.image_reader.specs.declared.fault.ImageFault.{ImageFault}
use Rattle.image_reader.specs.declared.fault.ImageFault.TheVariants.{OtherKind, Read}
use Rattle.rx_store.specs.declared.read_fault.ReadFault.TheVariants as read
use Rattle.rx_plan.specs.declared.PlanFault.{PlanFault}
use Rattle.rx_plan.specs.declared.PlanFault.TheVariants as plan

-- of a fault of reading the rules
abbrev pub status_of_rules : RuleFault → Status
status_of_rules rules.OtherForm = NotBuilt
status_of_rules rules.Source = SourceFault
status_of_rules rules.NoMemory = NoMemory

-- of a fault of reading the image
abbrev pub status_of_reading : ImageFault → Status
status_of_reading OtherKind = NotBuilt
status_of_reading (Read read.Device) = DeviceFault
status_of_reading (Read read.NoMemory) = NoMemory
status_of_reading (Read read.NotThis) = NotRecognised
status_of_reading (Read (read.Damaged sort place)) = Damaged sort place
status_of_reading (Read (read.Unsupported what place)) = Unsupported what place
status_of_reading (Read (read.Limit bound number)) = Limit bound number

-- of a refusal of the journal
abbrev pub status_of_journal : JournalFault → Status
status_of_journal journal.NotOpen = JournalRefused NotOpen
status_of_journal (journal.Bad at) = JournalRefused (Bad at)
status_of_journal (journal.OtherLength kept found) = JournalRefused (OtherLength kept found)
status_of_journal journal.Device = DeviceFault
status_of_journal journal.NoMemory = NoMemory

-- of a refusal of the plan
abbrev pub status_of_planning : PlanFault → Status
status_of_planning (plan.MeetsGuard at number) = PlanRefused (MeetsGuard at number)
status_of_planning (plan.Limit bound number) = Limit bound number
status_of_planning plan.NoMemory = NoMemory

-- the plan of an image's tree and these rules, which fills no byte of the guard
abbrev pub HasPlan : List ℕ → List Rule → Plan → Type 0
HasPlan image rules plan = (tree : TreeValue) × HasTree image (Ok tree) × (guarded_byte tree rules ≡ None) × (plan ≡ plan_of tree rules)

-- an image and these rules have no plan, for the reason that this status says of each text with these rules
abbrev pub RefusesPlan : Status → List ℕ → List Rule → Type 0
RefusesPlan status image rules = (text : List ℕ) → Reads text rules → PlanSays status text image (λ report. ⊥) (λ report. ⊥)

-- what the status says with which a session and its report end: of the store, that was to make these changes, before and now, and
-- of what was written, all of the report or some first bytes of it
abbrev pub CarriesOut : Status → List Change → State → State → Type 0 → Type 0 → Type 0
CarriesOut Done changes before now Wrote BeganWith = (now ≡ state_after_all changes before) × Wrote
CarriesOut SinkFault changes before now Wrote BeganWith = (now ≡ state_after_all changes before) × BeganWith
CarriesOut DeviceFault changes before now Wrote BeganWith = IsStopped changes before now
CarriesOut _ changes before now Wrote BeganWith = ⊥
