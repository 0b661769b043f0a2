-- The areas of a store that a command calls, and the faults there.
use Rattle.std.specs.Prelude.{ℕ, ◌⊎◌}
use Rattle.disk_defs.specs.Count.{Faults, Rose}
use Rattle.disk_defs.specs.declared.Area.{Area}
use Rattle.disk_defs.specs.declared.Area.TheVariants as area
use Rattle.cmd_defs.specs.declared.command.Command.{Command}
use Rattle.cmd_defs.specs.declared.command.Command.TheVariants.{Inventory, Plan, Redact, Resume, Report, Selftest}

-- a command calls the areas that its words name
abbrev pub MayCall : Command → Area → Type 0
MayCall Inventory area.Image = Unit {0}
MayCall Inventory area.Journal = ⊥
MayCall Plan area.Image = Unit {0}
MayCall Plan area.Journal = ⊥
MayCall Redact area = Unit {0}
MayCall Resume area = Unit {0}
MayCall Report area.Image = ⊥
MayCall Report area.Journal = Unit {0}
MayCall (Selftest kind number files) area = ⊥

-- a command reads the rule text
abbrev pub ReadsRules : Command → Type 0
ReadsRules Inventory = ⊥
ReadsRules Plan = Unit {0}
ReadsRules Redact = Unit {0}
ReadsRules Resume = ⊥
ReadsRules Report = ⊥
ReadsRules (Selftest kind number files) = ⊥

-- a command isn't built yet
abbrev pub IsUnbuilt : Command → Type 0
IsUnbuilt Inventory = Unit {0}
IsUnbuilt Plan = ⊥
IsUnbuilt Redact = ⊥
IsUnbuilt Resume = ⊥
IsUnbuilt Report = ⊥
IsUnbuilt (Selftest kind number files) = Unit {0}

-- the faults on an area
abbrev pub faults_on : Area → Faults → ℕ
faults_on area.Image faults = faults.image
faults_on area.Journal faults = faults.journal

-- a fault was counted on some area between two moments
abbrev pub RoseSomewhere : Faults → Faults → Type 0
RoseSomewhere before now = Rose before.image now.image ⊎ Rose before.journal now.journal
