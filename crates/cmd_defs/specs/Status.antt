-- The code and the line of a status.
use Rattle.std.specs.Prelude.{ℕ, List, [], ◌++◌, codes, decimal}
use Rattle.fault_defs.specs.declared.Bound.{Bound}
use Rattle.fault_defs.specs.declared.Bound.TheVariants as bounds
use Rattle.fault_defs.specs.declared.Sort.{Sort}
use Rattle.fault_defs.specs.declared.Sort.TheVariants as sorts
use Rattle.fault_defs.specs.declared.What.{What}
use Rattle.fault_defs.specs.declared.What.TheVariants as values
use Rattle.cmd_defs.specs.declared.status.Status.{Status}
use Rattle.cmd_defs.specs.declared.status.Status.TheVariants.{Done, Usage, NotRecognised, Damaged, Unsupported, PlanRefused, JournalOpen, JournalRefused, DeviceFault, SourceFault, SinkFault, Limit, NoMemory, NotBuilt}
use Rattle.cmd_defs.specs.declared.status.JournalRefusal.{JournalRefusal}
use Rattle.cmd_defs.specs.declared.status.JournalRefusal.TheVariants.{NotOpen, Bad, OtherLength}
use Rattle.cmd_defs.specs.declared.status.PlanRefusal.{PlanRefusal}
use Rattle.cmd_defs.specs.declared.status.PlanRefusal.TheVariants.{MeetsGuard}

-- the code with which the program ends
abbrev pub code_of : Status → ℕ
code_of Done = 0
code_of Usage = 2
code_of NotRecognised = 3
code_of (Damaged sort place) = 4
code_of (Unsupported what place) = 5
code_of (PlanRefused refusal) = 7
code_of JournalOpen = 8
code_of (JournalRefused refusal) = 9
code_of DeviceFault = 10
code_of SourceFault = 11
code_of SinkFault = 12
code_of (Limit bound number) = 13
code_of NoMemory = 14
code_of NotBuilt = 15

-- a line of the program: its name, a text, and a line feed
unfoldable pub program_line : List ℕ → List ℕ
program_line text = codes "dfredact: " ++ text ++ codes "\n"

-- the name of a sort of damage
unfoldable pub sort_name : Sort → List ℕ
sort_name sorts.BootField = codes "BootField"
sort_name sorts.RecordMagic = codes "RecordMagic"
sort_name sorts.MftHole = codes "MftHole"
sort_name sorts.RecordField = codes "RecordField"
sort_name sorts.Fixup = codes "Fixup"
sort_name sorts.RunList = codes "RunList"
sort_name sorts.RunCount = codes "RunCount"
sort_name sorts.SegmentGap = codes "SegmentGap"
sort_name sorts.Sizes = codes "Sizes"
sort_name sorts.ListEntry = codes "ListEntry"
sort_name sorts.AttributeMissing = codes "AttributeMissing"
sort_name sorts.MftMap = codes "MftMap"
sort_name sorts.BadName = codes "BadName"
sort_name sorts.SuperField = codes "SuperField"
sort_name sorts.RootKind = codes "RootKind"
sort_name sorts.InodeNumber = codes "InodeNumber"
sort_name sorts.DeadInode = codes "DeadInode"
sort_name sorts.FileSize = codes "FileSize"
sort_name sorts.BlockPointer = codes "BlockPointer"
sort_name sorts.DirSize = codes "DirSize"
sort_name sorts.DirEntry = codes "DirEntry"
sort_name sorts.DirTwice = codes "DirTwice"
sort_name sorts.HeaderField = codes "HeaderField"
sort_name sorts.ForkExtent = codes "ForkExtent"
sort_name sorts.ForkSum = codes "ForkSum"
sort_name sorts.TreeHeader = codes "TreeHeader"
sort_name sorts.NodeLink = codes "NodeLink"
sort_name sorts.NodeRecord = codes "NodeRecord"
sort_name sorts.CatalogRecord = codes "CatalogRecord"
sort_name sorts.ExtentsRecord = codes "ExtentsRecord"
sort_name sorts.CatalogTwice = codes "CatalogTwice"
sort_name sorts.FolderMissing = codes "FolderMissing"

-- the line that says what is wrong with an image
unfoldable pub damage_line : Sort → ℕ → List ℕ
damage_line sort place = codes "dfredact: damaged: " ++ sort_name sort ++ codes " at " ++ decimal place ++ codes "\n"

-- the name of what isn't supported
unfoldable pub value_name : What → List ℕ
value_name values.BootGeometry = codes "BootGeometry"
value_name values.Snapshot = codes "Snapshot"
value_name values.ExtentsFork = codes "ExtentsFork"

-- the line that says what of an image isn't supported
unfoldable pub unsupported_line : What → ℕ → List ℕ
unsupported_line what place = codes "dfredact: unsupported: " ++ value_name what ++ codes " at " ++ decimal place ++ codes "\n"

-- the line that says a refusal of a plan
unfoldable pub refusal_line : PlanRefusal → List ℕ
refusal_line (MeetsGuard place rule) =
    codes "dfredact: rule " ++ decimal rule ++ codes " would fill byte " ++ decimal place ++ codes " of the guard\n"

-- the name of what is counted
unfoldable pub bound_name : Bound → List ℕ
bound_name bounds.Image = codes "Image"
bound_name bounds.Slots = codes "Slots"
bound_name bounds.Names = codes "Names"
bound_name bounds.PathBytes = codes "PathBytes"
bound_name bounds.Path = codes "Path"
bound_name bounds.Depth = codes "Depth"
bound_name bounds.Runs = codes "Runs"
bound_name bounds.AttributeList = codes "AttributeList"
bound_name bounds.RuleText = codes "RuleText"
bound_name bounds.RuleLine = codes "RuleLine"
bound_name bounds.Rules = codes "Rules"
bound_name bounds.Ranges = codes "Ranges"
bound_name bounds.Stream = codes "Stream"

-- the line that says which limit was passed
unfoldable pub limit_line : Bound → ℕ → List ℕ
limit_line bound number = codes "dfredact: limit " ++ bound_name bound ++ codes " " ++ decimal number ++ codes " passed\n"

-- the line that says why a journal is refused
unfoldable pub journal_line : JournalRefusal → List ℕ
journal_line NotOpen = codes "dfredact: journal holds no plan\n"
journal_line (Bad place) = codes "dfredact: journal is bad at " ++ decimal place ++ codes "\n"
journal_line (OtherLength kept found) = codes "dfredact: journal is for " ++ decimal kept ++ codes " bytes, image has " ++ decimal found ++ codes "\n"

-- the text that says a status with no operand
unfoldable pub plain_text : Status → List ℕ
plain_text Usage = codes "usage: inventory IMAGE, plan IMAGE RULES, redact IMAGE JOURNAL RULES, resume IMAGE JOURNAL, report JOURNAL, selftest KIND NUMBER FILES"
plain_text NotRecognised = codes "no file system recognised"
plain_text JournalOpen = codes "journal already holds a plan"
plain_text DeviceFault = codes "image or journal failed"
plain_text SourceFault = codes "rule text failed"
plain_text SinkFault = codes "output failed"
plain_text NoMemory = codes "out of memory"
plain_text NotBuilt = codes "not built yet"
plain_text _ = []

-- the line that says a status. Done says nothing
unfoldable pub status_line : Status → List ℕ
status_line Done = []
status_line (Damaged sort place) = damage_line sort place
status_line (Unsupported what place) = unsupported_line what place
status_line (PlanRefused refusal) = refusal_line refusal
status_line (JournalRefused refusal) = journal_line refusal
status_line (Limit bound number) = limit_line bound number
status_line status = program_line (plain_text status)
