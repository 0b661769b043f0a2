-- What contracts see of lent attributes.
use Rattle.std.specs.Prelude.{ℕ, Bool, true, false, List}
use Rattle.bytes_defs.specs.Numbers.{little_at}
use Rattle.ntfs_record_defs.specs.Lent.{LentForm, LentContent, LentRuns}
use Rattle.ntfs_record.specs.declared.attr.Form.{Form}
use Rattle.ntfs_record.specs.declared.attr.Form.TheVariants.{Resident, Runs}

abbrev pub form_seen : Form → LentForm
form_seen (Resident at content) = LentContent at content.now
form_seen (Runs first last at runs allocated real initialised) = LentRuns first last at runs.now allocated real initialised

-- content or a run list with these bytes, from byte `at` of the record on, of an attribute with this header
abbrev pub form_given : Bool → ℕ → List ℕ → List ℕ → LentForm
form_given true at body header = LentContent at body
form_given false at body header =
    LentRuns (little_at 8 header 16) (little_at 8 header 24) at body (little_at 8 header 40) (little_at 8 header 48) (little_at 8 header 56)
