-- What a status of `resume` says where a stage gave it.
use Rattle.std.proofs.Common.{◌≡◌, ◌≢◌, ℕ, Bool, Option, Some, None, IfSome, Result, Ok, Err, List, length, refl, sym, ◌∙◌, ap, subst, ⊎_elim, inr}
use Rattle.std.proofs.lemmas.Bool.Decides.{eqb_tells}
use Rattle.disk_defs.specs.Story.{Held, Sync}
use Rattle.disk_defs.specs.Disk.{State, held, size_of, told_of, told_journal, state_after, state_after_all}
use Rattle.disk_defs.specs.declared.Area.TheVariants.{Image, Journal}
use Rattle.journal_format.specs.Says.{Says}
use Rattle.journal_format.specs.declared.state.JournalState.{JournalState}
use Rattle.journal_defs.specs.Form.{journal_len}
use Rattle.journal_format.specs.declared.fault.JournalFault.{JournalFault}
use Rattle.journal_format.specs.declared.fault.JournalFault.TheVariants as journal
use Rattle.rx_ranges.specs.declared.plan.Plan.{Plan}
use Rattle.session_defs.specs.Script.{rest_of, changes_of}
use Rattle.session_defs.specs.Session.{SessionValue, Resumed, IsStopped, calls_of, new_session}
use Rattle.text_defs.specs.Report.{report}
use Rattle.text_defs.specs.declared.ReportState.TheVariants as state
use Rattle.cmd_defs.specs.JournalFacts.{HoldsPlan}
use Rattle.cmd_defs.specs.ResumeCommand.{IsResumed, HasFinished, WasStopped, ResumeSays}
use Rattle.cmd_defs.specs.declared.status.Status.{Status}
use Rattle.cmd_defs.specs.declared.status.Status.TheVariants.{Done, DeviceFault, SinkFault}
use Rattle.cmd_defs.proofs.StoreLaws.{rest_carried, of_area, of_synced}
use Rattle.redact_cmd.specs.Stages.{status_of_journal, CarriesOut}

-- what a test of the length answers
abbrev Fits : Type 0
Fits = Result (Unit {0}) JournalFault

abbrev fitting : Fits
fitting = Ok tt

abbrev refused : JournalFault → Fits
refused fault = Err fault

-- two numbers are the same where what follows from the other case is refuted
same_number : (a b : ℕ) → (a ≢ b → ⊥) → a ≡ b
same_number a b never = ⊎_elim (λ equal. equal.1) (λ other. absurd (never other.1)) (eqb_tells a b)

-- the journal is that of an image of the length that was found
pub has_length : (a b : ℕ) (fault : JournalFault) → (a ≢ b → fitting ≡ refused fault) → a ≡ b
has_length a b fault other = same_number a b (λ differ. let is = other differ in cc)

-- it is that of another one
other_length : (kept found : ℕ) (fault : JournalFault) → (kept ≡ found → refused fault ≡ fitting)
    → (kept ≢ found → refused fault ≡ refused (journal.OtherLength kept found)) → (kept ≢ found) × (fault ≡ journal.OtherLength kept found)
other_length kept found fault same other =
    let differ : kept ≢ found = λ equal. let is = same equal in cc in
    let is = other differ in
    (differ, cc)

pub fits_refused : (told : Option Held) (before now : State) (W P : List ℕ → Type 0) (plan : Plan) (groups : List Bool) (last : Bool) (found : ℕ) (fault : JournalFault) (status : Status)
    → status ≡ status_of_journal fault → (plan.image_len ≡ found → refused fault ≡ fitting)
    → (plan.image_len ≢ found → refused fault ≡ refused (journal.OtherLength plan.image_len found))
    → IfSome told (λ held. HoldsPlan held.journal plan groups last) → IfSome told (λ held. length held.image ≡ found)
    → IfSome told (λ held. ResumeSays status held before now W P)
fits_refused None before now W P plan groups last found fault status is same other holds sized = tt
fits_refused (Some held) before now W P plan groups last found fault status is same other holds sized =
    let both = other_length plan.image_len found fault same other in
    subst (λ status. ResumeSays status held before now W P) (sym (is ∙ ap status_of_journal both.1)) (plan, groups, last, holds, refl, sized, both.0)

-- the session of the journal's plan
session_calls : (plan : Plan) (groups : List Bool) (last : Bool) (session : SessionValue) → session ≡ new_session plan (Resumed groups last) (Some (journal_len plan))
    → changes_of (calls_of session.plan session.start) ≡ changes_of (rest_of plan groups last)
session_calls plan groups last session is = ap (λ (session : SessionValue). changes_of (calls_of session.plan session.start)) is

stopped : (h : Held) (before synced now : State) (plan : Plan) (groups : List Bool) (last : Bool) (session : SessionValue)
    → session ≡ new_session plan (Resumed groups last) (Some (journal_len plan)) → synced ≡ state_after Sync before
    → IsStopped (changes_of (calls_of session.plan session.start)) synced now → IsResumed h plan groups last → WasStopped h before now
stopped h before synced now plan groups last session session_is is left resumed =
    let calls = session_calls plan groups last session session_is in (
      plan,
      groups,
      last,
      resumed,
      subst (λ state. IsStopped (changes_of (rest_of plan groups last)) state now) is (subst (λ changes. IsStopped changes synced now) calls left),
    )

finished : (h : Held) (before synced now : State) (W : List ℕ → Type 0) (plan : Plan) (groups : List Bool) (last : Bool) (session : SessionValue) → held before ≡ Some h
    → session ≡ new_session plan (Resumed groups last) (Some (journal_len plan)) → synced ≡ state_after Sync before
    → now ≡ state_after_all (changes_of (calls_of session.plan session.start)) synced → IsResumed h plan groups last → W (report plan state.Done)
    → HasFinished h before now W
finished h before synced now W plan groups last session told_is session_is is done resumed wrote =
    let made : now ≡ state_after_all (changes_of (rest_of plan groups last)) (state_after Sync before) =
    done ∙ ap (λ changes. state_after_all changes synced) (session_calls plan groups last session session_is) ∙ ap (state_after_all (changes_of (rest_of plan groups last))) is in
    (plan, groups, last, resumed, rest_carried plan groups last before now h resumed.holds (sym resumed.fits) told_is made, wrote)

-- where a session of the journal's plan was made
pub carried : (told : Option Held) (before synced now : State) (W P : List ℕ → Type 0) (plan : Plan) (groups : List Bool) (last : Bool) (found : ℕ) (session : SessionValue) (status : Status)
    → held before ≡ told → session ≡ new_session plan (Resumed groups last) (Some (journal_len plan)) → plan.image_len ≡ found → synced ≡ state_after Sync before
    → CarriesOut status (changes_of (calls_of session.plan session.start)) synced now (W (report plan state.Done)) (P (report plan state.Done))
    → IfSome told (λ h. HoldsPlan h.journal plan groups last) → IfSome told (λ h. length h.image ≡ found)
    → IfSome told (λ h. ResumeSays status h before now W P)
carried None before synced now W P plan groups last found session status told_is session_is fits is says holds sized = tt
carried (Some h) before synced now W P plan groups last found session Done told_is session_is fits is says holds sized =
    finished h before synced now W plan groups last session told_is session_is is says.0 (record { holds = holds; fits = fits ∙ sym sized }) says.1
carried (Some h) before synced now W P plan groups last found session SinkFault told_is session_is fits is says holds sized =
    finished h before synced now P plan groups last session told_is session_is is says.0 (record { holds = holds; fits = fits ∙ sym sized }) says.1
carried (Some h) before synced now W P plan groups last found session DeviceFault told_is session_is fits is says holds sized =
    inr (stopped h before synced now plan groups last session session_is is says (record { holds = holds; fits = fits ∙ sym sized }))
carried (Some h) before synced now W P plan groups last found session status told_is session_is fits is says holds sized = absurd says

-- what was read of the journal behind a sync
pub held_plan : (before synced : State) (state : JournalState) → synced ≡ state_after Sync before → IfSome (told_journal synced) (λ bytes. Says bytes (Ok state))
    → IfSome (held before) (λ held. HoldsPlan held.journal state.plan state.groups state.last)
held_plan before synced state is told = of_synced Journal before synced (λ bytes. HoldsPlan bytes state.plan state.groups state.last) is (by_told (told_journal synced) told)
  where
    by_told : (told : Option (List ℕ)) → IfSome told (λ bytes. Says bytes (Ok state)) → IfSome told (λ bytes. HoldsPlan bytes state.plan state.groups state.last)
    by_told None says = tt
    by_told (Some bytes) says = record { is_open = says.0; is_plan = says.1; is_journal = says.2 }

-- the length of the image behind a sync
pub held_length : (before synced : State) (len : ℕ) → synced ≡ state_after Sync before → len ≡ size_of Image synced
    → IfSome (told_of Image before) (λ bytes. length bytes ≡ size_of Image before) → IfSome (held before) (λ held. length held.image ≡ len)
held_length before synced len is size told =
    subst (λ number. IfSome (held before) (λ held. length held.image ≡ number)) (sym (size ∙ ap (size_of Image) is))
    (of_area Image (held before) (λ bytes. length bytes ≡ size_of Image before) told)
