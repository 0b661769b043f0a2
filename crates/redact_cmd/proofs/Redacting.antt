-- What a status of `redact` says where a stage gave it.
use Rattle.std.proofs.Common.{◌≡◌, ◌≤◌, ℕ, Option, Some, None, IfSome, Ok, List, length, refl, sym, ◌∙◌, ap, subst, inl, inr}
use Rattle.disk_defs.specs.Story.{Held, Sync}
use Rattle.disk_defs.specs.Disk.{State, held, size_of, state_after, state_after_all}
use Rattle.disk_defs.specs.declared.Area.TheVariants.{Image}
use Rattle.journal_defs.specs.Form.{IsOpen}
use Rattle.rule_defs.specs.declared.Rule.{Rule}
use Rattle.rule_defs.specs.Reads.{Reads, SaysNoRules}
use Rattle.rx_ranges.specs.PlanChecks.{IsPlan}
use Rattle.rx_ranges.specs.declared.plan.Plan.{Plan}
use Rattle.rx_ranges.specs.declared.plan.TheConstants.{MAX_RANGES}
use Rattle.rx_tree.specs.TreeValue.{TreeValue}
use Rattle.plan_defs.specs.Plan.{plan_of, guarded_byte}
use Rattle.session_defs.specs.Script.{script, changes_of}
use Rattle.session_defs.specs.Session.{SessionValue, HasSizes, Begun, IsStopped, calls_of, new_session}
use Rattle.text_defs.specs.Report.{report}
use Rattle.text_defs.specs.declared.ReportState.TheVariants as state
use Rattle.rule_parse.specs.declared.RuleFault.{RuleFault}
use Rattle.rule_parse.specs.declared.RuleFault.TheVariants as rules
use Rattle.cmd_defs.specs.JournalFacts.{IsUntouched}
use Rattle.cmd_defs.specs.Outcome.{IfTextAndHeld}
use Rattle.cmd_defs.specs.RedactCommand.{IsPlanned, IsRedacted, HasRedacted, WasStopped, RedactSays}
use Rattle.cmd_defs.specs.declared.status.Status.{Status}
use Rattle.cmd_defs.specs.declared.status.Status.TheVariants.{Done, Usage, PlanRefused, JournalOpen, JournalRefused, DeviceFault, SourceFault, SinkFault, NoMemory, NotBuilt}
use Rattle.cmd_defs.specs.declared.status.PlanRefusal.TheVariants.{MeetsGuard}
use Rattle.cmd_defs.specs.PlanCommand.{PlanSays}
use Rattle.cmd_defs.proofs.StoreLaws.{script_carried}
use Rattle.image_reader.specs.Says.{HasTree}
use Rattle.redact_cmd.specs.Stages.{status_of_rules, HasPlan, RefusesPlan, CarriesOut}

-- ---- the rules

rules_say : (text : Option (List ℕ)) (told : Option Held) (before now : State) (W P : List ℕ → Type 0) (fault : RuleFault) → (fault ≡ rules.OtherForm → IfSome text SaysNoRules)
    → IfTextAndHeld text told (λ t h. RedactSays (status_of_rules fault) t h before now W P)
rules_say None told before now W P fault other = tt
rules_say (Some t) None before now W P fault other = tt
rules_say (Some t) (Some h) before now W P rules.OtherForm other =
    let none = other refl in
    (inl none, λ says. absurd (none says.0 says.1))
rules_say (Some t) (Some h) before now W P rules.Source other = tt
rules_say (Some t) (Some h) before now W P rules.NoMemory other = tt

pub no_rules : (text : Option (List ℕ)) (told : Option Held) (before now : State) (W P : List ℕ → Type 0) (fault : RuleFault) (status : Status) → status ≡ status_of_rules fault
    → (fault ≡ rules.OtherForm → IfSome text SaysNoRules) → IfTextAndHeld text told (λ t h. RedactSays status t h before now W P)
no_rules text told before now W P fault status is other =
    subst (λ status. IfTextAndHeld text told (λ t h. RedactSays status t h before now W P)) (sym is) (rules_say text told before now W P fault other)

-- ---- the journal

-- a call failed before the session
pub failed_before : (text : Option (List ℕ)) (told : Option Held) (before now : State) (W P : List ℕ → Type 0) (rules : List Rule) → IfSome text (λ t. Reads t rules)
    → IsUntouched before now → IfTextAndHeld text told (λ t h. RedactSays DeviceFault t h before now W P)
failed_before None told before now W P rules reads untouched = tt
failed_before (Some t) None before now W P rules reads untouched = tt
failed_before (Some t) (Some h) before now W P rules reads untouched = ((rules, reads), inl untouched)

pub journal_open : (text : Option (List ℕ)) (told : Option Held) (before now : State) (W P : List ℕ → Type 0) (rules : List Rule) → IfSome text (λ t. Reads t rules)
    → IfSome told (λ h. IsOpen h.journal) → IfTextAndHeld text told (λ t h. RedactSays JournalOpen t h before now W P)
journal_open None told before now W P rules reads stands = tt
journal_open (Some t) None before now W P rules reads stands = tt
journal_open (Some t) (Some h) before now W P rules reads stands = ((rules, reads), stands)

-- ---- the image and the plan

-- a status of `plan` that says of no report is one of `redact` behind a journal that doesn't stand open
from_plan : (t : List ℕ) (h : Held) (before now : State) (W P : List ℕ → Type 0) (status : Status) → PlanSays status t h.image (λ text. ⊥) (λ text. ⊥)
    → IsUntouched before now → ¬ (IsOpen h.journal) → RedactSays status t h before now W P
from_plan t h before now W P Done says untouched closed = absurd says.5
from_plan t h before now W P SinkFault says untouched closed = absurd says.5
from_plan t h before now W P Usage says untouched closed = absurd says
from_plan t h before now W P JournalOpen says untouched closed = absurd says
from_plan t h before now W P (JournalRefused refusal) says untouched closed = absurd says
from_plan t h before now W P SourceFault says untouched closed = tt
from_plan t h before now W P NoMemory says untouched closed = tt
from_plan t h before now W P DeviceFault says untouched closed = (says, inl untouched)
from_plan t h before now W P NotBuilt says untouched closed = (says, λ rules. closed)
from_plan t h before now W P (PlanRefused (MeetsGuard byte number)) says untouched closed = (says, closed)
from_plan t h before now W P status says untouched closed = (says, closed)

pub no_plan : (text : Option (List ℕ)) (told : Option Held) (before now : State) (W P : List ℕ → Type 0) (rules : List Rule) (status : Status) → IfSome text (λ t. Reads t rules)
    → IsUntouched before now → IfSome told (λ h. ¬ (IsOpen h.journal)) → IfSome told (λ h. RefusesPlan status h.image rules)
    → IfTextAndHeld text told (λ t h. RedactSays status t h before now W P)
no_plan None told before now W P rules status reads untouched closed refused = tt
no_plan (Some t) None before now W P rules status reads untouched closed refused = tt
no_plan (Some t) (Some h) before now W P rules status reads untouched closed refused = from_plan t h before now W P status (refused t reads) untouched closed

-- ---- the session

planned : (t : List ℕ) (h : Held) (rules : List Rule) (tree : TreeValue) (plan : Plan) → plan ≡ plan_of tree rules → IsPlan plan → Reads t rules → ¬ (IsOpen h.journal)
    → HasTree h.image (Ok tree) → guarded_byte tree rules ≡ None → IsPlanned t h rules tree
planned t h rules tree plan is is_plan reads closed tree_is unguarded = record {
  forms = record { reads = reads; no_other = tree_is.0; tree_is = tree_is.1 };
  closed = closed;
  unguarded = unguarded;
  few_ranges = subst (λ (plan : Plan). length plan.ranges ≤ MAX_RANGES) is is_plan.few_ranges;
}

-- the session of the plan
session_calls : (plan : Plan) (session : SessionValue) → session ≡ new_session plan Begun None → changes_of (calls_of session.plan session.start) ≡ changes_of (script plan)
session_calls plan session is = ap (λ (session : SessionValue). changes_of (calls_of session.plan session.start)) is

stopped : (t : List ℕ) (h : Held) (before synced now : State) (rules : List Rule) (tree : TreeValue) (plan : Plan) (session : SessionValue) → plan ≡ plan_of tree rules
    → session ≡ new_session plan Begun None → synced ≡ state_after Sync before → IsStopped (changes_of (calls_of session.plan session.start)) synced now
    → IsPlanned t h rules tree → WasStopped t h before now
stopped t h before synced now rules tree plan session plan_is session_is is left planned =
    let calls = session_calls plan session session_is ∙ ap (λ plan. changes_of (script plan)) plan_is in (
      rules,
      tree,
      planned,
      subst (λ state. IsStopped (changes_of (script (plan_of tree rules))) state now) is (subst (λ changes. IsStopped changes synced now) calls left),
    )

redacted : (t : List ℕ) (h : Held) (before synced now : State) (W : List ℕ → Type 0) (rules : List Rule) (tree : TreeValue) (plan : Plan) (session : SessionValue) → held before ≡ Some h
    → plan ≡ plan_of tree rules → IsPlan plan → session ≡ new_session plan Begun None → synced ≡ state_after Sync before
    → now ≡ state_after_all (changes_of (calls_of session.plan session.start)) synced → IsPlanned t h rules tree → length h.image ≡ plan.image_len
    → W (report plan state.Done) → HasRedacted t h before now W
redacted t h before synced now W rules tree plan session told_is plan_is is_plan session_is is done planned sized wrote =
    let made : now ≡ state_after_all (changes_of (script plan)) (state_after Sync before) =
    done ∙ ap (λ changes. state_after_all changes synced) (session_calls plan session session_is) ∙ ap (state_after_all (changes_of (script plan))) is in (
      rules,
      tree,
      planned,
      subst (λ plan. IsRedacted h plan before now) plan_is (script_carried plan before now h is_plan sized told_is made),
      subst (λ plan. W (report plan state.Done)) plan_is wrote,
    )

-- where a session of the plan was made
pub carried : (text : Option (List ℕ)) (told : Option Held) (before synced now : State) (W P : List ℕ → Type 0) (rules : List Rule) (plan : Plan) (session : SessionValue) (status : Status)
    → held before ≡ told → IsPlan plan → session ≡ new_session plan Begun None → synced ≡ state_after Sync before
    → CarriesOut status (changes_of (calls_of session.plan session.start)) synced now (W (report plan state.Done)) (P (report plan state.Done))
    → IfSome text (λ t. Reads t rules) → IfSome told (λ h. ¬ (IsOpen h.journal)) → IfSome told (λ h. HasPlan h.image rules plan)
    → IfSome told (λ h. length h.image ≡ plan.image_len) → IfTextAndHeld text told (λ t h. RedactSays status t h before now W P)
carried None told before synced now W P rules plan session status told_is is_plan session_is is says reads closed has sized = tt
carried (Some t) None before synced now W P rules plan session status told_is is_plan session_is is says reads closed has sized = tt
carried (Some t) (Some h) before synced now W P rules plan session Done told_is is_plan session_is is says reads closed (tree, tree_is, unguarded, plan_is) sized =
    redacted t h before synced now W rules tree plan session told_is plan_is is_plan session_is is says.0
    (planned t h rules tree plan plan_is is_plan reads closed tree_is unguarded) sized says.1
carried (Some t) (Some h) before synced now W P rules plan session SinkFault told_is is_plan session_is is says reads closed (tree, tree_is, unguarded, plan_is) sized =
    redacted t h before synced now P rules tree plan session told_is plan_is is_plan session_is is says.0
    (planned t h rules tree plan plan_is is_plan reads closed tree_is unguarded) sized says.1
carried (Some t) (Some h) before synced now W P rules plan session DeviceFault told_is is_plan session_is is says reads closed (tree, tree_is, unguarded, plan_is) sized =
    ((rules, reads), inr (stopped t h before synced now rules tree plan session plan_is session_is is says (planned t h rules tree plan plan_is is_plan reads closed tree_is unguarded)))
carried (Some t) (Some h) before synced now W P rules plan session status told_is is_plan session_is is says reads closed has sized = absurd says

-- the sizes with which the session of a plan begins
pub begun_sizes : (plan : Plan) (session : SessionValue) (state : State) → session ≡ new_session plan Begun None → size_of Image state ≡ plan.image_len → HasSizes session state
begun_sizes plan session state is sized = subst (λ (session : SessionValue). HasSizes session state) (sym is) (record { image = sized; journal = tt })
