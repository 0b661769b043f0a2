-- Laws behind PlanAnswerLaw: a text and an image have one answer of `plan`, and a status that says so is that answer, or a fault or want of memory.
use Rattle.std.proofs.Common.{◌≡◌, ◌≤◌, ◌<◌, refl, ap, ℕ, Bool, true, false, nat_lt, length, arith, Option, Some, None, Result, Ok, Err, List, sym, ◌∙◌, ◌⊎◌, inl, inr, ⊎_elim, cond}
use Rattle.std.proofs.lemmas.Bool.Decides.{nat_tests}
use Rattle.fault_defs.specs.declared.Bound.{Bound}
use Rattle.fault_defs.specs.declared.Bound.TheVariants.{Ranges}
use Rattle.fault_defs.specs.declared.Refusal.{Refusal}
use Rattle.fault_defs.specs.declared.Refusal.TheVariants as refusals
use Rattle.rx_ranges.specs.declared.plan.TheConstants.{MAX_RANGES}
use Rattle.rule_defs.specs.declared.Rule.{Rule}
use Rattle.rule_defs.specs.Reads.{Reads}
use Rattle.rule_defs.proofs.ReadsLaws.{one_list_of_rules}
use Rattle.rx_tree.specs.TreeValue.{TreeValue}
use Rattle.tree_defs.specs.Kind.{other_kind}
use Rattle.tree_defs.specs.ImageTree.{image_tree}
use Rattle.plan_defs.specs.Plan.{plan_of, guarded_byte, planning_rule}
use Rattle.cmd_defs.specs.declared.status.Status.{Status}
use Rattle.cmd_defs.specs.declared.status.Status.TheVariants.{Done, NotRecognised, Damaged, Unsupported, PlanRefused, DeviceFault, SourceFault, SinkFault, Limit, NoMemory, NotBuilt}
use Rattle.cmd_defs.specs.declared.status.PlanRefusal.TheVariants.{MeetsGuard}
use Rattle.cmd_defs.specs.Outcome.{IfBothTold}
use Rattle.cmd_defs.specs.PlanCommand.{MeetsForms, HasNoForm, RefusesImage, HasReport, FillsGuard, PassesRanges, PlanSays, PlanAnswers}
use Rattle.cmd_defs.specs.PlanAnswerLaw.{PlanHasOneAnswer}

-- ---- the answer to rules and what an image says

-- to a refusal of the image
abbrev answer_to_refusal : Refusal → Status
answer_to_refusal refusals.NotThis = NotRecognised
answer_to_refusal (refusals.Damaged sort place) = Damaged sort place
answer_to_refusal (refusals.Unsupported what place) = Unsupported what place
answer_to_refusal (refusals.Limit bound number) = Limit bound number

-- to the least planned byte of the guard and its rule, and to whether the plan has too many ranges
abbrev answer_to_plan : Option ℕ → Option ℕ → Bool → Status
answer_to_plan (Some byte) (Some number) many = PlanRefused (MeetsGuard byte number)
answer_to_plan (Some byte) None many = NotBuilt
answer_to_plan None rule many = cond many (Limit Ranges MAX_RANGES) Done

-- the rule of a byte, where there is one
abbrev rule_at : List Rule → TreeValue → Option ℕ → Option ℕ
rule_at rules tree None = None
rule_at rules tree (Some byte) = planning_rule rules tree byte

abbrev answer_to_tree : List Rule → TreeValue → Status
answer_to_tree rules tree =
    answer_to_plan (guarded_byte tree rules) (rule_at rules tree (guarded_byte tree rules)) (nat_lt MAX_RANGES (length (plan_of tree rules).ranges))

abbrev answer_to : List Rule → Result TreeValue Refusal → Status
answer_to rules (Ok tree) = answer_to_tree rules tree
answer_to rules (Err refusal) = answer_to_refusal refusal

-- ---- each status that is answered is this one

by_plan : (guarded rule : Option ℕ) (many : Bool) (byte number : ℕ) → guarded ≡ Some byte → rule ≡ Some number → PlanRefused (MeetsGuard byte number) ≡ answer_to_plan guarded rule many
by_plan guarded rule many byte number is by = sym (ap (λ g. answer_to_plan g rule many) is ∙ ap (λ r. answer_to_plan (Some byte) r many) by)

by_ranges : (guarded rule : Option ℕ) (many found : Bool) → guarded ≡ None → many ≡ found → cond found (Limit Ranges MAX_RANGES) Done ≡ answer_to_plan guarded rule many
by_ranges guarded rule many found none is = sym (ap (λ g. answer_to_plan g rule many) none ∙ ap (answer_to_plan None rule) is)

few_ranges : (count : ℕ) → count ≤ MAX_RANGES → nat_lt MAX_RANGES count ≡ false
few_ranges count few = grind (arith, nat_tests)

many_ranges : (most count : ℕ) → most ≡ MAX_RANGES → most < count → nat_lt MAX_RANGES count ≡ true
many_ranges most count is many = grind (arith, nat_tests)

-- the text says some rules and the image is of no other kind, and this is the answer
abbrev IsAnswerTo : List ℕ → List ℕ → Status → Type 0
IsAnswerTo text image status = (rules : List Rule) × Reads text rules × (other_kind image ≡ None) × (status ≡ answer_to rules (image_tree image))

module _ (text image : List ℕ) where
  of_tree : (rules : List Rule) (tree : TreeValue) (status : Status) → MeetsForms text image rules tree → status ≡ answer_to_tree rules tree → IsAnswerTo text image status
  of_tree rules tree status forms is = (rules, forms.reads, forms.no_other, is ∙ sym (ap (answer_to rules) forms.tree_is))

  of_refusal : (refusal : Refusal) → RefusesImage refusal text image → IsAnswerTo text image (answer_to_refusal refusal)
  of_refusal refusal refused = (refused.says.0, refused.says.1, refused.no_other, sym (ap (answer_to refused.says.0) refused.refused))

  of_guarded : (byte number : ℕ) → FillsGuard byte number text image → IsAnswerTo text image (PlanRefused (MeetsGuard byte number))
  of_guarded byte number filled =
      let rules = filled.0 in
      let tree = filled.1 in
      of_tree rules tree (PlanRefused (MeetsGuard byte number)) filled.2
      (by_plan (guarded_byte tree rules) (rule_at rules tree (guarded_byte tree rules)) (nat_lt MAX_RANGES (length (plan_of tree rules).ranges)) byte number filled.3
      (ap (rule_at rules tree) filled.3 ∙ filled.4))

  of_ranges : (bound : Bound) (number : ℕ) → PassesRanges bound number text image → IsAnswerTo text image (Limit bound number)
  of_ranges bound number passed =
      let rules = passed.0 in
      let tree = passed.1 in
      let count = length (plan_of tree rules).ranges in
      of_tree rules tree (Limit bound number) passed.2
      (ap (λ b. Limit b number) passed.3 ∙ ap (Limit Ranges) passed.4
      ∙ by_ranges (guarded_byte tree rules) (rule_at rules tree (guarded_byte tree rules)) (nat_lt MAX_RANGES count) true passed.5.0 (many_ranges number count passed.4 passed.5.1))

  of_report : HasReport text image (λ written. Unit {0}) → IsAnswerTo text image Done
  of_report plan =
      let rules = plan.0 in
      let tree = plan.1 in
      let count = length (plan_of tree rules).ranges in
      of_tree rules tree Done plan.2
      (by_ranges (guarded_byte tree rules) (rule_at rules tree (guarded_byte tree rules)) (nat_lt MAX_RANGES count) false plan.3 (few_ranges count plan.4))

  -- an answer is that the text or the image has no form, or the one to the rules and the image
  answered : (status : Status) → PlanAnswers status text image → ((status ≡ NotBuilt) × HasNoForm text image) ⊎ IsAnswerTo text image status
  answered Done x = inr (of_report x.1)
  answered NotRecognised x = inr (of_refusal refusals.NotThis x.1)
  answered (Damaged sort place) x = inr (of_refusal (refusals.Damaged sort place) x.1)
  answered (Unsupported what place) x = inr (of_refusal (refusals.Unsupported what place) x.1)
  answered (PlanRefused (MeetsGuard byte number)) x = inr (of_guarded byte number x.1)
  answered (Limit bound number) x = inr (⊎_elim (λ refused. of_refusal (refusals.Limit bound number) refused) (λ passed. of_ranges bound number passed) x.1)
  answered NotBuilt x = inl (refl, x.1)
  answered DeviceFault x = absurd x.0
  answered SourceFault x = absurd x.0
  answered SinkFault x = absurd x.0
  answered NoMemory x = absurd x.0
  answered status x = absurd x.1

  not_both : (status : Status) → HasNoForm text image → IsAnswerTo text image status → ⊥
  not_both status none found = ⊎_elim (λ other. other found.0 found.1) (λ other. other found.2) none

  same_answer : (a b : Status) → IsAnswerTo text image a → IsAnswerTo text image b → a ≡ b
  same_answer a b x y = x.3 ∙ ap (λ rules. answer_to rules (image_tree image)) (one_list_of_rules text x.0 y.0 x.1 y.1) ∙ sym y.3

pub one_answer : PlanHasOneAnswer
one_answer text image a b x y =
    ⊎_elim
    (λ none. ⊎_elim (λ other. none.0 ∙ sym other.0) (λ found. absurd (not_both text image b none.1 found)) (answered text image b y))
    (λ found. ⊎_elim (λ none. absurd (not_both text image a none.1 found)) (λ other. same_answer text image a b found other) (answered text image b y))
    (answered text image a x)

-- ---- a status that says so

-- where nothing failed, a status that says so is the one answer, or memory ran out
pub is_the_answer : (text image : Option (List ℕ)) (status : Status) (store rules out : Type 0) (W P : List ℕ → Type 0)
    → IfBothTold text image (λ t i. PlanSays status t i W P) → (status ≡ DeviceFault → store) → (status ≡ SourceFault → rules) → (status ≡ SinkFault → out)
    → (answer : Status) → IfBothTold text image (λ t i. PlanAnswers answer t i → ¬ store → ¬ rules → ¬ out → (status ≡ answer) ⊎ (status ≡ NoMemory))
is_the_answer None image status store rules out W P says device source sink answer = tt
is_the_answer (Some text) None status store rules out W P says device source sink answer = tt
is_the_answer (Some text) (Some image) Done store rules out W P says device source sink answer =
    λ asked a b c. inl (one_answer text image Done answer (tt, (says.0, says.1, says.2, says.3, says.4, tt)) asked)
is_the_answer (Some text) (Some image) DeviceFault store rules out W P says device source sink answer = λ asked a b c. absurd (a (device refl))
is_the_answer (Some text) (Some image) SourceFault store rules out W P says device source sink answer = λ asked a b c. absurd (b (source refl))
is_the_answer (Some text) (Some image) SinkFault store rules out W P says device source sink answer = λ asked a b c. absurd (c (sink refl))
is_the_answer (Some text) (Some image) NoMemory store rules out W P says device source sink answer = λ asked a b c. inr refl
is_the_answer (Some text) (Some image) (PlanRefused (MeetsGuard byte number)) store rules out W P says device source sink answer =
    λ asked a b c. inl (one_answer text image (PlanRefused (MeetsGuard byte number)) answer (tt, says) asked)
is_the_answer (Some text) (Some image) status store rules out W P says device source sink answer = λ asked a b c. inl (one_answer text image status answer (tt, says) asked)
