-- What a store holds has one answer of each command of the journal, and a status that says so is that answer, or a fault or want of
-- memory.
use Rattle.std.proofs.Common.{◌≡◌, refl, ap, ℕ, Bool, Some, None, List, sym, ◌∙◌, ◌⊎◌, inl, inr, ⊎_elim, Option, IfSome}
use Rattle.disk_defs.specs.Story.{Held}
use Rattle.disk_defs.specs.Disk.{State}
use Rattle.journal_defs.specs.Checks.{bad_at}
use Rattle.journal_defs.proofs.JournalLaws.{journal_read, one_journal_law}
use Rattle.rx_ranges.specs.declared.plan.Plan.{Plan}
use Rattle.cmd_defs.specs.declared.status.JournalRefusal.TheVariants.{NotOpen, Bad, OtherLength}
use Rattle.cmd_defs.specs.declared.status.PlanRefusal.TheVariants.{MeetsGuard}
use Rattle.cmd_defs.specs.declared.status.Status.{Status}
use Rattle.cmd_defs.specs.declared.status.Status.TheVariants.{Done, NotRecognised, Damaged, Unsupported, PlanRefused, JournalOpen, JournalRefused, DeviceFault, SourceFault, SinkFault, Limit, NoMemory, NotBuilt}
use Rattle.cmd_defs.specs.Outcome.{IfTextAndHeld}
use Rattle.cmd_defs.specs.JournalFacts.{HoldsPlan}
use Rattle.cmd_defs.specs.PlanCommand.{PlanAnswers}
use Rattle.cmd_defs.specs.RedactCommand.{RedactSays, RedactAnswers}
use Rattle.cmd_defs.specs.ReportCommand.{ReportSays, ReportAnswers}
use Rattle.cmd_defs.specs.ResumeCommand.{IsResumed, HasOtherLength, ResumeSays, ResumeAnswers}
use Rattle.cmd_defs.specs.AnswerLaws.{RedactHasOneAnswer, ResumeHasOneAnswer, ReportHasOneAnswer}
use Rattle.cmd_defs.proofs.PlanAnswerLaw.{one_answer}

-- ---- journals

-- a journal that holds a plan passes each check
passes : (journal : List ℕ) (plan : Plan) (groups : List Bool) (last : Bool) → HoldsPlan journal plan groups last → bad_at journal ≡ None
passes journal plan groups last holds =
    (journal_read journal plan holds.is_journal.mark_bytes holds.is_journal.last_byte holds.is_plan holds.is_journal.each_group holds.is_journal.form).passes

good_or_bad : (journal : List ℕ) (plan : Plan) (groups : List Bool) (last : Bool) (at : ℕ) → HoldsPlan journal plan groups last → bad_at journal ≡ Some at → ⊥
good_or_bad journal plan groups last at holds bad =
    let both : None ≡ Some at = sym (passes journal plan groups last holds) ∙ bad in
    cc

one_place : (journal : List ℕ) (at other : ℕ) → bad_at journal ≡ Some at → bad_at journal ≡ Some other → JournalRefused (Bad at) ≡ JournalRefused (Bad other)
one_place journal at other first second =
    let both : Some at ≡ Some other = sym first ∙ second in
    let same : at ≡ other = cc in
    ap (λ place. JournalRefused (Bad place)) same

-- ---- report

pub report_answer : ReportHasOneAnswer
report_answer journal Done Done x y = refl
report_answer journal Done (JournalRefused NotOpen) x y = absurd (y x.3.is_open)
report_answer journal Done (JournalRefused (Bad at)) x y = absurd (good_or_bad journal x.0 x.1 x.2 at x.3 y.1)
report_answer journal (JournalRefused NotOpen) Done x y = absurd (x y.3.is_open)
report_answer journal (JournalRefused NotOpen) (JournalRefused NotOpen) x y = refl
report_answer journal (JournalRefused NotOpen) (JournalRefused (Bad at)) x y = absurd (x y.0)
report_answer journal (JournalRefused (Bad at)) Done x y = absurd (good_or_bad journal y.0 y.1 y.2 at y.3 x.1)
report_answer journal (JournalRefused (Bad at)) (JournalRefused NotOpen) x y = absurd (y x.0)
report_answer journal (JournalRefused (Bad at)) (JournalRefused (Bad other)) x y = one_place journal at other x.1 y.1
report_answer journal Done b x y = absurd y
report_answer journal (JournalRefused NotOpen) b x y = absurd y
report_answer journal (JournalRefused (Bad at)) b x y = absurd y
report_answer journal a b x y = absurd x

-- where nothing failed, a status that says so is the one answer, or memory ran out
pub is_report_answer : (journal : List ℕ) (status : Status) (store out : Type 0) (W P : List ℕ → Type 0) → ReportSays status journal W P
    → (status ≡ DeviceFault → store) → (status ≡ SinkFault → out) → (answer : Status) → ReportAnswers answer journal → ¬ store → ¬ out → (status ≡ answer) ⊎ (status ≡ NoMemory)
is_report_answer journal Done store out W P says device sink answer asked a b = inl (report_answer journal Done answer (says.0, says.1, says.2, says.3) asked)
is_report_answer journal (JournalRefused NotOpen) store out W P says device sink answer asked a b = inl (report_answer journal (JournalRefused NotOpen) answer says asked)
is_report_answer journal DeviceFault store out W P says device sink answer asked a b = absurd (a (device refl))
is_report_answer journal SinkFault store out W P says device sink answer asked a b = absurd (b (sink refl))
is_report_answer journal NoMemory store out W P says device sink answer asked a b = inr refl
is_report_answer journal status store out W P says device sink answer asked a b = inl (report_answer journal status answer says asked)

-- ---- resume

-- two plans that a journal holds are of images of one length
one_length : (journal : List ℕ) (plan other : Plan) (groups others : List Bool) (last last' : Bool) → HoldsPlan journal plan groups last
    → HoldsPlan journal other others last' → plan.image_len ≡ other.image_len
one_length journal plan other groups others last last' a b =
    ap (λ (plan : Plan). plan.image_len) (one_journal_law journal plan other groups others last last' a.is_plan b.is_plan a.is_journal b.is_journal).0

fits_or_not : (held : Held) (kept found : ℕ) (plan : Plan) (groups : List Bool) (last : Bool) → IsResumed held plan groups last → HasOtherLength kept found held → ⊥
fits_or_not held kept found plan groups last resumed other =
    other.6 (sym other.4 ∙ sym (one_length held.journal plan other.0 groups other.1 last other.2 resumed.holds other.3) ∙ resumed.fits ∙ other.5)

one_other : (held : Held) (kept found kept' found' : ℕ) → HasOtherLength kept found held → HasOtherLength kept' found' held
    → JournalRefused (OtherLength kept found) ≡ JournalRefused (OtherLength kept' found')
one_other held kept found kept' found' a b =
    let same : kept ≡ kept' = sym a.4 ∙ one_length held.journal a.0 b.0 a.1 b.1 a.2 b.2 a.3 b.3 ∙ b.4 in
    let lengths : found ≡ found' = sym a.5 ∙ b.5 in
    ap (λ kept. JournalRefused (OtherLength kept found)) same ∙ ap (λ found. JournalRefused (OtherLength kept' found)) lengths

pub resume_answer : ResumeHasOneAnswer
resume_answer held Done Done x y = refl
resume_answer held Done (JournalRefused NotOpen) x y = absurd (y x.3.holds.is_open)
resume_answer held Done (JournalRefused (Bad at)) x y = absurd (good_or_bad held.journal x.0 x.1 x.2 at x.3.holds y.1)
resume_answer held Done (JournalRefused (OtherLength kept found)) x y = absurd (fits_or_not held kept found x.0 x.1 x.2 x.3 y)
resume_answer held (JournalRefused NotOpen) Done x y = absurd (x y.3.holds.is_open)
resume_answer held (JournalRefused NotOpen) (JournalRefused NotOpen) x y = refl
resume_answer held (JournalRefused NotOpen) (JournalRefused (Bad at)) x y = absurd (x y.0)
resume_answer held (JournalRefused NotOpen) (JournalRefused (OtherLength kept found)) x y = absurd (x y.3.is_open)
resume_answer held (JournalRefused (Bad at)) Done x y = absurd (good_or_bad held.journal y.0 y.1 y.2 at y.3.holds x.1)
resume_answer held (JournalRefused (Bad at)) (JournalRefused NotOpen) x y = absurd (y x.0)
resume_answer held (JournalRefused (Bad at)) (JournalRefused (Bad other)) x y = one_place held.journal at other x.1 y.1
resume_answer held (JournalRefused (Bad at)) (JournalRefused (OtherLength kept found)) x y = absurd (good_or_bad held.journal y.0 y.1 y.2 at y.3 x.1)
resume_answer held (JournalRefused (OtherLength kept found)) Done x y = absurd (fits_or_not held kept found y.0 y.1 y.2 y.3 x)
resume_answer held (JournalRefused (OtherLength kept found)) (JournalRefused NotOpen) x y = absurd (y x.3.is_open)
resume_answer held (JournalRefused (OtherLength kept found)) (JournalRefused (Bad at)) x y = absurd (good_or_bad held.journal x.0 x.1 x.2 at x.3 y.1)
resume_answer held (JournalRefused (OtherLength kept found)) (JournalRefused (OtherLength kept' found')) x y = one_other held kept found kept' found' x y
resume_answer held Done b x y = absurd y
resume_answer held (JournalRefused refusal) b x y = absurd y
resume_answer held a b x y = absurd x

pub is_resume_answer : (held : Held) (before now : State) (status : Status) (store out : Type 0) (W P : List ℕ → Type 0) → ResumeSays status held before now W P
    → (status ≡ DeviceFault → store) → (status ≡ SinkFault → out) → (answer : Status) → ResumeAnswers answer held → ¬ store → ¬ out → (status ≡ answer) ⊎ (status ≡ NoMemory)
is_resume_answer held before now Done store out W P says device sink answer asked a b = inl (resume_answer held Done answer (says.0, says.1, says.2, says.3) asked)
is_resume_answer held before now (JournalRefused NotOpen) store out W P says device sink answer asked a b = inl (resume_answer held (JournalRefused NotOpen) answer says asked)
is_resume_answer held before now DeviceFault store out W P says device sink answer asked a b = absurd (a (device refl))
is_resume_answer held before now SinkFault store out W P says device sink answer asked a b = absurd (b (sink refl))
is_resume_answer held before now NoMemory store out W P says device sink answer asked a b = inr refl
is_resume_answer held before now status store out W P says device sink answer asked a b = inl (resume_answer held status answer says asked)

-- ---- redact

-- an answer is that the journal is open, or it is shut and the answer is that of `plan`
behind_journal : (text : List ℕ) (held : Held) (status : Status) → RedactAnswers status text held
    → ((status ≡ JournalOpen) × RedactAnswers JournalOpen text held) ⊎ (¬ (RedactAnswers JournalOpen text held) × PlanAnswers status text held.image)
behind_journal text held JournalOpen x = inl (refl, x)
behind_journal text held Done x = inr (λ stands. x.2.closed stands.1, (tt, (x.0, x.1, x.2.forms, x.2.unguarded, x.2.few_ranges, tt)))
behind_journal text held NotBuilt x = inr (λ stands. x.1 stands.0 stands.1, (tt, x.0))
behind_journal text held NotRecognised x = inr (λ stands. x.1 stands.1, (tt, x.0))
behind_journal text held (Damaged sort place) x = inr (λ stands. x.1 stands.1, (tt, x.0))
behind_journal text held (Unsupported what place) x = inr (λ stands. x.1 stands.1, (tt, x.0))
behind_journal text held (PlanRefused (MeetsGuard byte number)) x = inr (λ stands. x.1 stands.1, (tt, x.0))
behind_journal text held (Limit bound number) x = inr (λ stands. x.1 stands.1, (tt, x.0))
behind_journal text held status x = absurd x

pub redact_answer : RedactHasOneAnswer
redact_answer text held a b x y =
    ⊎_elim
    (λ stands. ⊎_elim (λ other. stands.0 ∙ sym other.0) (λ shut. absurd (shut.0 stands.1)) (behind_journal text held b y))
    (λ shut. ⊎_elim (λ stands. absurd (shut.0 stands.1)) (λ other. one_answer text held.image a b shut.1 other.1) (behind_journal text held b y))
    (behind_journal text held a x)

pub is_redact_answer : (text : List ℕ) (held : Held) (before now : State) (status : Status) (store rules out : Type 0) (W P : List ℕ → Type 0)
    → RedactSays status text held before now W P → (status ≡ DeviceFault → store) → (status ≡ SourceFault → rules) → (status ≡ SinkFault → out)
    → (answer : Status) → RedactAnswers answer text held → ¬ store → ¬ rules → ¬ out → (status ≡ answer) ⊎ (status ≡ NoMemory)
is_redact_answer text held before now Done store rules out W P says device source sink answer asked a b c = inl (redact_answer text held Done answer (says.0, says.1, says.2) asked)
is_redact_answer text held before now (PlanRefused (MeetsGuard byte number)) store rules out W P says device source sink answer asked a b c =
    inl (redact_answer text held (PlanRefused (MeetsGuard byte number)) answer says asked)
is_redact_answer text held before now DeviceFault store rules out W P says device source sink answer asked a b c = absurd (a (device refl))
is_redact_answer text held before now SourceFault store rules out W P says device source sink answer asked a b c = absurd (b (source refl))
is_redact_answer text held before now SinkFault store rules out W P says device source sink answer asked a b c = absurd (c (sink refl))
is_redact_answer text held before now NoMemory store rules out W P says device source sink answer asked a b c = inr refl
is_redact_answer text held before now status store rules out W P says device source sink answer asked a b c = inl (redact_answer text held status answer says asked)

-- ---- the same of what may be told

pub redact_completes : (text : Option (List ℕ)) (told : Option Held) (before now : State) (status : Status) (store rules out : Type 0) (W P : List ℕ → Type 0)
    → IfTextAndHeld text told (λ t h. RedactSays status t h before now W P) → (status ≡ DeviceFault → store) → (status ≡ SourceFault → rules) → (status ≡ SinkFault → out)
    → (answer : Status) → IfTextAndHeld text told (λ t h. RedactAnswers answer t h → ¬ store → ¬ rules → ¬ out → (status ≡ answer) ⊎ (status ≡ NoMemory))
redact_completes None told before now status store rules out W P says device source sink answer = tt
redact_completes (Some t) None before now status store rules out W P says device source sink answer = tt
redact_completes (Some t) (Some h) before now status store rules out W P says device source sink answer = is_redact_answer t h before now status store rules out W P says device source sink answer

pub resume_completes : (told : Option Held) (before now : State) (status : Status) (store out : Type 0) (W P : List ℕ → Type 0)
    → IfSome told (λ h. ResumeSays status h before now W P) → (status ≡ DeviceFault → store) → (status ≡ SinkFault → out)
    → (answer : Status) → IfSome told (λ h. ResumeAnswers answer h → ¬ store → ¬ out → (status ≡ answer) ⊎ (status ≡ NoMemory))
resume_completes None before now status store out W P says device sink answer = tt
resume_completes (Some h) before now status store out W P says device sink answer = is_resume_answer h before now status store out W P says device sink answer

pub report_completes : (told : Option (List ℕ)) (status : Status) (store out : Type 0) (W P : List ℕ → Type 0)
    → IfSome told (λ journal. ReportSays status journal W P) → (status ≡ DeviceFault → store) → (status ≡ SinkFault → out)
    → (answer : Status) → IfSome told (λ journal. ReportAnswers answer journal → ¬ store → ¬ out → (status ≡ answer) ⊎ (status ≡ NoMemory))
report_completes None status store out W P says device sink answer = tt
report_completes (Some journal) status store out W P says device sink answer = is_report_answer journal status store out W P says device sink answer
