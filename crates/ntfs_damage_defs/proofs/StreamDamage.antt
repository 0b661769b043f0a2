-- A stream that is refused has a segment, or sizes, that break a rule; one that is given has none.
use Rattle.std.specs.Prelude.{◌≡◌, ℕ, ◌+◌, ◌%◌, ◌^◌, ◌==◌, ◌||◌, Bool, true, false, nat_lt, if◌then◌else◌, Result, Ok, Err, List, [], ◌∷◌, ◌++◌, refl}
use Rattle.std.proofs.Common.{ap, sym, ◌∙◌, subst, ⊎_elim, inl, inr, append_assoc}
use Rattle.std.proofs.lemmas.Bool.{eqb-true, eqb-false, ltb-true, or_cases, or_left, or_right, lt-ltb, false≢true}
use Rattle.fault_defs.specs.declared.Sort.{Sort}
use Rattle.fault_defs.specs.declared.Sort.TheVariants.{RunList, RunCount, SegmentGap, Sizes}
use Rattle.fault_defs.specs.declared.Refusal.{Refusal}
use Rattle.fault_defs.specs.declared.Refusal.TheVariants.{Damaged}
use Rattle.ntfs_defs.specs.declared.runs.Run.{Run}
use Rattle.ntfs_defs.specs.declared.fault.RunFault.{RunFault}
use Rattle.ntfs_defs.specs.DecodedRuns.{decoded_runs}
use Rattle.ntfs_record_defs.specs.Attributes.{Stream as StreamHeader, Form, Resident, NonResident}
use Rattle.ntfs_volume_defs.specs.Streams.{Stream}
use Rattle.ntfs_volume_defs.specs.Slots.{Mft}
use Rattle.ntfs_volume_defs.specs.Segments.{Held, clusters_in, damaged_at, place_in, attribute_place, counted_runs, segment_runs, and_then_runs, segments_runs, sized_stream, stream_by, stream_of}
use Rattle.ntfs_damage_defs.specs.Told.{IsToldBy}
use Rattle.ntfs_damage_defs.proofs.Told.{told_weaker, same_refusal}
use Rattle.ntfs_damage_defs.specs.Wrong.{IsWrongSegment, WrongRuns, WrongCount, Gap, Twice, IsWrongStream, WrongSegment, TooLarge}

-- ---- one segment

module _ (mft : Mft) (before : ℕ) (held : Held) (header : StreamHeader) (is : held.opened.attribute.form ≡ NonResident header) where
  counted_refuses : (decoded : Result (List Run) RunFault) (refusal : Refusal) → decoded_runs mft.boot.clusters held.opened.body ≡ decoded → counted_runs mft held header decoded ≡ Err refusal
      → IsToldBy (IsWrongSegment mft before held) refusal
  counted_refuses (Err damage) refusal decodes refuses =
      subst (IsToldBy (IsWrongSegment mft before held)) (same_refusal {X = List Run} (Damaged RunList (place_in mft held (header.runs.at + damaged_at damage))) refusal refuses) (WrongRuns header damage is decodes)
  counted_refuses (Ok runs) refusal decodes refuses = by_test ((header.first + clusters_in runs) % 2 ^ 64 == (header.last + 1) % 2 ^ 64) refl refuses
    where
      by_test : (test : Bool) → ((header.first + clusters_in runs) % 2 ^ 64 == (header.last + 1) % 2 ^ 64) ≡ test
          → if◌then◌else◌ {A = Result (List Run) Refusal} test (Ok runs) (Err (Damaged RunCount (attribute_place mft held))) ≡ Err refusal → IsToldBy (IsWrongSegment mft before held) refusal
      by_test true tests refuses = absurd cc
      by_test false tests refuses =
          subst (IsToldBy (IsWrongSegment mft before held)) (same_refusal {X = List Run} (Damaged RunCount (attribute_place mft held)) refusal refuses)
          (WrongCount header runs is decodes (eqb-false ((header.first + clusters_in runs) % 2 ^ 64) ((header.last + 1) % 2 ^ 64) tests))

  begun_refuses : (begins : Bool) (refusal : Refusal) → (header.first == before) ≡ begins
      → (if begins then counted_runs mft held header (decoded_runs mft.boot.clusters held.opened.body) else Err (Damaged SegmentGap (attribute_place mft held))) ≡ Err refusal
      → IsToldBy (IsWrongSegment mft before held) refusal
  begun_refuses true refusal begins refuses = counted_refuses (decoded_runs mft.boot.clusters held.opened.body) refusal refl refuses
  begun_refuses false refusal begins refuses =
      subst (IsToldBy (IsWrongSegment mft before held)) (same_refusal {X = List Run} (Damaged SegmentGap (attribute_place mft held)) refusal refuses) (Gap header is (eqb-false header.first before begins))

pub segment_refuses : (mft : Mft) (before : ℕ) (held : Held) (form : Form) (refusal : Refusal) → held.opened.attribute.form ≡ form → segment_runs mft before held form ≡ Err refusal
    → IsToldBy (IsWrongSegment mft before held) refusal
segment_refuses mft before held (Resident content) refusal is refuses =
    subst (IsToldBy (IsWrongSegment mft before held)) (same_refusal {X = List Run} (Damaged SegmentGap (attribute_place mft held)) refusal refuses) (Twice content is)
segment_refuses mft before held (NonResident header) refusal is refuses = begun_refuses mft before held header is (header.first == before) refusal refl refuses

-- ---- segments in order

pub segments_append : (mft : Mft) (runs : List Run) (front rest : List Held) → segments_runs mft runs (front ++ rest) ≡ and_then_runs (segments_runs mft runs front) (λ more. segments_runs mft more rest)
segments_append mft runs [] rest = refl
segments_append mft runs (held ∷ front) rest = by_result (segment_runs mft (clusters_in runs) held held.opened.attribute.form) (λ found. segments_append mft (runs ++ found) front rest)
  where
    by_result : (result : Result (List Run) Refusal) → ((found : List Run) → segments_runs mft (runs ++ found) (front ++ rest) ≡ and_then_runs (segments_runs mft (runs ++ found) front) (λ more. segments_runs mft more rest))
        → and_then_runs result (λ found. segments_runs mft (runs ++ found) (front ++ rest))
        ≡ and_then_runs (and_then_runs result (λ found. segments_runs mft (runs ++ found) front)) (λ more. segments_runs mft more rest)
    by_result (Ok found) later = later found
    by_result (Err refusal) later = refl

-- a segment that breaks a rule behind sound ones
record IsWrongIn (mft : Mft) (segments : List Held) (sort : Sort) (place : ℕ) : Type 0 where
  front : List Held
  held : Held
  back : List Held
  runs : List Run
  split : segments ≡ front ++ held ∷ back
  before : segments_runs mft [] front ≡ Ok runs
  wrong : IsWrongSegment mft (clusters_in runs) held sort place

segments_refuse : (mft : Mft) (segments front : List Held) (runs : List Run) (rest : List Held) (refusal : Refusal) → segments ≡ front ++ rest → segments_runs mft [] front ≡ Ok runs
    → segments_runs mft runs rest ≡ Err refusal → IsToldBy (IsWrongIn mft segments) refusal
segments_refuse mft segments front runs [] refusal split before refuses = absurd cc
segments_refuse mft segments front runs (held ∷ rest) refusal split before refuses =
    by_result (segment_runs mft (clusters_in runs) held held.opened.attribute.form) refl refuses
    (λ found is refuses. segments_refuse mft segments (front ++ held ∷ []) (runs ++ found) rest refusal (split ∙ sym (append_assoc front (held ∷ []) rest))
    (segments_append mft [] front (held ∷ []) ∙ ap (λ result. and_then_runs result (λ more. segments_runs mft more (held ∷ []))) before ∙ ap (λ result. and_then_runs result (λ more. Ok (runs ++ more))) is) refuses)
  where
    by_result : (result : Result (List Run) Refusal) → segment_runs mft (clusters_in runs) held held.opened.attribute.form ≡ result → and_then_runs result (λ found. segments_runs mft (runs ++ found) rest) ≡ Err refusal
        → ((found : List Run) → segment_runs mft (clusters_in runs) held held.opened.attribute.form ≡ Ok found → segments_runs mft (runs ++ found) rest ≡ Err refusal → IsToldBy (IsWrongIn mft segments) refusal)
        → IsToldBy (IsWrongIn mft segments) refusal
    by_result (Ok found) is refuses later = later found is refuses
    by_result (Err other) is refuses later =
        let same : other ≡ refusal = same_refusal {X = List Run} other refusal refuses in
        told_weaker (IsWrongSegment mft (clusters_in runs) held) (IsWrongIn mft segments) refusal (λ sort place wrong. record { front = front; held = held; back = rest; runs = runs; split = split; before = before; wrong = wrong })
        (segment_refuses mft (clusters_in runs) held held.opened.attribute.form refusal refl (is ∙ ap Err same))

-- ---- a stream

module _ (mft : Mft) (first : Held) (more : List Held) (header : StreamHeader) (is : first.opened.attribute.form ≡ NonResident header) where
  sized_refuses : (result : Result (List Run) Refusal) (refusal : Refusal) → segments_runs mft [] (first ∷ more) ≡ result → sized_stream mft first header result ≡ Err refusal
      → IsToldBy (IsWrongStream mft first more) refusal
  sized_refuses (Err other) refusal given refuses =
      let same : other ≡ refusal = same_refusal {X = Stream} other refusal refuses in
      told_weaker (IsWrongIn mft (first ∷ more)) (IsWrongStream mft first more) refusal
      (λ sort place wrong. WrongSegment wrong.front wrong.held wrong.back wrong.runs sort place wrong.split wrong.before wrong.wrong)
      (segments_refuse mft (first ∷ more) [] [] (first ∷ more) refusal refl refl (given ∙ ap Err same))
  sized_refuses (Ok runs) refusal given refuses = by_test (nat_lt (2 ^ 62) header.real || nat_lt (2 ^ 62) header.initialised) refl refuses
    where
      by_test : (test : Bool) → (nat_lt (2 ^ 62) header.real || nat_lt (2 ^ 62) header.initialised) ≡ test
          → if◌then◌else◌ {A = Result Stream Refusal} test (Err (Damaged Sizes (attribute_place mft first))) (Ok (record { runs = runs; real = header.real; initialised = header.initialised })) ≡ Err refusal
          → IsToldBy (IsWrongStream mft first more) refusal
      by_test false tests refuses = absurd cc
      by_test true tests refuses =
          subst (IsToldBy (IsWrongStream mft first more)) (same_refusal {X = Stream} (Damaged Sizes (attribute_place mft first)) refusal refuses)
          (TooLarge header is
          (⊎_elim (λ real. inl (ltb-true (2 ^ 62) header.real real)) (λ initialised. inr (ltb-true (2 ^ 62) header.initialised initialised)) (or_cases (nat_lt (2 ^ 62) header.real) (nat_lt (2 ^ 62) header.initialised) tests)))

pub stream_refuses : (mft : Mft) (first : Held) (more : List Held) (header : StreamHeader) (refusal : Refusal) → first.opened.attribute.form ≡ NonResident header → stream_of mft first more ≡ Err refusal
    → IsToldBy (IsWrongStream mft first more) refusal
stream_refuses mft first more header refusal is refuses =
    sized_refuses mft first more header is (segments_runs mft [] (first ∷ more)) refusal refl (ap (stream_by mft first more) (sym is) ∙ refuses)

-- ---- what is given breaks no rule

then_gives : {X : Type 0} (test : Bool) (refusal : Refusal) (result : Result X Refusal) (x : X) → (if test then result else Err refusal) ≡ Ok x → (test ≡ true) × (result ≡ Ok x)
then_gives true refusal result x gives = (refl, gives)
then_gives false refusal result x gives = absurd cc

-- a segment that is given: its header, its begin and its runs
record IsGiven (mft : Mft) (before : ℕ) (held : Held) : Type 0 where
  header : StreamHeader
  form_is : held.opened.attribute.form ≡ NonResident header
  begins : header.first ≡ before
  runs : List Run
  decodes : decoded_runs mft.boot.clusters held.opened.body ≡ Ok runs
  counted : (header.first + clusters_in runs) % 2 ^ 64 ≡ (header.last + 1) % 2 ^ 64

segment_given : (mft : Mft) (before : ℕ) (held : Held) (form : Form) (found : List Run) → held.opened.attribute.form ≡ form → segment_runs mft before held form ≡ Ok found → IsGiven mft before held
segment_given mft before held (Resident content) found is gives = absurd cc
segment_given mft before held (NonResident header) found is gives =
    let begun = then_gives (header.first == before) (Damaged SegmentGap (attribute_place mft held)) _ found gives in
    by_runs (decoded_runs mft.boot.clusters held.opened.body) refl begun.0 begun.1
  where
    by_runs : (decoded : Result (List Run) RunFault) → decoded_runs mft.boot.clusters held.opened.body ≡ decoded → (header.first == before) ≡ true → counted_runs mft held header decoded ≡ Ok found
        → IsGiven mft before held
    by_runs (Err damage) decodes begins gives = absurd cc
    by_runs (Ok runs) decodes begins gives =
        let counted = then_gives ((header.first + clusters_in runs) % 2 ^ 64 == (header.last + 1) % 2 ^ 64) (Damaged RunCount (attribute_place mft held)) (Ok runs) found gives in
        record {
          header = header;
          form_is = is;
          begins = eqb-true header.first before begins;
          runs = runs;
          decodes = decodes;
          counted = eqb-true _ _ counted.0;
        }

given_is_sound : (mft : Mft) (before : ℕ) (held : Held) (sort : Sort) (place : ℕ) → IsGiven mft before held → IsWrongSegment mft before held sort place → ⊥
given_is_sound mft before held sort place given (WrongRuns header damage is decodes) = cc (given.decodes, decodes)
given_is_sound mft before held sort place given (WrongCount header runs is decodes differs) =
    let same_header : given.header ≡ header = cc (given.form_is, is) in
    let same_runs : given.runs ≡ runs = cc (given.decodes, decodes) in
    differs (sym (ap (λ (header : StreamHeader). (header.first + clusters_in runs) % 2 ^ 64) same_header) ∙ sym (ap (λ runs. (given.header.first + clusters_in runs) % 2 ^ 64) same_runs) ∙ given.counted ∙ ap (λ (header : StreamHeader). (header.last + 1) % 2 ^ 64) same_header)
given_is_sound mft before held sort place given (Gap header is differs) =
    let same_header : given.header ≡ header = cc (given.form_is, is) in
    differs (sym (ap (λ (header : StreamHeader). header.first) same_header) ∙ given.begins)
given_is_sound mft before held sort place given (Twice content is) = cc (given.form_is, is)

pub segment_is_sound : (mft : Mft) (before : ℕ) (held : Held) (found : List Run) (sort : Sort) (place : ℕ) → segment_runs mft before held held.opened.attribute.form ≡ Ok found
    → IsWrongSegment mft before held sort place → ⊥
segment_is_sound mft before held found sort place gives wrong = given_is_sound mft before held sort place (segment_given mft before held held.opened.attribute.form found refl gives) wrong

then_runs : (result : Result (List Run) Refusal) (next : List Run → Result (List Run) Refusal) (all : List Run) → and_then_runs result next ≡ Ok all → (found : List Run) × (result ≡ Ok found)
then_runs (Ok found) next all gives = (found, refl)
then_runs (Err refusal) next all gives = absurd cc

sized_gives : (mft : Mft) (first : Held) (header : StreamHeader) (result : Result (List Run) Refusal) (stream : Stream) → sized_stream mft first header result ≡ Ok stream
    → (runs : List Run) × (result ≡ Ok runs) × ((nat_lt (2 ^ 62) header.real || nat_lt (2 ^ 62) header.initialised) ≡ false)
sized_gives mft first header (Err refusal) stream gives = absurd cc
sized_gives mft first header (Ok runs) stream gives = (runs, refl, by_test (nat_lt (2 ^ 62) header.real || nat_lt (2 ^ 62) header.initialised) gives)
  where
    by_test : (test : Bool)
        → if◌then◌else◌ {A = Result Stream Refusal} test (Err (Damaged Sizes (attribute_place mft first))) (Ok (record { runs = runs; real = header.real; initialised = header.initialised })) ≡ Ok stream → test ≡ false
    by_test true gives = absurd cc
    by_test false gives = refl

pub stream_is_sound : (mft : Mft) (first : Held) (more : List Held) (stream : Stream) (sort : Sort) (place : ℕ) → stream_of mft first more ≡ Ok stream → IsWrongStream mft first more sort place → ⊥
stream_is_sound mft first more stream sort place gives wrong = by_form first.opened.attribute.form refl gives wrong
  where
    by_rule : (header : StreamHeader) (runs : List Run) → first.opened.attribute.form ≡ NonResident header → segments_runs mft [] (first ∷ more) ≡ Ok runs
        → (nat_lt (2 ^ 62) header.real || nat_lt (2 ^ 62) header.initialised) ≡ false → (s : Sort) (p : ℕ) → IsWrongStream mft first more s p → ⊥
    by_rule header runs form given sizes s p (WrongSegment front held back before sort place split before_is wrong) =
        let rest : and_then_runs (segments_runs mft [] front) (λ more. segments_runs mft more (held ∷ back)) ≡ Ok runs = sym (segments_append mft [] front (held ∷ back)) ∙ sym (ap (segments_runs mft []) split) ∙ given in
        let behind : segments_runs mft before (held ∷ back) ≡ Ok runs = sym (ap (λ result. and_then_runs result (λ more. segments_runs mft more (held ∷ back))) before_is) ∙ rest in
        let one = then_runs (segment_runs mft (clusters_in before) held held.opened.attribute.form) (λ found. segments_runs mft (before ++ found) back) runs behind in
        segment_is_sound mft (clusters_in before) held one.0 sort place one.1 wrong
    by_rule header runs form given sizes s p (TooLarge other is large) =
        let same : header ≡ other = cc (form, is) in
        let fits : (nat_lt (2 ^ 62) other.real || nat_lt (2 ^ 62) other.initialised) ≡ false = sym (ap (λ (header : StreamHeader). nat_lt (2 ^ 62) header.real || nat_lt (2 ^ 62) header.initialised) same) ∙ sizes in
        ⊎_elim
        (λ real. false≢true (sym fits ∙ or_left (nat_lt (2 ^ 62) other.real) (nat_lt (2 ^ 62) other.initialised) (lt-ltb (2 ^ 62) other.real real)))
        (λ initialised. false≢true (sym fits ∙ or_right (nat_lt (2 ^ 62) other.real) (nat_lt (2 ^ 62) other.initialised) (lt-ltb (2 ^ 62) other.initialised initialised)))
        large

    by_form : (form : Form) → first.opened.attribute.form ≡ form → stream_by mft first more form ≡ Ok stream → IsWrongStream mft first more sort place → ⊥
    by_form (Resident content) is gives wrong = absurd cc
    by_form (NonResident header) is gives wrong =
        let found = sized_gives mft first header (segments_runs mft [] (first ∷ more)) stream gives in
        by_rule header found.0 is found.1 found.2 sort place wrong
