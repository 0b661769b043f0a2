-- What is known of $MFT behind some of its segments stays behind more of them.
use Rattle.std.specs.Prelude.{◌≡◌, ℕ, zero, suc, ◌+◌, ◌-◌, ◌*◌, ◌/◌, ◌%◌, ◌^◌, ◌<◌, ◌≤◌, min, max, ◌||◌, ◌==◌, Bool, true, false, nat_lt, if◌then◌else◌, Option, Some, None, Result, Ok, Err, List, [], ◌∷◌, ◌++◌, refl}
use Rattle.std.proofs.Common.{arith, ap, sym, ◌∙◌, subst, append_assoc}
use Rattle.std.proofs.Math.Nat.{div-lt_iff_lt-mul}
use Rattle.std.proofs.lemmas.Bool.{ltb-false}
use Rattle.std.proofs.lemmas.List.{append-nil}
use Rattle.std.proofs.lemmas.List.Sums.{sum_by-cons}
use Rattle.image_defs.specs.Ask.{result_of}
use Rattle.image_defs.specs.Results.{with_value}
use Rattle.image_defs.proofs.Looks.{bind_gives, given_gives}
use Rattle.ntfs_defs.specs.declared.runs.Run.{Run}
use Rattle.ntfs_defs.specs.declared.fault.RunFault.{RunFault}
use Rattle.ntfs_defs.specs.DecodedRuns.{decoded_runs}
use Rattle.ntfs_defs.specs.Clusters.{cluster_in_run, cluster_in}
use Rattle.ntfs_record_defs.specs.Attributes.{Stream as StreamHeader, Form, Resident, NonResident}
use Rattle.ntfs_record_defs.specs.Record.{FileRecord}
use Rattle.ntfs_volume_defs.specs.declared.boot.Boot.{Boot}
use Rattle.fault_defs.specs.declared.Sort.TheVariants.{RunCount, SegmentGap, Sizes}
use Rattle.fault_defs.specs.declared.Refusal.{Refusal}
use Rattle.fault_defs.specs.declared.Refusal.TheVariants.{Damaged}
use Rattle.ntfs_volume_defs.specs.Streams.{Stream, cluster_place, run_place, read_size, stream_place, mapped}
use Rattle.ntfs_volume_defs.specs.Slots.{Mft, slots, slot_place, first_slot_place, mapped_slot_place}
use Rattle.ntfs_guard_defs.proofs.SlotLaws.{SamePlaces}
use Rattle.ntfs_volume_defs.specs.Segments.{Held, clusters_in, counted_runs, segment_runs, and_then_runs, segments_runs, sized_stream, stream_by, stream_of, attribute_place}
use Rattle.ntfs_volume_defs.specs.Lists.{Entry}
use Rattle.ntfs_volume_defs.specs.Mft.{first_slot_alone, no_map, is_no_map, with_segment, and_then_segments, with_segments, next_segment, segments_behind}

-- ---- places in front runs

cluster_in-front : (front more : List Run) (v : ℕ) → v < clusters_in front → cluster_in (front ++ more) v ≡ cluster_in front v
cluster_in-front [] more v below = absurd (omega arith)
cluster_in-front (run ∷ front) more v below =
    here_or_behind (nat_lt v run.len)
    (λ behind. cluster_in-front front more (v - run.len) (omega (arith, below, sum_by-cons (λ (run : Run). run.len) run front, ltb-false v run.len behind)))
  where
    here_or_behind : (here : Bool) → (here ≡ false → cluster_in (front ++ more) (v - run.len) ≡ cluster_in front (v - run.len))
        → (if here then Some (cluster_in_run run.cluster v) else cluster_in (front ++ more) (v - run.len)) ≡ (if here then Some (cluster_in_run run.cluster v) else cluster_in front (v - run.len))
    here_or_behind true behind = refl
    here_or_behind false behind = behind refl

run_place-front : (boot : Boot) (front more : List Run) (i : ℕ) → i < mapped boot front → run_place boot (front ++ more) i ≡ run_place boot front i
unfolding run_place
run_place-front boot front more i below =
    ap (cluster_place boot (i % boot.cluster)) (cluster_in-front front more (i / boot.cluster) (in_front boot.cluster below))
  where
    in_front : (size : ℕ) → i < clusters_in front * size → i / size < clusters_in front
    in_front zero below = absurd (omega (arith, below))
    in_front (suc size) below = (div-lt_iff_lt-mul (omega arith)).1 below

stream_place-front : (boot : Boot) (known whole : Stream) (more : List Run) (i : ℕ) → known.real ≡ whole.real → known.initialised ≡ whole.initialised → whole.runs ≡ known.runs ++ more
    → i < mapped boot known.runs → stream_place boot known i ≡ stream_place boot whole i
unfolding stream_place
stream_place-front boot known whole more i real initialised runs below =
    let sizes : read_size known ≡ read_size whole = ap (λ n. min n known.real) initialised ∙ ap (min whole.initialised) real in
    let place : run_place boot known.runs i ≡ run_place boot whole.runs i = sym (run_place-front boot known.runs more i below) ∙ ap (λ runs. run_place boot runs i) (sym runs) in
    ap (λ size. if nat_lt i size then run_place boot known.runs i else None) sizes ∙ ap (λ place. if nat_lt i (read_size whole) then place else None) place

-- ---- more segments

pub record Extends (known whole : Mft) : Type 0 where
  pub boot : known.boot ≡ whole.boot
  pub real : known.content.real ≡ whole.content.real
  pub initialised : known.content.initialised ≡ whole.content.initialised
  pub more : List Run
  pub runs : whole.content.runs ≡ known.content.runs ++ more

extends_itself : (mft : Mft) → Extends mft mft
extends_itself mft = record { boot = refl; real = refl; initialised = refl; more = []; runs = sym (append-nil mft.content.runs) }

extends_on : (a b c : Mft) → Extends a b → Extends b c → Extends a c
extends_on a b c first second = record {
  boot = first.boot ∙ second.boot;
  real = first.real ∙ second.real;
  initialised = first.initialised ∙ second.initialised;
  more = first.more ++ second.more;
  runs = second.runs ∙ ap (λ runs. runs ++ second.more) first.runs ∙ append_assoc a.content.runs first.more second.more;
}

-- slots that are mapped keep their places
pub mapped_same : (known whole : Mft) (number : ℕ) → Extends known whole → (number + 1) * known.boot.record_size ≤ mapped known.boot known.content.runs → SamePlaces known whole number
unfolding slot_place
mapped_same known whole number extends fits = record {
  boot = extends.boot;
  places = λ i below. first_or_mapped (number == 0) i (omega (arith, below, ap (λ boot. boot.record_size) extends.boot));
}
  where
    inside : (i : ℕ) → i < known.boot.record_size → number * known.boot.record_size + i < mapped known.boot known.content.runs
    inside i below = omega (arith, below, fits)

    first_or_mapped : (first : Bool) (i : ℕ) → i < known.boot.record_size
        → (if first then first_slot_place known.boot else mapped_slot_place known number) i ≡ (if first then first_slot_place whole.boot else mapped_slot_place whole number) i
    first_or_mapped true i below = ap (λ boot. first_slot_place boot i) extends.boot
    first_or_mapped false i below =
        stream_place-front known.boot known.content whole.content extends.more (number * known.boot.record_size + i) extends.real extends.initialised extends.runs (inside i below)
        ∙ ap (λ boot. stream_place boot whole.content (number * boot.record_size + i)) extends.boot

pub same_slots : (known whole : Mft) → Extends known whole → slots known ≡ slots whole
same_slots known whole extends = ap (λ real. max 1 (real / known.boot.record_size)) extends.real ∙ ap (λ boot. max 1 (whole.content.real / boot.record_size)) extends.boot

-- slot 0 stands where the boot sector says
pub alone_same : (mft : Mft) → SamePlaces (first_slot_alone mft.boot) mft 0
unfolding slot_place
alone_same mft = record { boot = refl; places = λ i below. refl }

-- ---- what segments leave

abbrev pub HasBoot : Boot → Option Mft → Type 0
HasBoot boot None = Unit {0}
HasBoot boot (Some mft) = mft.boot ≡ boot

with_value_gives : {E X Y : Type 0} (change : X → Y) (result : Result X E) (y : Y) → with_value change result ≡ Ok y → (x : X) × (result ≡ Ok x) × (change x ≡ y)
with_value_gives change (Ok x) y gives = (x, refl, cc)
with_value_gives change (Err e) y gives = absurd cc

else_gives : {X : Type 0} (test : Bool) (refusal : Refusal) (result : Result X Refusal) (x : X) → (if test then Err refusal else result) ≡ Ok x → result ≡ Ok x
else_gives true refusal result x gives = absurd cc
else_gives false refusal result x gives = gives

pub segment_extends : (boot : Boot) (mft next : Mft) (held : Held) → with_segment boot (Some mft) held ≡ Ok next → Extends mft next
segment_extends boot mft next held gives =
    let found = with_value_gives (λ runs. record mft { content = record mft.content { runs = mft.content.runs ++ runs } }) (segment_runs mft (clusters_in mft.content.runs) held held.opened.attribute.form) next
    (else_gives (is_no_map held) (no_map boot) _ next gives) in
    let P : Mft → Type 0 = Extends mft in
    subst P (found.2) (record { boot = refl; real = refl; initialised = refl; more = found.0; runs = refl })

pub segment_boot : (boot : Boot) (known : Option Mft) (next : Mft) (held : Held) → HasBoot boot known → with_segment boot known held ≡ Ok next → next.boot ≡ boot
segment_boot boot None next held has gives =
    let found = with_value_gives (λ stream. record { boot = boot; content = stream }) (stream_of (first_slot_alone boot) held []) next (else_gives (is_no_map held) (no_map boot) _ next gives) in
    sym (ap (λ mft. mft.boot) found.2)
segment_boot boot (Some mft) next held has gives = sym (segment_extends boot mft next held gives).boot ∙ has

pub segments_boot : (boot : Boot) (known : Option Mft) (segments : List Held) (next : Option Mft) → HasBoot boot known → with_segments boot known segments ≡ Ok next → HasBoot boot next
segments_boot boot known [] next has gives =
    let same : known ≡ next = cc in
    let P : Option Mft → Type 0 = HasBoot boot in
    subst P same has
segments_boot boot known (held ∷ more) next has gives =
    behind (with_segment boot known held) (λ mft is. segment_boot boot known mft held has is) gives (λ mft is later. segments_boot boot (Some mft) more next is later)
  where
    behind : (result : Result Mft Refusal) → ((mft : Mft) → result ≡ Ok mft → mft.boot ≡ boot) → and_then_segments result (λ mft. with_segments boot (Some mft) more) ≡ Ok next
        → ((mft : Mft) → mft.boot ≡ boot → with_segments boot (Some mft) more ≡ Ok next → HasBoot boot next) → HasBoot boot next
    behind (Ok mft) is gives later = later mft (is mft refl) gives
    behind (Err refusal) is gives later = absurd cc

-- one more entry
pub entry_gives : (image : List ℕ) (boot : Boot) (base : FileRecord) (known : Option Mft) (entry : Entry) (entries : List Entry) (next : Option Mft)
    → result_of image (segments_behind boot base known (entry ∷ entries)) ≡ Ok next
    → (held : Held) × (mft : Mft) × (result_of image (next_segment boot base known entry) ≡ Ok held) × (with_segment boot known held ≡ Ok mft) × (result_of image (segments_behind boot base (Some mft) entries) ≡ Ok next)
unfolding segments_behind
entry_gives image boot base known entry entries next gives =
    let held = bind_gives image (next_segment boot base known entry) _ next gives in
    let mft = given_gives image (with_segment boot known held.0) (λ mft. segments_behind boot base (Some mft) entries) next held.2 in
    (held.0, mft.0, held.1, mft.1, mft.2)

pub behind_boot : (image : List ℕ) (boot : Boot) (base : FileRecord) (known : Option Mft) (entries : List Entry) (next : Option Mft) → HasBoot boot known
    → result_of image (segments_behind boot base known entries) ≡ Ok next → HasBoot boot next
unfolding segments_behind
behind_boot image boot base known [] next has gives =
    let same : known ≡ next = cc in
    let P : Option Mft → Type 0 = HasBoot boot in
    subst P same has
behind_boot image boot base known (entry ∷ entries) next has gives =
    let found = entry_gives image boot base known entry entries next gives in
    behind_boot image boot base (Some found.1) entries next (segment_boot boot known found.1 found.0 has found.3) found.4

pub behind_extends : (image : List ℕ) (boot : Boot) (base : FileRecord) (known whole : Mft) (entries : List Entry) → result_of image (segments_behind boot base (Some known) entries) ≡ Ok (Some whole) → Extends known whole
unfolding segments_behind
behind_extends image boot base known whole [] gives =
    let same : known ≡ whole = cc in
    let P : Mft → Type 0 = Extends known in
    subst P same (extends_itself known)
behind_extends image boot base known whole (entry ∷ entries) gives =
    let found = entry_gives image boot base (Some known) entry entries (Some whole) gives in
    extends_on known found.1 whole (segment_extends boot known found.1 found.0 found.3) (behind_extends image boot base found.1 whole entries found.4)

-- ---- a stream is the same, whatever is known of $MFT

then_gives : {X : Type 0} (test : Bool) (refusal : Refusal) (result : Result X Refusal) (x : X) → (if test then result else Err refusal) ≡ Ok x → (test ≡ true) × (result ≡ Ok x)
then_gives true refusal result x gives = (refl, gives)
then_gives false refusal result x gives = absurd cc

counted_same : (a b : Mft) (held : Held) (header : StreamHeader) (decoded : Result (List Run) RunFault) (runs : List Run) → counted_runs a held header decoded ≡ Ok runs → counted_runs b held header decoded ≡ Ok runs
counted_same a b held header (Err damage) runs gives = absurd cc
counted_same a b held header (Ok found) runs gives =
    let counted = then_gives ((header.first + clusters_in found) % 2 ^ 64 == (header.last + 1) % 2 ^ 64) (Damaged RunCount (attribute_place a held)) (Ok found) runs gives in
    ap (λ (test : Bool). if test then Ok found else Err (Damaged RunCount (attribute_place b held))) counted.0 ∙ counted.1

segment_same : (a b : Mft) (before : ℕ) (held : Held) (form : Form) (runs : List Run) → a.boot ≡ b.boot → segment_runs a before held form ≡ Ok runs → segment_runs b before held form ≡ Ok runs
segment_same a b before held (Resident content) runs boot gives = absurd cc
segment_same a b before held (NonResident header) runs boot gives =
    let begins = then_gives (header.first == before) (Damaged SegmentGap (attribute_place a held)) _ runs gives in
    let decoded = counted_same a b held header (decoded_runs a.boot.clusters held.opened.body) runs begins.1 in
    ap (λ (test : Bool). if test then counted_runs b held header (decoded_runs b.boot.clusters held.opened.body) else Err (Damaged SegmentGap (attribute_place b held))) begins.0
    ∙ ap (λ boot. counted_runs b held header (decoded_runs boot.clusters held.opened.body)) (sym boot)
    ∙ decoded

segments_same : (a b : Mft) (front : List Run) (segments : List Held) (runs : List Run) → a.boot ≡ b.boot → segments_runs a front segments ≡ Ok runs → segments_runs b front segments ≡ Ok runs
segments_same a b front [] runs boot gives = gives
segments_same a b front (held ∷ more) runs boot gives =
    behind (segment_runs a (clusters_in front) held held.opened.attribute.form) (λ found is. segment_same a b (clusters_in front) held held.opened.attribute.form found boot is) gives
    (λ found later. segments_same a b (front ++ found) more runs boot later)
  where
    behind : (result : Result (List Run) Refusal) → ((found : List Run) → result ≡ Ok found → segment_runs b (clusters_in front) held held.opened.attribute.form ≡ Ok found)
        → and_then_runs result (λ found. segments_runs a (front ++ found) more) ≡ Ok runs → ((found : List Run) → segments_runs a (front ++ found) more ≡ Ok runs → segments_runs b (front ++ found) more ≡ Ok runs)
        → and_then_runs (segment_runs b (clusters_in front) held held.opened.attribute.form) (λ found. segments_runs b (front ++ found) more) ≡ Ok runs
    behind (Ok found) is gives later = ap (λ result. and_then_runs result (λ found. segments_runs b (front ++ found) more)) (is found refl) ∙ later found gives
    behind (Err refusal) is gives later = absurd cc

sized_same : (a b : Mft) (first : Held) (header : StreamHeader) (runs : Result (List Run) Refusal) (stream : Stream) → sized_stream a first header runs ≡ Ok stream
    → (found : List Run) × (runs ≡ Ok found) × (sized_stream b first header (Ok found) ≡ Ok stream)
sized_same a b first header (Err refusal) stream gives = absurd cc
sized_same a b first header (Ok found) stream gives =
    (found, refl, by_test (nat_lt (2 ^ 62) header.real || nat_lt (2 ^ 62) header.initialised) gives)
  where
    by_test : (test : Bool) → (if test then Err (Damaged Sizes (attribute_place a first)) else Ok (record { runs = found; real = header.real; initialised = header.initialised })) ≡ Ok stream
        → (if test then Err (Damaged Sizes (attribute_place b first)) else Ok (record { runs = found; real = header.real; initialised = header.initialised })) ≡ Ok stream
    by_test true gives = absurd cc
    by_test false gives = gives

pub stream_same : (a b : Mft) (first : Held) (more : List Held) (stream : Stream) → a.boot ≡ b.boot → stream_of a first more ≡ Ok stream → stream_of b first more ≡ Ok stream
stream_same a b first more stream boot gives = by_form first.opened.attribute.form gives
  where
    by_form : (form : Form) → stream_by a first more form ≡ Ok stream → stream_by b first more form ≡ Ok stream
    by_form (Resident content) gives = absurd cc
    by_form (NonResident header) gives =
        let found = sized_same a b first header (segments_runs a [] (first ∷ more)) stream gives in
        ap (sized_stream b first header) (segments_same a b [] (first ∷ more) found.0 boot found.1) ∙ found.2
