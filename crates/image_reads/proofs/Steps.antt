-- The ways of a reader through a program: it begins, a step gives a value or a refusal, a test passes, and it ends.
use Rattle.std.specs.Prelude.{◌≡◌, ℕ, suc, Bool, refl, ◌+◌, ◌<◌, ◌≤◌, Option, Some, None, OnOk, Result, Ok, Err, IsErr, IsErrAnd, List, ◌++◌, length, drop, get_or}
use Rattle.std.proofs.Common.{ap, sym, ◌∙◌, subst, arith, append_assoc, append-nil, drop-cons, drop_of_length-le}
use Rattle.range_defs.specs.declared.Range.{Range}
use Rattle.range_defs.specs.Places.{covers}
use Rattle.image_defs.specs.Ask.{Ask, Done, Stop, result_of, visits, check, ◌>>=◌}
use Rattle.image_defs.specs.Through.{through}
use Rattle.image_defs.proofs.Results.{result_bind_ok, result_bind_err, visits_bind_ok}
use Rattle.fault_defs.specs.declared.Refusal.{Refusal}
use Rattle.fault_defs.specs.declared.Refusal.TheVariants as refusal
use Rattle.rx_store.specs.declared.read_fault.ReadFault.{ReadFault}
use Rattle.rx_store.specs.declared.read_fault.ReadFault.TheVariants.{Device, NoMemory, NotThis, Damaged, Unsupported, Limit}
use Rattle.rx_store.specs.Answers.{Answers}
use Rattle.rx_store.specs.ReadFaults.{fault_of}
use Rattle.image_reads.specs.Steps.{ReadsAs, SameBytes, IsNoRefusal}
use Rattle.image_reads.proofs.Coming.{StandsIn, IsCome}
use Rattle.image_reads.proofs.Bytes.{same_front}

-- a fault says of a program what it says of another that stops with the same refusals
pub fault_says : {X Y : Type 0} (fault : ReadFault) (one : Result X Refusal) (other : Result Y Refusal) → ((e : Refusal) → one ≡ Err e → other ≡ Err e)
    → (let from : Result X ReadFault = Err fault in Answers from one) → (let to : Result Y ReadFault = Err fault in Answers to other)
fault_says Device one other onward says = tt
fault_says NoMemory one other onward says = tt
fault_says NotThis one other onward says = onward refusal.NotThis says
fault_says (Damaged sort place) one other onward says = onward (refusal.Damaged sort place) says
fault_says (Unsupported what place) one other onward says = onward (refusal.Unsupported what place) says
fault_says (Limit bound number) one other onward says = onward (refusal.Limit bound number) says

pub begins : {X : Type 0} (told : Option (List ℕ)) (whole : Ask Refusal X) (before : List Range) → IsCome told whole before whole before
begins None whole before = tt
begins (Some image) whole before = record { gives = refl; looks = λ byte. refl }

-- through a test, whose value is known
pub comes_past : {Y : Type 0} (told : Option (List ℕ)) (whole : Ask Refusal Y) (before : List Range) (test : Bool) (fault : Refusal) (next : Unit {0} → Ask Refusal Y) (now : List Range) (value : Bool)
    → test ≡ value → IsCome told whole before (check test fault >>= next) now → IsCome told whole before (check value fault >>= next) now
comes_past told whole before test fault next now value is come = subst (λ t. IsCome told whole before (check t fault >>= next) now) is come

-- what is left is the same program
pub comes_to : {X : Type 0} (told : Option (List ℕ)) (whole : Ask Refusal X) (before : List Range) (left other : Ask Refusal X) (looked : List Range) → left ≡ other → IsCome told whole before left looked → IsCome told whole before other looked
comes_to told whole before left other looked same come = subst (λ ask. IsCome told whole before ask looked) same come

module _ {Y : Type 0} (told : Option (List ℕ)) (whole : Ask Refusal Y) (before : List Range) where
  module _ {X : Type 0} (later : Option (List ℕ)) (step : Ask Refusal X) (next : X → Ask Refusal Y) (now : List Range) (same : later ≡ told) (come : IsCome told whole before (step >>= next) now) where
    -- a step gave a value: what follows it is left
    pub comes_value : (x : X) (looked : List Range) → ReadsAs later step now looked (Ok x) → IsCome told whole before (next x) looked
    comes_value x looked read = by_told told come (let P : Option (List ℕ) → Type 0 = λ found. ReadsAs found step now looked (Ok x) in subst P same read)
      where
        by_told : (found : Option (List ℕ)) → IsCome found whole before (step >>= next) now → ReadsAs found step now looked (Ok x) → IsCome found whole before (next x) looked
        by_told None stands read = tt
        by_told (Some image) stands read = record {
          gives = stands.gives ∙ result_bind_ok image step next x read.given;
          looks = λ byte.
              stands.looks byte
              ∙ ap (λ ranges. covers (now ++ ranges) byte) (visits_bind_ok image step next x read.given)
              ∙ ap (λ ranges. covers ranges byte) (sym (append_assoc now (visits image step) (visits image (next x))))
              ∙ same_front (now ++ visits image step) looked (visits image (next x)) (λ one. sym (read.looks one)) byte;
        }

    -- a step stopped: the whole stops with the same
    pub comes_fault : (fault : ReadFault) (looked last : List Range) → ReadsAs later step now looked (Err fault) → ReadsAs told whole before last (Err fault)
    comes_fault fault looked last read = by_told told come (let P : Option (List ℕ) → Type 0 = λ found. ReadsAs found step now looked (Err fault) in subst P same read)
      where
        by_told : (found : Option (List ℕ)) → IsCome found whole before (step >>= next) now → ReadsAs found step now looked (Err fault) → ReadsAs found whole before last (Err fault)
        by_told None stands read = tt
        by_told (Some image) stands read = record {
          given = fault_says fault (result_of image step) (result_of image whole) (λ e stops. stands.gives ∙ result_bind_err image step next e stops) read.given;
          looks = tt;
        }

  -- what is left was read
  pub comes_rest : (later : Option (List ℕ)) (left : Ask Refusal Y) (now looked : List Range) (result : Result Y ReadFault) → later ≡ told → IsCome told whole before left now → ReadsAs later left now looked result → ReadsAs told whole before looked result
  comes_rest later left now looked result same come read = by_told told come (let P : Option (List ℕ) → Type 0 = λ found. ReadsAs found left now looked result in subst P same read)
    where
      behind : (image : List ℕ) (result : Result Y ReadFault) → StandsIn image whole before left now → OnOk result (SameBytes looked (now ++ visits image left)) → OnOk result (SameBytes looked (before ++ visits image whole))
      behind image (Ok y) stands looks = λ byte. looks byte ∙ sym (stands.looks byte)
      behind image (Err fault) stands looks = tt

      by_told : (found : Option (List ℕ)) → IsCome found whole before left now → ReadsAs found left now looked result → ReadsAs found whole before looked result
      by_told None stands read = tt
      by_told (Some image) stands read = record {
        given = let P : Result Y Refusal → Type 0 = λ gives. Answers result gives in subst P (sym stands.gives) read.given;
        looks = behind image result stands read.looks;
      }

  -- nothing is left
  pub comes_done : (y : Y) (looked : List Range) → IsCome told whole before (Done y) looked → ReadsAs told whole before looked (Ok y)
  comes_done y looked come = by_told told come
    where
      by_told : (found : Option (List ℕ)) → IsCome found whole before (Done y) looked → ReadsAs found whole before looked (Ok y)
      by_told None stands = tt
      by_told (Some image) stands = record {
        given = stands.gives;
        looks = λ byte. ap (λ ranges. covers ranges byte) (sym (append-nil looked)) ∙ sym (stands.looks byte);
      }

  -- the program stops
  pub comes_stop : (e : Refusal) (now looked : List Range) → IsCome told whole before (Stop e) now → ReadsAs told whole before looked (Err (fault_of e))
  comes_stop e now looked come = by_told told come
    where
      by_fault : (image : List ℕ) (e : Refusal) → result_of image whole ≡ Err e → (let fault : Result Y ReadFault = Err (fault_of e) in Answers fault (result_of image whole))
      by_fault image refusal.NotThis gives = gives
      by_fault image (refusal.Damaged sort place) gives = gives
      by_fault image (refusal.Unsupported what place) gives = gives
      by_fault image (refusal.Limit bound number) gives = gives

      by_told : (found : Option (List ℕ)) → IsCome found whole before (Stop e) now → ReadsAs found whole before looked (Err (fault_of e))
      by_told None stands = tt
      by_told (Some image) stands = record { given = by_fault image e stands.gives; looks = tt }

  -- the call ends with a fault, handed on by `?`
  pub ends_with : (looked : List Range) (result : Result Y ReadFault) (fault : ReadFault) → IsErr result → IsErrAnd result (λ other. other ≡ fault) → ReadsAs told whole before looked (Err fault) → ReadsAs told whole before looked result
  ends_with looked (Ok y) fault is passed read = absurd cc
  ends_with looked (Err other) fault is passed read = let P : ReadFault → Type 0 = λ f. ReadsAs told whole before looked (Err f) in subst P (sym passed) read

  -- a device that failed, and want of memory, say nothing
  pub device_says : (looked : List Range) → ReadsAs told whole before looked (Err Device)
  device_says looked = by_told told
    where
      by_told : (found : Option (List ℕ)) → ReadsAs found whole before looked (Err Device)
      by_told None = tt
      by_told (Some image) = record { given = tt; looks = tt }

  pub memory_says : (looked : List Range) → ReadsAs told whole before looked (Err NoMemory)
  memory_says looked = by_told told
    where
      by_told : (found : Option (List ℕ)) → ReadsAs found whole before looked (Err NoMemory)
      by_told None = tt
      by_told (Some image) = record { given = tt; looks = tt }

  -- so does each fault that is no refusal
  pub nothing_says : (looked : List Range) (fault : ReadFault) → IsNoRefusal fault → ReadsAs told whole before looked (Err fault)
  nothing_says looked Device none = device_says looked
  nothing_says looked NoMemory none = memory_says looked
  nothing_says looked NotThis none = absurd none
  nothing_says looked (Damaged sort place) none = absurd none
  nothing_says looked (Unsupported what place) none = absurd none
  nothing_says looked (Limit bound number) none = absurd none

-- ---- from item to item

module _ {X S : Type 0} (told : Option (List ℕ)) (whole : Ask Refusal S) (before : List Range) (step : S → X → Ask Refusal S) (items : List X) (i : ℕ) (d : X) (state : S) (now : List Range) (come : IsCome told whole before (through step state (drop i items)) now) where
  next_comes : i < length items → IsCome told whole before (step state (get_or items i d) >>= (λ after. through step after (drop (suc i) items))) now
  next_comes inside = let P : List X → Type 0 = λ left. IsCome told whole before (through step state left) now in subst P (drop-cons items i d inside) come

  -- the next item's step gave a value
  pub through_value : (later : Option (List ℕ)) (after : S) (looked : List Range) → i < length items → later ≡ told → ReadsAs later (step state (get_or items i d)) now looked (Ok after) → IsCome told whole before (through step after (drop (i + 1) items)) looked
  through_value later after looked inside same read =
      let P : ℕ → Type 0 = λ n. IsCome told whole before (through step after (drop n items)) looked in
      let one_more : suc i ≡ i + 1 = omega arith in
      subst P one_more (comes_value told whole before later (step state (get_or items i d)) (λ after. through step after (drop (suc i) items)) now same (next_comes inside) after looked read)

  -- it stopped
  pub through_fault : (later : Option (List ℕ)) (fault : ReadFault) (looked last : List Range) → i < length items → later ≡ told → ReadsAs later (step state (get_or items i d)) now looked (Err fault) → ReadsAs told whole before last (Err fault)
  through_fault later fault looked last inside same read =
      comes_fault told whole before later (step state (get_or items i d)) (λ after. through step after (drop (suc i) items)) now same (next_comes inside) fault looked last read

  -- no item is left
  pub through_ends : length items ≤ i → IsCome told whole before (Done state) now
  through_ends past = let P : List X → Type 0 = λ left. IsCome told whole before (through step state left) now in subst P (drop_of_length-le items past) come
