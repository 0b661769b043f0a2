-- How the entries of a directory follow one on another.
use Rattle.std.specs.Prelude.{◌≡◌, ℕ, zero, suc, ◌+◌, ◌-◌, ◌<◌, ◌≤◌, ◌%◌, Bool, true, false, nat_le, if◌then◌else◌, Result, Ok, Err, List, [], ◌∷◌, ◌++◌, length, refl}
use Rattle.std.proofs.Common.{ap, sym, ◌∙◌, arith, append_assoc, append-nil}
use Rattle.std.proofs.lemmas.Bool.{le-leb, lt-leb}
use Rattle.std.proofs.lemmas.Bool.Decides.{nat_tests}
use Rattle.image_defs.specs.Results.{with_value}
use Rattle.bytes_defs.specs.declared.order.Order.{Order}
use Rattle.ufs_volume_defs.specs.Directory.{Entry, is_entry, entry_of, left_at, record_length, with_entry, entries_within, entries_of}

-- the entries from a place on, or the place of the first record that is no entry
pub entries_from : Order → List ℕ → ℕ → Result (List Entry) ℕ
entries_from order bytes at = entries_within (length bytes - at) order bytes at

-- a record has at least the fields in front of the name
pub entry-len : (order : Order) (bytes : List ℕ) (at : ℕ) → is_entry order bytes at ≡ true → 8 ≤ record_length order bytes at
unfolding is_entry
entry-len order bytes at entry = grind (arith, nat_tests)

-- and it ends in its 512 bytes
pub entry-left : (order : Order) (bytes : List ℕ) (at : ℕ) → is_entry order bytes at ≡ true → record_length order bytes at ≤ left_at at
unfolding is_entry
entry-left order bytes at entry = grind (arith, nat_tests)

-- so it ends in bytes of whole pieces of 512 bytes
pub entry-inside : (order : Order) (bytes : List ℕ) (at : ℕ) → length bytes % 512 ≡ 0 → at < length bytes → is_entry order bytes at ≡ true → at + record_length order bytes at ≤ length bytes
entry-inside order bytes at whole inside entry = omega (arith, entry-left order bytes at entry)

-- the rest counts only behind an entry
same_behind : (past entry : Bool) (none fault : Result (List Entry) ℕ) (change : Result (List Entry) ℕ → Result (List Entry) ℕ) (behind other : Result (List Entry) ℕ)
    → (past ≡ false → entry ≡ true → behind ≡ other)
    → (if past then none else (if entry then change behind else fault)) ≡ (if past then none else (if entry then change other else fault))
same_behind true entry none fault change behind other same = refl
same_behind false true none fault change behind other same = ap change (same refl refl)
same_behind false false none fault change behind other same = refl

with_entry-same : (order : Order) (bytes : List ℕ) (at : ℕ) (behind other : Result (List Entry) ℕ) → (at < length bytes → 8 ≤ record_length order bytes at → behind ≡ other)
    → with_entry order bytes at behind ≡ with_entry order bytes at other
with_entry-same order bytes at behind other same =
    same_behind (nat_le (length bytes) at) (is_entry order bytes at) (Ok []) (Err at) (λ rest. with_value (λ entries. entry_of order bytes at ∷ entries) rest) behind other
    (λ inside entry. same (grind (arith, nat_tests)) (entry-len order bytes at entry))

-- at the bytes' end there is no more entry
with_entry-end : (order : Order) (bytes : List ℕ) (at : ℕ) (behind : Result (List Entry) ℕ) → length bytes ≤ at → with_entry order bytes at behind ≡ Ok []
with_entry-end order bytes at behind past = rw (le-leb (length bytes) at past) refl

-- a number of entries that reaches the bytes' end gives them all
entries_within-enough : (count other : ℕ) (order : Order) (bytes : List ℕ) (at : ℕ) → length bytes ≤ at + count → length bytes ≤ at + other → entries_within count order bytes at ≡ entries_within other order bytes at
unfolding entries_within
entries_within-enough zero zero order bytes at enough too = refl
entries_within-enough zero (suc other) order bytes at enough too = sym (with_entry-end order bytes at (entries_within other order bytes (at + record_length order bytes at)) (omega arith))
entries_within-enough (suc count) zero order bytes at enough too = with_entry-end order bytes at (entries_within count order bytes (at + record_length order bytes at)) (omega arith)
entries_within-enough (suc count) (suc other) order bytes at enough too =
    with_entry-same order bytes at (entries_within count order bytes (at + record_length order bytes at)) (entries_within other order bytes (at + record_length order bytes at))
    (λ inside long. entries_within-enough count other order bytes (at + record_length order bytes at) (omega arith) (omega arith))

entries_from-count : (count : ℕ) (order : Order) (bytes : List ℕ) (at : ℕ) → count ≡ length bytes - at → with_entry order bytes at (entries_from order bytes (at + record_length order bytes at)) ≡ entries_within count order bytes at
unfolding entries_within entries_from
entries_from-count zero order bytes at is = with_entry-end order bytes at (entries_from order bytes (at + record_length order bytes at)) (omega arith)
entries_from-count (suc count) order bytes at is =
    with_entry-same order bytes at (entries_from order bytes (at + record_length order bytes at)) (entries_within count order bytes (at + record_length order bytes at))
    (λ inside long. entries_within-enough (length bytes - (at + record_length order bytes at)) count order bytes (at + record_length order bytes at) (omega arith) (omega arith))

-- the entries from a place on are the one there and those behind it
pub entries_from-next : (order : Order) (bytes : List ℕ) (at : ℕ) → entries_from order bytes at ≡ with_entry order bytes at (entries_from order bytes (at + record_length order bytes at))
unfolding entries_from
entries_from-next order bytes at =
    sym (entries_from-count (length bytes - at) order bytes at refl)

-- at the bytes' end there is none
pub entries_from_end : (order : Order) (bytes : List ℕ) (at : ℕ) → length bytes ≤ at → entries_from order bytes at ≡ Ok []
entries_from_end order bytes at past = entries_from-next order bytes at ∙ with_entry-end order bytes at (entries_from order bytes (at + record_length order bytes at)) past

-- where an entry stands, the entries behind it follow
pub entries_from_entry : (order : Order) (bytes : List ℕ) (at : ℕ) → at < length bytes → is_entry order bytes at ≡ true
    → entries_from order bytes at ≡ with_value (λ entries. entry_of order bytes at ∷ entries) (entries_from order bytes (at + record_length order bytes at))
entries_from_entry order bytes at inside entry =
    entries_from-next order bytes at
    ∙ rw (lt-leb (length bytes) at inside, entry) refl

-- where a record is no entry, its place is the fault
pub entries_from_fault : (order : Order) (bytes : List ℕ) (at : ℕ) → at < length bytes → is_entry order bytes at ≡ false → entries_from order bytes at ≡ Err at
entries_from_fault order bytes at inside no_entry =
    entries_from-next order bytes at
    ∙ rw (lt-leb (length bytes) at inside, no_entry) refl

with_value-append : (found : List Entry) (entry : Entry) (rest : Result (List Entry) ℕ)
    → with_value (λ entries. found ++ entries) (with_value (λ entries. entry ∷ entries) rest) ≡ with_value (λ entries. (found ++ entry ∷ []) ++ entries) rest
with_value-append found entry (Ok entries) = ap Ok (sym (append_assoc found (entry ∷ []) entries))
with_value-append found entry (Err fault) = refl

-- a walk over the entries: those that were found, and those from its place on, are all
pub record IsWalkedTo (order : Order) (bytes : List ℕ) (found : List Entry) (at : ℕ) : Type 0 where
  pub whole : entries_of order bytes ≡ with_value (λ entries. found ++ entries) (entries_from order bytes at)

with_value-none : (rest : Result (List Entry) ℕ) → rest ≡ with_value (λ entries. [] ++ entries) rest
with_value-none (Ok entries) = refl
with_value-none (Err fault) = refl

pub walk_starts : (order : Order) (bytes : List ℕ) → IsWalkedTo order bytes [] 0
unfolding entries_from
walk_starts order bytes = record {
  whole =
      let all : length bytes ≡ length bytes - 0 = omega arith in
      ap (λ count. entries_within count order bytes 0) all ∙ with_value-none (entries_within (length bytes - 0) order bytes 0);
}

pub walk_goes_on : (order : Order) (bytes : List ℕ) (found : List Entry) (at : ℕ) → IsWalkedTo order bytes found at → at < length bytes → is_entry order bytes at ≡ true
    → IsWalkedTo order bytes (found ++ entry_of order bytes at ∷ []) (at + record_length order bytes at)
walk_goes_on order bytes found at walked inside entry = record {
  whole =
      walked.whole
      ∙ ap (λ rest. with_value (λ entries. found ++ entries) rest) (entries_from_entry order bytes at inside entry)
      ∙ with_value-append found (entry_of order bytes at) (entries_from order bytes (at + record_length order bytes at));
}

pub walk_ends : (order : Order) (bytes : List ℕ) (found : List Entry) (at : ℕ) → IsWalkedTo order bytes found at → length bytes ≤ at → entries_of order bytes ≡ Ok found
walk_ends order bytes found at walked past =
    walked.whole
    ∙ ap (λ rest. with_value (λ entries. found ++ entries) rest) (entries_from_end order bytes at past)
    ∙ ap Ok (append-nil found)

pub walk_stops : (order : Order) (bytes : List ℕ) (found : List Entry) (at : ℕ) → IsWalkedTo order bytes found at → at < length bytes → is_entry order bytes at ≡ false → entries_of order bytes ≡ Err at
walk_stops order bytes found at walked inside no_entry =
    walked.whole ∙ ap (λ rest. with_value (λ entries. found ++ entries) rest) (entries_from_fault order bytes at inside no_entry)

-- the laws by which a walk reads a record's length
pub ruleset entry_laws = (entry-len, entry-left, entry-inside)

-- an entry of whole bytes has place for the fields in front of its name
pub entry_head : (order : Order) (bytes : List ℕ) (at : ℕ) → length bytes % 512 ≡ 0 → at < length bytes → is_entry order bytes at ≡ true → at + 8 ≤ length bytes
entry_head order bytes at whole inside entry = omega (arith, entry-len order bytes at entry, entry-inside order bytes at whole inside entry)
