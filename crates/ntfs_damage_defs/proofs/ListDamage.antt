-- A list whose entries are refused has one that breaks a rule; one whose entries are given has none.
use Rattle.std.specs.Prelude.{◌≡◌, ℕ, zero, suc, ◌+◌, ◌<◌, ◌≤◌, Bool, true, false, nat_le, if◌then◌else◌, Result, Ok, Err, List, [], ◌∷◌, length, refl}
use Rattle.std.proofs.Common.{arith, ap, sym, ◌∙◌, subst}
use Rattle.std.proofs.lemmas.Bool.{and_parts, leb-true, leb-false, lt-leb, false≢true}
use Rattle.image_defs.specs.Results.{with_value}
use Rattle.fault_defs.specs.declared.Sort.{Sort}
use Rattle.fault_defs.specs.declared.Sort.TheVariants.{ListEntry}
use Rattle.fault_defs.specs.declared.Refusal.{Refusal}
use Rattle.fault_defs.specs.declared.Refusal.TheVariants.{Damaged}
use Rattle.ntfs_volume_defs.specs.Slots.{Mft}
use Rattle.ntfs_volume_defs.specs.Segments.{Held}
use Rattle.ntfs_volume_defs.specs.Lists.{Entry, ListContent, entry_length, is_entry, entry_of, entry_place, entries_within, entries_of}
use Rattle.ntfs_damage_defs.specs.Told.{IsToldBy}
use Rattle.ntfs_damage_defs.specs.Wrong.{IsEntryAt, FirstEntry, NextEntry, IsWrongList, WrongEntry}

-- an entry of a list that is bad
record IsBadEntry (bytes : List ℕ) (place : ℕ → ℕ) (refusal : Refusal) : Type 0 where
  at : ℕ
  chain : IsEntryAt bytes at
  below : at < length bytes
  bad : is_entry bytes at ≡ false
  told : Damaged ListEntry (place at) ≡ refusal

pub value_refuses : {X Y : Type 0} (change : X → Y) (result : Result X Refusal) (refusal : Refusal) → with_value change result ≡ Err refusal → result ≡ Err refusal
value_refuses change (Ok x) refusal refuses = absurd cc
value_refuses {Y = Y} change (Err other) refusal refuses = ap Err (same other refusal refuses)
  where
    same : (own other : Refusal) → (let one : Result Y Refusal = Err own in one ≡ Err other) → own ≡ other
    same own other is = cc

pub value_gives : {X Y : Type 0} (change : X → Y) (result : Result X Refusal) (y : Y) → with_value change result ≡ Ok y → (x : X) × (result ≡ Ok x)
value_gives change (Ok x) y gives = (x, refl)
value_gives change (Err refusal) y gives = absurd cc

entries_refuse : (count : ℕ) (place : ℕ → ℕ) (bytes : List ℕ) (at : ℕ) (refusal : Refusal) → IsEntryAt bytes at → entries_within count place bytes at ≡ Err refusal → IsBadEntry bytes place refusal
unfolding entries_within
entries_refuse zero place bytes at refusal chain refuses = absurd cc
entries_refuse (suc count) place bytes at refusal chain refuses =
    by_tests (nat_le (length bytes) at) (is_entry bytes at) refl refl refuses (λ next refuses. entries_refuse count place bytes (at + entry_length bytes at) refusal next refuses)
  where
    by_tests : (past good : Bool) → nat_le (length bytes) at ≡ past → is_entry bytes at ≡ good
        → (if past then Ok []
        else (if good then with_value (λ more. entry_of bytes at (place at) ∷ more) (entries_within count place bytes (at + entry_length bytes at)) else Err (Damaged ListEntry (place at)))) ≡ Err refusal
        → (IsEntryAt bytes (at + entry_length bytes at) → entries_within count place bytes (at + entry_length bytes at) ≡ Err refusal → IsBadEntry bytes place refusal) → IsBadEntry bytes place refusal
    by_tests true good is_past is_good refuses later = absurd cc
    by_tests false true is_past is_good refuses later =
        later (NextEntry at chain (leb-false (length bytes) at is_past) is_good)
        (value_refuses (λ more. entry_of bytes at (place at) ∷ more) (entries_within count place bytes (at + entry_length bytes at)) refusal refuses)
    by_tests false false is_past is_good refuses later = record {
      at = at;
      chain = chain;
      below = leb-false (length bytes) at is_past;
      bad = is_good;
      told = cc;
    }

pub list_refuses : (mft : Mft) (list : Held) (content : ListContent) (refusal : Refusal) → entries_of mft list content ≡ Err refusal → IsToldBy (IsWrongList mft list content) refusal
list_refuses mft list content refusal refuses =
    let bad = entries_refuse (length content.bytes) (entry_place mft list content) content.bytes 0 refusal FirstEntry refuses in
    subst (IsToldBy (IsWrongList mft list content)) bad.told (WrongEntry bad.at bad.chain bad.below bad.bad)

-- ---- a list whose entries are given

entry_is_long : (bytes : List ℕ) (at : ℕ) → is_entry bytes at ≡ true → 26 ≤ entry_length bytes at
unfolding is_entry
entry_is_long bytes at good =
    let whole = and_parts (nat_le (at + 26) (length bytes)) _ good in
    let long = and_parts (nat_le 26 (entry_length bytes at)) _ whole.1 in
    leb-true _ _ long.0

-- the entries from one on are given, in enough steps
record AreGiven (place : ℕ → ℕ) (bytes : List ℕ) (at : ℕ) : Type 0 where
  count : ℕ
  entries : List Entry
  enough : length bytes ≤ count + at
  given : entries_within count place bytes at ≡ Ok entries

step_given : (count : ℕ) (place : ℕ → ℕ) (bytes : List ℕ) (at : ℕ) (entries : List Entry) → length bytes ≤ count + at → at < length bytes → entries_within count place bytes at ≡ Ok entries
    → (is_entry bytes at ≡ true) × AreGiven place bytes (at + entry_length bytes at)
unfolding entries_within
step_given zero place bytes at entries enough below gives = absurd (omega (arith, enough, below))
step_given (suc count) place bytes at entries enough below gives = by_tests (nat_le (length bytes) at) (is_entry bytes at) (lt-leb (length bytes) at below) refl gives
  where
    by_tests : (past good : Bool) → past ≡ false → is_entry bytes at ≡ good
        → (if past then Ok []
        else (if good then with_value (λ more. entry_of bytes at (place at) ∷ more) (entries_within count place bytes (at + entry_length bytes at)) else Err (Damaged ListEntry (place at)))) ≡ Ok entries
        → (is_entry bytes at ≡ true) × AreGiven place bytes (at + entry_length bytes at)
    by_tests true good is_past is_good gives = absurd cc
    by_tests false false is_past is_good gives = absurd cc
    by_tests false true is_past is_good gives =
        let rest = value_gives (λ more. entry_of bytes at (place at) ∷ more) (entries_within count place bytes (at + entry_length bytes at)) entries gives in
        (is_good, record { count = count; entries = rest.0; enough = omega (arith, enough, entry_is_long bytes at is_good); given = rest.1 })

chain_given : (place : ℕ → ℕ) (bytes : List ℕ) (entries : List Entry) → entries_within (length bytes) place bytes 0 ≡ Ok entries → (at : ℕ) → IsEntryAt bytes at → AreGiven place bytes at
chain_given place bytes entries gives at FirstEntry = record { count = length bytes; entries = entries; enough = omega arith; given = gives }
chain_given place bytes entries gives at (NextEntry front chain below good) =
    let before = chain_given place bytes entries gives front chain in
    (step_given before.count place bytes front before.entries before.enough below before.given).1

bad_is_none : (place : ℕ → ℕ) (bytes : List ℕ) (at : ℕ) → AreGiven place bytes at → at < length bytes → is_entry bytes at ≡ false → ⊥
bad_is_none place bytes at are below bad = false≢true (sym bad ∙ (step_given are.count place bytes at are.entries are.enough below are.given).0)

pub list_is_sound : (mft : Mft) (list : Held) (content : ListContent) (entries : List Entry) (sort : Sort) (place : ℕ) → entries_of mft list content ≡ Ok entries → IsWrongList mft list content sort place → ⊥
list_is_sound mft list content entries sort place gives (WrongEntry at chain below bad) =
    bad_is_none (entry_place mft list content) content.bytes at (chain_given (entry_place mft list content) content.bytes entries gives at chain) below bad
