-- The entries of a directory that lead to files, as a walk over a block's bytes finds them.
use Rattle.std.proofs.Common.{◌≡◌, ℕ, ◌+◌, ◌<◌, ◌≤◌, Bool, true, false, if◌then◌else◌, Ok, Err, List, [], ◌∷◌, ◌++◌, length, refl, sym, ap, subst, ◌∙◌, append-nil}
use Rattle.bytes_defs.specs.declared.order.Order.{Order}
use Rattle.fault_defs.specs.declared.Refusal.TheVariants.{Damaged}
use Rattle.fault_defs.specs.declared.Sort.TheVariants.{DirEntry}
use Rattle.ufs_volume_defs.specs.Directory.{Entry, is_entry, entry_of, entries_of, record_length, leads_on, leading_entries}
use Rattle.ufs_volume_defs.specs.Names.{leading}
use Rattle.ufs_directory.proofs.Entries.{IsWalkedTo, walk_starts, walk_goes_on, walk_ends, walk_stops}

leading_entries-append : (found : List Entry) (entry : Entry) → leading_entries (found ++ entry ∷ []) ≡ leading_entries found ++ leading_entries (entry ∷ [])
leading_entries-append [] entry = refl
leading_entries-append (first ∷ found) entry = first_or_not (leads_on first) (leading_entries-append found entry)
  where
    first_or_not : (leads : Bool) → leading_entries (found ++ entry ∷ []) ≡ leading_entries found ++ leading_entries (entry ∷ [])
        → (if leads then first ∷ leading_entries (found ++ entry ∷ []) else leading_entries (found ++ entry ∷ [])) ≡ (if leads then first ∷ leading_entries found else leading_entries found) ++ leading_entries (entry ∷ [])
    first_or_not true same = ap (λ entries. first ∷ entries) same
    first_or_not false same = same

-- the entries that lead to files, of those that a walk over the bytes passed
pub record HasPassed (order : Order) (bytes : List ℕ) (found : List Entry) (at : ℕ) : Type 0 where
  pub passed : List Entry
  pub walked : IsWalkedTo order bytes passed at
  pub leads : found ≡ leading_entries passed

pub passed_none : (order : Order) (bytes : List ℕ) → HasPassed order bytes [] 0
passed_none order bytes = record { passed = []; walked = walk_starts order bytes; leads = refl }

pub passed_leading : (order : Order) (bytes : List ℕ) (found more : List Entry) (at len : ℕ) → HasPassed order bytes found at → at < length bytes → is_entry order bytes at ≡ true
    → leads_on (entry_of order bytes at) ≡ true → more ≡ found ++ entry_of order bytes at ∷ [] → len ≡ record_length order bytes at → HasPassed order bytes more (at + len)
passed_leading order bytes found more at len before inside entry leads pushed behind = record {
  passed = before.passed ++ entry_of order bytes at ∷ [];
  walked =
      let P : ℕ → Type 0 = λ n. IsWalkedTo order bytes (before.passed ++ entry_of order bytes at ∷ []) (at + n) in
      subst P (sym behind) (walk_goes_on order bytes before.passed at before.walked inside entry);
  leads =
      pushed
      ∙ ap (λ entries. entries ++ entry_of order bytes at ∷ []) before.leads
      ∙ ap (λ b. leading_entries before.passed ++ (if b then entry_of order bytes at ∷ [] else [])) (sym leads)
      ∙ sym (leading_entries-append before.passed (entry_of order bytes at));
}

pub passed_other : (order : Order) (bytes : List ℕ) (found : List Entry) (at len : ℕ) → HasPassed order bytes found at → at < length bytes → is_entry order bytes at ≡ true
    → leads_on (entry_of order bytes at) ≡ false → len ≡ record_length order bytes at → HasPassed order bytes found (at + len)
passed_other order bytes found at len before inside entry leads behind = record {
  passed = before.passed ++ entry_of order bytes at ∷ [];
  walked =
      let P : ℕ → Type 0 = λ n. IsWalkedTo order bytes (before.passed ++ entry_of order bytes at ∷ []) (at + n) in
      subst P (sym behind) (walk_goes_on order bytes before.passed at before.walked inside entry);
  leads =
      before.leads ∙ sym (append-nil (leading_entries before.passed))
      ∙ ap (λ b. leading_entries before.passed ++ (if b then entry_of order bytes at ∷ [] else [])) (sym leads)
      ∙ sym (leading_entries-append before.passed (entry_of order bytes at));
}

pub passed_all : (order : Order) (bytes : List ℕ) (place : ℕ) (found : List Entry) (at : ℕ) → HasPassed order bytes found at → length bytes ≤ at → leading place (entries_of order bytes) ≡ Ok found
passed_all order bytes place found at before past =
    ap (leading place) (walk_ends order bytes before.passed at before.walked past) ∙ ap Ok (sym before.leads)

pub passed_no_entry : (order : Order) (bytes : List ℕ) (place : ℕ) (found : List Entry) (at : ℕ) → HasPassed order bytes found at → at < length bytes → is_entry order bytes at ≡ false
    → leading place (entries_of order bytes) ≡ Err (Damaged DirEntry (place + at))
passed_no_entry order bytes place found at before inside none =
    ap (leading place) (walk_stops order bytes before.passed at before.walked inside none)
