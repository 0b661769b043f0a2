-- The names of a walk, one more at a time.
use Rattle.std.specs.Prelude.{◌≡◌, ℕ, ◌+◌, ◌<◌, ◌≤◌, true, false, nat_le, Option, None, Some, OnOk, Result, Ok, Err, List, [], ◌++◌, length, refl}
use Rattle.std.proofs.Common.{arith, sym, subst, append-nil}
use Rattle.std.proofs.lemmas.Bool.{le-leb, lt-leb}
use Rattle.range_defs.specs.declared.Range.{Range}
use Rattle.image_defs.specs.Ask.{Ask, Done, Stop}
use Rattle.fault_defs.specs.declared.Refusal.{Refusal}
use Rattle.fault_defs.specs.declared.Refusal.TheVariants as refusal
use Rattle.fault_defs.specs.declared.Bound.TheVariants.{Names, PathBytes}
use Rattle.rx_store.specs.declared.read_fault.ReadFault.{ReadFault}
use Rattle.rx_store.specs.declared.read_fault.ReadFault.TheVariants.{Device, NoMemory, NotThis, Damaged, Unsupported, Limit}
use Rattle.image_reads.specs.Steps.{ReadsAs, IsRead, KeptWithin}
use Rattle.image_reads.proofs.Bytes.{same_ranges}
use Rattle.ufs_blocks.specs.UnderWay.{Settles}
use Rattle.ufs_volume_defs.specs.Names.{Named, Walk, counted_name, with_name, path_bytes, longest_path, most_names, most_path_bytes}

-- ---- one more name

pub too_many : (walk : Walk) (name : Named) → length name.path ≤ longest_path → most_names ≤ length walk.names → counted_name walk name ≡ Stop (refusal.Limit Names most_names)
unfolding counted_name
too_many walk name fits many =
    let short : nat_le (length name.path) longest_path ≡ true = le-leb (length name.path) longest_path fits in
    let more : nat_le (length walk.names + 1) most_names ≡ false = lt-leb (length walk.names + 1) most_names (omega arith) in
    rw (short, more) refl

pub too_many_bytes : (walk : Walk) (name : Named) → length name.path ≤ longest_path → length walk.names < most_names → most_path_bytes < path_bytes walk.names + length name.path
    → counted_name walk name ≡ Stop (refusal.Limit PathBytes most_path_bytes)
unfolding counted_name
too_many_bytes walk name fits few many =
    let short : nat_le (length name.path) longest_path ≡ true = le-leb (length name.path) longest_path fits in
    let place : nat_le (length walk.names + 1) most_names ≡ true = le-leb (length walk.names + 1) most_names (omega arith) in
    let more : nat_le (path_bytes walk.names + length name.path) most_path_bytes ≡ false = lt-leb (path_bytes walk.names + length name.path) most_path_bytes many in
    rw (short, place, more) refl

pub one_more : (walk : Walk) (name : Named) → length name.path ≤ longest_path → length walk.names < most_names → path_bytes walk.names + length name.path ≤ most_path_bytes
    → counted_name walk name ≡ Done (with_name walk name)
unfolding counted_name
one_more walk name fits few bytes =
    let short : nat_le (length name.path) longest_path ≡ true = le-leb (length name.path) longest_path fits in
    let place : nat_le (length walk.names + 1) most_names ≡ true = le-leb (length walk.names + 1) most_names (omega arith) in
    let less : nat_le (path_bytes walk.names + length name.path) most_path_bytes ≡ true = le-leb (path_bytes walk.names + length name.path) most_path_bytes bytes in
    rw (short, place, less) refl

-- ---- steps that read nothing

pub settles_reads : {X : Type 0} (told : Option (List ℕ)) (looked : List Range) (program : Ask Refusal X) (result : Result X ReadFault) → Settles result program → ReadsAs told program looked looked result
settles_reads {X = X} None looked program result settles = tt
settles_reads {X = X} (Some image) looked program result settles = by_result result settles
  where
    by_result : (result : Result X ReadFault) → Settles result program → IsRead image program looked looked result
    by_result (Ok x) settles = let P : Ask Refusal X → Type 0 = λ ask. IsRead image ask looked looked (Ok x) in subst P (sym settles) (record { given = refl; looks = same_ranges looked (looked ++ []) (sym (append-nil looked)) })
    by_result (Err Device) settles = record { given = tt; looks = tt }
    by_result (Err NoMemory) settles = record { given = tt; looks = tt }
    by_result (Err NotThis) settles = let P : Ask Refusal X → Type 0 = λ ask. IsRead image ask looked looked (Err NotThis) in subst P (sym settles) (record { given = refl; looks = tt })
    by_result (Err (Damaged sort place)) settles = let P : Ask Refusal X → Type 0 = λ ask. IsRead image ask looked looked (Err (Damaged sort place)) in subst P (sym settles) (record { given = refl; looks = tt })
    by_result (Err (Unsupported what place)) settles = let P : Ask Refusal X → Type 0 = λ ask. IsRead image ask looked looked (Err (Unsupported what place)) in subst P (sym settles) (record { given = refl; looks = tt })
    by_result (Err (Limit bound number)) settles = let P : Ask Refusal X → Type 0 = λ ask. IsRead image ask looked looked (Err (Limit bound number)) in subst P (sym settles) (record { given = refl; looks = tt })

-- ---- the ranges that were kept

pub kept_on : (last : ℕ) (first second third : List Range) → KeptWithin last first second → KeptWithin last second third → KeptWithin last first third
kept_on last first second third one two = λ end far all. two end far (one end far all)

pub kept_then : {X E : Type 0} (result : Result X E) (last : ℕ) (first second third : List Range) → KeptWithin last first second → OnOk result (KeptWithin last second third) → OnOk result (KeptWithin last first third)
kept_then (Ok x) last first second third one two = kept_on last first second third one two
kept_then (Err e) last first second third one two = tt
