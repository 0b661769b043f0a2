-- Counts of calls and of faults.
use Rattle.std.specs.Prelude.{◌≡◌, ℕ, ◌+◌, ◌≤◌, min, Result, Ok, Err}
use Rattle.disk_defs.specs.declared.Area.{Area}
use Rattle.disk_defs.specs.declared.Area.TheVariants.{Image, Journal}

-- a counter after one more: it stays at 2^64 - 1, its last value
abbrev pub one_more : ℕ → ℕ
one_more count = min (count + 1) 18446744073709551615

-- A count rose between two moments. At a counter's last value it counts as risen too.
abbrev pub Rose : ℕ → ℕ → Type 0
Rose before now = one_more before ≤ now

-- a count of faults after a call with this result
abbrev pub faults_after : {T E : Type 0} → Result T E → ℕ → ℕ
faults_after (Ok answer) faults = faults
faults_after (Err error) faults = one_more faults

-- A count of faults before and after a call with this result: a success counts none, and an error comes only with one.
abbrev pub IsCounted : {T E : Type 0} → Result T E → ℕ → ℕ → Type 0
IsCounted (Ok answer) before now = now ≡ before
IsCounted (Err error) before now = (before ≤ now) × Rose before now

-- how many calls of a store failed, by the area that they were made on
pub record Faults : Type 0 where
  pub image : ℕ
  pub journal : ℕ

abbrev pub no_faults : Faults
no_faults = record { image = 0; journal = 0 }

-- the counts after one more fault on an area
abbrev pub one_more_in : Area → Faults → Faults
one_more_in Image faults = record faults { image = one_more faults.image }
one_more_in Journal faults = record faults { journal = one_more faults.journal }

-- the counts after a call on an area with this result
abbrev pub faults_after_in : {T E : Type 0} → Area → Result T E → Faults → Faults
faults_after_in area (Ok answer) faults = faults
faults_after_in area (Err error) faults = one_more_in area faults

-- a call on this area failed, and none on the other one
abbrev pub FailedIn : Area → Faults → Faults → Type 0
FailedIn Image before now = (before.image ≤ now.image) × Rose before.image now.image × (now.journal ≡ before.journal)
FailedIn Journal before now = (before.journal ≤ now.journal) × Rose before.journal now.journal × (now.image ≡ before.image)

-- The counts of a store before and after calls on one area with this result: a success counts none, and an error comes
-- only with one on that area. Of a store whose calls on the other area would all fail, this says that none was made on
-- it: it would have been counted. So no premise is wanted for "it makes no call on the journal".
abbrev pub IsCountedIn : {T E : Type 0} → Area → Result T E → Faults → Faults → Type 0
IsCountedIn area (Ok answer) before now = now ≡ before
IsCountedIn area (Err error) before now = FailedIn area before now

-- a call on both areas failed
abbrev pub FailedInBoth : Faults → Faults → Type 0
FailedInBoth before now =
    (before.image ≤ now.image) × Rose before.image now.image × (before.journal ≤ now.journal) × Rose before.journal now.journal

-- the counts after one more fault on both areas
abbrev pub one_more_in_both : Faults → Faults
one_more_in_both faults = record { image = one_more faults.image; journal = one_more faults.journal }

-- the counts after a call on both areas with this result
abbrev pub faults_after_in_both : {T E : Type 0} → Result T E → Faults → Faults
faults_after_in_both (Ok answer) faults = faults
faults_after_in_both (Err error) faults = one_more_in_both faults

-- The counts of a store before and after a call on both areas, a sync, with this result: a fault of it is one of each area.
abbrev pub IsCountedInBoth : {T E : Type 0} → Result T E → Faults → Faults → Type 0
IsCountedInBoth (Ok answer) before now = now ≡ before
IsCountedInBoth (Err error) before now = FailedInBoth before now
