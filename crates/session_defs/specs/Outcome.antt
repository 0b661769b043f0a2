-- What the calls of a session leave: the image with its ranges filled, and the journal with all marks.
use Rattle.std.specs.Prelude.{◌≡◌, ℕ, ◌+◌, ◌≤◌, All, Bool, true, false, Contains, IsTrue, Option, None, Some, replicate, List, [], ◌∷◌, ◌++◌, length, slice_get}
use Rattle.std.specs.Option.{option_map}
use Rattle.disk_defs.specs.Disk.{State, held, state_after, state_after_all}
use Rattle.disk_defs.specs.Story.{Held, Change, Write, Cut, Sync, changed}
use Rattle.disk_defs.specs.declared.Area.TheVariants.{Image, Journal}
use Rattle.journal_defs.specs.Form.{IsJournal, groups_of, journal_bytes}
use Rattle.journal_defs.specs.declared.TheConstants.{OPEN_GATE, SET_MARK}
use Rattle.image_defs.specs.Agreement.{AgreeOn}
use Rattle.range_defs.specs.declared.Claim.{Claim}
use Rattle.range_defs.specs.declared.Range.{Range}
use Rattle.range_defs.specs.Places.{covers}
use Rattle.range_defs.specs.Claims.{painted}
use Rattle.rx_ranges.specs.PlanChecks.{IsPlan}
use Rattle.rx_ranges.specs.declared.plan.Plan.{Plan}
use Rattle.session_defs.specs.Script.{journal_calls, ranges_of_group, script, rest_of, changes_of, unmarked}

-- the fill that a byte has by its paint, or else the byte itself
abbrev pub filled_byte : Option (ℕ × ℕ) → ℕ → ℕ
filled_byte None byte = byte
filled_byte (Some paint) byte = paint.1

-- the bytes of an image from a place on, with those filled that claims have
unfoldable pub filled_from : List Claim → ℕ → List ℕ → List ℕ
filled_from claims at [] = []
filled_from claims at (byte ∷ bytes) = filled_byte (painted claims at) byte ∷ filled_from claims (at + 1) bytes

-- an image with the bytes filled that claims have, and each other byte as it was
abbrev pub filled : List Claim → List ℕ → List ℕ
filled claims image = filled_from claims 0 image

-- the ranges of the groups from a number on that aren't marked
abbrev pub unmarked_ranges : Plan → ℕ → List Bool → List Claim
unmarked_ranges plan group [] = []
unmarked_ranges plan group (true ∷ marks) = unmarked_ranges plan (group + 1) marks
unmarked_ranges plan group (false ∷ marks) = ranges_of_group plan group ++ unmarked_ranges plan (group + 1) marks

-- the journal of a plan that was carried out: its gate is open, and all marks are set
abbrev pub done_journal : Plan → List ℕ
done_journal plan = journal_bytes OPEN_GATE plan (replicate (groups_of plan) SET_MARK) SET_MARK

-- what both areas hold after these changes, one after the other
abbrev pub changed_all : List Change → Held → Held
changed_all [] held = held
changed_all (change ∷ changes) held = changed_all changes (changed change held)

-- All calls of a plan leave the image with the ranges of the plan filled, and the journal of the plan with all marks.
abbrev pub ScriptLaw : Type 0
ScriptLaw = (plan : Plan) (first : Held) → IsPlan plan → length first.image ≡ plan.image_len
    → changed_all (changes_of (script plan)) first ≡ record { image = filled plan.ranges first.image; journal = done_journal plan }

-- The calls that are left where the journal stood open with some marks leave the image with the ranges of the other groups
-- filled, and the journal with all marks, where not all were set before. Where all were, there is no call.
abbrev pub RestLaw : Type 0
RestLaw = (plan : Plan) (groups : List Bool) (last : Bool) (first : Held) → IsPlan plan → length first.image ≡ plan.image_len
    → IsJournal first.journal plan groups last
    → changed_all (changes_of (rest_of plan groups last)) first ≡ record { image = filled (unmarked_ranges plan 0 groups) first.image; journal = done_journal plan }

-- What a store holds after changes, where it tells that, is what it held with these changes made.
abbrev pub HeldLaw : Type 0
HeldLaw = (changes : List Change) (state : State) → held (state_after_all changes state) ≡ option_map (changed_all changes) (held state)

-- After one change more a store is what that change makes of it.
abbrev pub OneMoreLaw : Type 0
OneMoreLaw = (changes : List Change) (change : Change) (state : State) → state_after_all (changes ++ change ∷ []) state ≡ state_after change (state_after_all changes state)

-- ---- filling changes only what is planned

-- A filled image is as long as the image.
abbrev pub FilledLengthLaw : Type 0
FilledLengthLaw = (claims : List Claim) (image : List ℕ) → length (filled claims image) ≡ length image

-- Each byte of it is the fill of its paint, or else the image's own byte.
abbrev pub FilledBytesLaw : Type 0
FilledBytesLaw = (claims : List Claim) (image : List ℕ) (byte : ℕ) → slice_get (filled claims image) byte ≡ option_map (filled_byte (painted claims byte)) (slice_get image byte)

-- It agrees with the image on ranges of which no byte is claimed.
abbrev pub UntouchedLaw : Type 0
UntouchedLaw =
    (claims : List Claim) (image : List ℕ) (ranges : List Range) → ((byte : ℕ) → IsTrue (covers ranges byte) → painted claims byte ≡ None)
    → AgreeOn ranges (filled claims image) image

-- ---- when the image is written, and where

-- a change that doesn't write to the image
abbrev pub LeavesImage : Change → Type 0
LeavesImage (Write Image at bytes) = ⊥
LeavesImage (Write Journal at bytes) = Unit {0}
LeavesImage (Cut len) = Unit {0}
LeavesImage Sync = Unit {0}

-- bytes from a place on lie inside one of these claims, and each is its fill
pub record AreFillOf (claims : List Claim) (at : ℕ) (bytes : List ℕ) : Type 0 where
  pub claim : Claim
  pub is_one : Contains claims claim
  pub begins : claim.range.at ≤ at
  pub ends : at + length bytes ≤ claim.range.at + claim.range.len
  pub fill : bytes ≡ replicate (length bytes) claim.fill

-- a change that writes to the image, if it does, only inside one of these claims and only its fill
abbrev pub IsFillIn : List Claim → Change → Type 0
IsFillIn claims (Write Image at bytes) = AreFillOf claims at bytes
IsFillIn claims (Write Journal at bytes) = Unit {0}
IsFillIn claims (Cut len) = Unit {0}
IsFillIn claims Sync = Unit {0}

-- The first calls of a plan make its journal open without a set mark, whatever it was, and none of them writes to the image. All
-- calls write to the image only inside the ranges of the plan, and those that are left of an open journal only inside the ranges
-- of the groups that aren't marked, each range's fill alone.
pub record IsAcknowledged (plan : Plan) : Type 0 where
  pub opened : (first : Held) → IsJournal (changed_all (changes_of (journal_calls plan)) first).journal plan (unmarked plan) false
  pub image_stays : All (λ call. LeavesImage call.change) (journal_calls plan)
  pub planned_alone : All (λ call. IsFillIn plan.ranges call.change) (script plan)
  pub unmarked_alone : (groups : List Bool) (last : Bool) → All (λ call. IsFillIn (unmarked_ranges plan 0 groups) call.change) (rest_of plan groups last)

-- This holds of each plan.
abbrev pub AcknowledgedLaw : Type 0
AcknowledgedLaw = (plan : Plan) → IsAcknowledged plan
