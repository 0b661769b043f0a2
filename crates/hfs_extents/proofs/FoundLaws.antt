-- What is found of a fork, and what its answer says.
use Rattle.std.specs.Prelude.{◌≡◌, ℕ, ◌+◌, ◌*◌, ◌^◌, ◌<◌, ◌≤◌, Bool, true, false, not, ◌&&◌, ◌==◌, nat_le, nat_lt, if◌then◌else◌, Option, Some, None, Result, Ok, Err, List, [], ◌∷◌, ◌++◌, refl}
use Rattle.std.specs.List.{All}
use Rattle.std.proofs.Common.{ap, sym, ◌∙◌, subst, arith, inl, inr}
use Rattle.std.proofs.lemmas.Bool.{and_parts, ltb-false}
use Rattle.std.proofs.lemmas.Bool.Decides.{Decides-eqb, nat_tests}
use Rattle.std.proofs.lemmas.List.Elements.{All-nil, All-cons, All-append}
use Rattle.range_defs.specs.declared.Range.{Range}
use Rattle.range_defs.specs.declared.TheConstants.{LONGEST_IMAGE}
use Rattle.rx_ranges.specs.declared.pieces.Piece.{Piece}
use Rattle.piece_defs.specs.Joined.{AreInARow}
use Rattle.piece_defs.specs.Places.{ArePiecesAt}
use Rattle.piece_defs.proofs.JoinedLaws.{covered_row}
use Rattle.hfs_defs.specs.Header.{IsSoundHeader, is_block_size, wrong_field}
use Rattle.hfs_defs.proofs.ForkLaws.{fork_law}
use Rattle.fault_defs.specs.declared.Refusal.{Refusal}
use Rattle.fault_defs.specs.declared.Refusal.TheVariants.{NotThis, Damaged, Unsupported, Limit}
use Rattle.fault_defs.specs.declared.Sort.TheVariants.{ForkExtent, ForkSum}
use Rattle.rx_store.specs.Answers.{Answers}
use Rattle.rx_store.specs.ReadFaults.{fault_of}
use Rattle.rx_store.specs.declared.read_fault.ReadFault.{ReadFault}
use Rattle.hfs_defs.specs.Forks.{blocks_in, passes, first_passing, written_from, written_extents, is_whole, follow_on, first_damage, fork_fault, extents_with, byte_place, pieces_of, slack_of, FoundFork, found_or, found_fork}
use Rattle.hfs_defs.specs.Damage.{IsDamage}
use Rattle.hfs_defs.specs.ForkDamage.{extents_in, IsFalseInFork}
use Rattle.hfs_defs.proofs.ForkDamage.{fork_damage_law}
use Rattle.fault_defs.specs.declared.Sort.{Sort}
use Rattle.hfs_defs.specs.declared.forks.Extent.{Extent}
use Rattle.hfs_defs.specs.declared.forks.Fork.{Fork}
use Rattle.hfs_defs.specs.declared.forks.OverflowRecord.{OverflowRecord}
use Rattle.hfs_defs.specs.declared.header.Header.{Header}
use Rattle.hfs_extents.specs.Extents.{EndsIn, LiesInImage}
use Rattle.hfs_extents.specs.Found.{IsForkRefusal, TellsFork}
use Rattle.hfs_extents.proofs.ExtentLaws.{written_in}

-- ---- a fork that is refused

-- a refusal that is handed on answers what the definitions give
pub answers_refused : {X : Type 0} (refusal : Refusal) (given : Result X Refusal) → given ≡ Err refusal → Answers (Err (fault_of refusal)) given
answers_refused NotThis given is = is
answers_refused (Damaged sort place) given is = is
answers_refused (Unsupported what place) given is = is
answers_refused (Limit bound number) given is = is

pub fault_answers : (header : Header) (records : List OverflowRecord) (fork : Fork) (place : ℕ) (refusal : Refusal) (fault : ReadFault) → Some refusal ≡ fork_fault header records fork place → fault ≡ fault_of refusal
    → Answers (Err fault) (found_fork header records fork place)
unfolding found_fork
fault_answers header records fork place refusal fault is same =
    let given : found_or header records fork (fork_fault header records fork place) ≡ Err refusal = ap (found_or header records fork) (sym is) in
    let P : ReadFault → Type 0 = λ answer. let result : Result FoundFork ReadFault = Err answer in Answers result (found_or header records fork (fork_fault header records fork place)) in
    subst P (sym same) (answers_refused refusal (found_or header records fork (fork_fault header records fork place)) given)

pub fault_refuses : (header : Header) (records : List OverflowRecord) (fork : Fork) (place : ℕ) (refusal : Refusal) (fault : ReadFault) → Some refusal ≡ fork_fault header records fork place → fault ≡ fault_of refusal
    → IsForkRefusal place fault
unfolding fork_fault
fault_refuses header records fork place refusal fault is same =
    subst (IsForkRefusal place) (sym same) (either (first_passing header.total_blocks (written_extents records fork place)) (is_whole header records fork) is)
  where
    one : (this other : Refusal) → Some this ≡ Some other → this ≡ other
    one this other is = cc

    either : (passing : Option ℕ) (whole : Bool) → Some refusal ≡ first_damage place passing whole → IsForkRefusal place (fault_of refusal)
    either (Some at) whole is = let P : Refusal → Type 0 = λ found. IsForkRefusal place (fault_of found) in subst P (sym (one refusal (Damaged ForkExtent at) is)) (inl refl)
    either None true is = absurd cc
    either None false is = let P : Refusal → Type 0 = λ found. IsForkRefusal place (fault_of found) in subst P (sym (one refusal (Damaged ForkSum place) is)) (inr (refl, refl))

-- what refuses a fork is a clause of it that is false at that place
pub fault_tells : (header : Header) (records : List OverflowRecord) (fork : Fork) (place : ℕ) (refusal : Refusal) (fault : ReadFault) → Some refusal ≡ fork_fault header records fork place → fault ≡ fault_of refusal
    → TellsFork header records fork place (Err fault)
fault_tells header records fork place refusal fault is same =
    let P : ReadFault → Type 0 = λ answer. TellsFork header records fork place (Err answer) in
    subst P (sym same) (either refusal ((fork_damage_law header records fork place).stops refusal (sym is)))
  where
    either : (refusal : Refusal) → IsDamage (IsFalseInFork header records fork place) refusal → TellsFork header records fork place (Err (fault_of refusal))
    either (Damaged sort at) broken = broken
    either NotThis broken = absurd broken
    either (Unsupported what at) broken = absurd broken
    either (Limit bound number) broken = absurd broken

-- and no clause of another is
pub found_tells : (header : Header) (records : List OverflowRecord) (fork : Fork) (place : ℕ) (sort : Sort) (at : ℕ) → None ≡ fork_fault header records fork place → IsFalseInFork header records fork place sort at → ⊥
found_tells header records fork place sort at none = (fork_damage_law header records fork place).passes_all sort at (sym none)

-- ---- the extents of a fork without a fault

none_written : (total at : ℕ) (extents : List Extent) (rest : List (Extent × ℕ)) → first_passing total (written_from at extents ++ rest) ≡ None → All (EndsIn total) extents × (first_passing total rest ≡ None)
none_written total at [] rest none = (All-nil (EndsIn total), none)
none_written total at (extent ∷ extents) rest none = either (passes total extent) refl (none_written total (at + 8) extents rest) none
  where
    ends : passes total extent ≡ false → EndsIn total extent
    ends inside some = grind (arith, nat_tests)

    either : (over : Bool) → passes total extent ≡ over → (first_passing total (written_from (at + 8) extents ++ rest) ≡ None → All (EndsIn total) extents × (first_passing total rest ≡ None))
        → (if over then Some at else first_passing total (written_from (at + 8) extents ++ rest)) ≡ None → All (EndsIn total) (extent ∷ extents) × (first_passing total rest ≡ None)
    either true over later is = absurd cc
    either false inside later is = let behind = later is in (All-cons (EndsIn total) extent extents (ends inside) behind.0, behind.1)

none_in : (total : ℕ) (records : List OverflowRecord) → first_passing total (written_in records) ≡ None → All (EndsIn total) (extents_in records)
none_in total [] none = All-nil (EndsIn total)
none_in total (overflow ∷ records) none =
    let both = none_written total (overflow.at + 12) overflow.extents (written_in records) none in
    All-append (EndsIn total) overflow.extents (extents_in records) both.0 (none_in total records both.1)

-- what is known of them
pub record AreSound (header : Header) (records : List OverflowRecord) (fork : Fork) : Type 0 where
  pub inside : All (EndsIn header.total_blocks) (extents_with records fork)
  pub whole : blocks_in (extents_with records fork) ≡ fork.total_blocks

pub without_fault : (header : Header) (records : List OverflowRecord) (fork : Fork) (place : ℕ) → fork_fault header records fork place ≡ None → AreSound header records fork
unfolding fork_fault
without_fault header records fork place none = either (first_passing header.total_blocks (written_extents records fork place)) (is_whole header records fork) refl refl none
  where
    either : (passing : Option ℕ) (whole : Bool) → first_passing header.total_blocks (written_extents records fork place) ≡ passing → is_whole header records fork ≡ whole → first_damage place passing whole ≡ None → AreSound header records fork
    either (Some at) whole passing all is = absurd cc
    either None false passing all is = absurd cc
    either None true passing all is =
        let both = none_written header.total_blocks (place + 16) fork.extents (written_in records) passing in
        let parts = and_parts (follow_on (blocks_in fork.extents) records) (blocks_in (extents_with records fork) == fork.total_blocks && nat_le fork.logical_size (fork.total_blocks * header.block_size)) all in
        let sums = and_parts (blocks_in (extents_with records fork) == fork.total_blocks) (nat_le fork.logical_size (fork.total_blocks * header.block_size)) parts.1 in
        record {
          inside = All-append (EndsIn header.total_blocks) fork.extents (extents_in records) both.0 (none_in header.total_blocks records both.1);
          whole = (Decides-eqb (blocks_in (extents_with records fork)) fork.total_blocks).0 sums.0;
        }

-- its pieces and its slack are those that are found
pub found_is : (header : Header) (records : List OverflowRecord) (fork : Fork) (place : ℕ) (extents : List Extent) (pieces : List Piece) (slack : List Range) → fork_fault header records fork place ≡ None
    → extents ≡ extents_with records fork → pieces ≡ pieces_of header fork.logical_size extents → slack ≡ slack_of header fork.logical_size extents
    → found_fork header records fork place ≡ Ok (record { pieces = pieces; slack = slack })
unfolding found_fork
found_is header records fork place extents pieces slack none all first second =
    ap (found_or header records fork) none
    ∙ ap (λ list. Ok (record { pieces = pieces_of header fork.logical_size list; slack = slack_of header fork.logical_size list })) (sym all)
    ∙ ap (λ list. Ok (record { pieces = list; slack = slack_of header fork.logical_size extents })) (sym first)
    ∙ ap (λ list. Ok (record { pieces = pieces; slack = list })) (sym second)

-- what the extents of a fork without a fault meet
pub ends_inside : (header : Header) (records : List OverflowRecord) (fork : Fork) (place : ℕ) (extents : List Extent) → None ≡ fork_fault header records fork place → extents ≡ extents_with records fork → All (EndsIn header.total_blocks) extents
ends_inside header records fork place extents none is = let P : List Extent → Type 0 = λ list. All (EndsIn header.total_blocks) list in subst P (sym is) (without_fault header records fork place (sym none)).inside

pub few_bytes : (header : Header) (records : List OverflowRecord) (fork : Fork) (place : ℕ) (extents : List Extent) → None ≡ fork_fault header records fork place → extents ≡ extents_with records fork
    → fork.total_blocks * header.block_size < 2 ^ 64 → blocks_in extents * header.block_size < 2 ^ 64
few_bytes header records fork place extents none is fits =
    let P : ℕ → Type 0 = λ blocks. blocks * header.block_size < 2 ^ 64 in
    subst P (sym (ap blocks_in is ∙ (without_fault header records fork place (sym none)).whole)) fits

-- ---- the volume of a sound header

abbrev wrong_place : Bool → Bool → Option ℕ
wrong_place good over = if not good then Some 40 else (if over then Some 44 else None)

-- the blocks lie in the volume, and have bytes
pub sound_lies : (header : Header) → IsSoundHeader header → header.at + header.len ≤ LONGEST_IMAGE → LiesInImage header
unfolding wrong_field
sound_lies header sound ends = record { blocks = either (is_block_size header.block_size) (nat_lt header.len (header.total_blocks * header.block_size)) refl sound.right; ends = ends }
  where
    either : (good over : Bool) → nat_lt header.len (header.total_blocks * header.block_size) ≡ over → wrong_place good over ≡ None → header.total_blocks * header.block_size ≤ header.len
    either false over is wrong = absurd cc
    either true true is wrong = absurd cc
    either true false is right = ltb-false header.len (header.total_blocks * header.block_size) is

have_bytes : (header : Header) → wrong_field header ≡ None → 0 < header.block_size
unfolding wrong_field is_block_size
have_bytes header none = grind (arith, nat_tests)

pub some_bytes : (header : Header) → IsSoundHeader header → 0 < header.block_size
some_bytes header sound = have_bytes header sound.right

-- the pieces are the fork's
pub found_placed : (header : Header) (records : List OverflowRecord) (fork : Fork) (place : ℕ) (extents : List Extent) (pieces : List Piece) → IsSoundHeader header → None ≡ fork_fault header records fork place
    → extents ≡ extents_with records fork → pieces ≡ pieces_of header fork.logical_size extents → ArePiecesAt (byte_place header (extents_with records fork)) fork.logical_size pieces
found_placed header records fork place extents pieces sound none all is =
    let P : List Piece → Type 0 = λ list. ArePiecesAt (byte_place header (extents_with records fork)) fork.logical_size list in
    subst P (sym (is ∙ ap (pieces_of header fork.logical_size) all)) (fork_law header records fork place (some_bytes header sound) (sym none))

pub found_covered : (header : Header) (records : List OverflowRecord) (fork : Fork) (pieces : List Piece) → ArePiecesAt (byte_place header (extents_with records fork)) fork.logical_size pieces → AreInARow 0 fork.logical_size pieces
found_covered header records fork pieces are = covered_row 0 fork.logical_size pieces are.covered
