-- One step of a walk over the pointers: the pieces and the slack of the blocks that were passed are laid.
use Rattle.std.specs.Prelude.{◌≡◌, ◌⊎◌, ℕ, suc, ◌+◌, ◌-◌, ◌*◌, ◌/◌, ◌%◌, ◌<◌, ◌≤◌, min, ℤ, pos, Bool, true, false, nat_le, nat_lt, Some, if◌then◌else◌, Result, Ok, List, [], ◌++◌, refl}
use Rattle.std.specs.Int.{div_ceil}
use Rattle.std.proofs.Common.{ap, sym, ◌∙◌, subst, arith, ⊎_elim}
use Rattle.std.proofs.Math.Nat.{mul-le-mul_right}
use Rattle.std.proofs.lemmas.Grind.{div_ceil_times}
use Rattle.std.proofs.lemmas.Nat.{div-mul-add, mod-mul-add, div_below, le-div}
use Rattle.range_defs.specs.declared.Range.{Range}
use Rattle.std.proofs.lemmas.Bool.{lt-leb, le-leb, le-ltb, cases_lt}
use Rattle.ufs_inode_defs.specs.Stream.{content_len}
use Rattle.image_defs.specs.Ask.{Done, result_of}
use Rattle.image_defs.proofs.Looks.{check_gives}
use Rattle.piece_defs.specs.Places.{ArePiecesAt}
use Rattle.piece_defs.proofs.Put.{put_law}
use Rattle.fault_defs.specs.declared.Refusal.{Refusal}
use Rattle.fault_defs.specs.declared.Refusal.TheVariants.{Limit}
use Rattle.fault_defs.specs.declared.Bound.TheVariants.{Runs}
use Rattle.ufs_inode_defs.specs.Layout.{pointer_len}
use Rattle.ufs_inode_defs.specs.Superblock.{block_size, fragment_size}
use Rattle.ufs_inode_defs.specs.Stream.{Stream, span, block_count, allocated_len}
use Rattle.ufs_inode_defs.specs.Blocks.{Laid, behind, runs_of, most_runs, with_hole, with_block, counted_runs, fragment_place}
use Rattle.ufs_inode_defs.specs.BlockPlace.{behind_place, behind_last, slack_of, mapped_pointer, block_pointer, led_place, byte_place}
use Rattle.ufs_inode_defs.specs.declared.superblock.Super.{Super}

-- a block of the content begins in it
pub block_begins : (size unit block : ℕ) → 0 < unit → block < div_ceil size unit → block * unit < size
block_begins size unit block some below =
    let next : suc block * unit ≤ div_ceil size unit * unit = mul-le-mul_right unit below in
    omega (arith, next, (div_ceil_times size unit some).1)

-- behind the blocks of the content there is nothing of it
pub blocks_hold : (size unit block : ℕ) → 0 < unit → div_ceil size unit ≤ block → size ≤ block * unit
blocks_hold size unit block some past =
    let whole : div_ceil size unit * unit ≤ block * unit = mul-le-mul_right unit past in
    omega (arith, whole, (div_ceil_times size unit some).0)

-- what a superblock in which nothing is wrong says of blocks of pointers
pub record HasPointers (sup : Super) : Type 0 where
  pub some_bytes : 0 < block_size sup
  pub some_pointers : 0 < sup.nindir
  pub whole : sup.nindir * pointer_len sup.version ≤ block_size sup
  pub full : div_ceil (block_size sup) (fragment_size sup) * fragment_size sup ≡ block_size sup

-- the slack of the blocks that were passed: that of the stream, where all were
abbrev pub slack_upto : List ℕ → Super → Stream → ℕ → List Range
slack_upto image sup stream block = if nat_le (block_count sup stream.size) block then slack_of image sup stream else []

-- the pieces and the slack of the blocks that were passed are laid
abbrev pub IsLaid : List ℕ → Super → Stream → Laid → Type 0
IsLaid image sup stream laid = ArePiecesAt (byte_place image sup stream) (min (laid.block * block_size sup) stream.size) laid.pieces × (laid.slack ≡ slack_upto image sup stream laid.block)

-- blocks from one on are those that a pointer maps
abbrev pub AreMapped : ℕ → List ℕ → Super → Stream → ℕ → ℤ → Type 0
AreMapped level image sup stream first value =
    (number : ℕ) → number < span sup level → block_pointer image sup stream (first + number) ≡ mapped_pointer level image sup value number

-- a walk has come to a block, or to the end
abbrev pub HasCome : Super → Stream → ℕ → Laid → Type 0
HasCome sup stream block laid = (laid.block ≡ block) ⊎ (block_count sup stream.size ≤ laid.block)

-- a walk has passed the blocks in front of one
pub record HasPassed (image : List ℕ) (sup : Super) (stream : Stream) (block : ℕ) (laid : Laid) : Type 0 where
  pub placed : IsLaid image sup stream laid
  pub come : HasCome sup stream block laid

pub same_value : (a b : Laid) → (let first : Result Laid Refusal = Ok a in let second : Result Laid Refusal = Ok b in first ≡ second) → a ≡ b
same_value a b same = cc

pub counted_gives : (image : List ℕ) (laid after : Laid) → result_of image (counted_runs laid) ≡ Ok after → laid ≡ after
counted_gives image laid after gives = same_value laid after (check_gives image (nat_le (runs_of laid) most_runs) (Limit Runs most_runs) (λ x. Done laid) after gives).1

pub passed_of : (image : List ℕ) (sup : Super) (stream : Stream) (block : ℕ) (laid after : Laid) → laid ≡ after → HasPassed image sup stream block laid → HasPassed image sup stream block after
passed_of image sup stream block laid after same passed = let P : Laid → Type 0 = λ l. HasPassed image sup stream block l in subst P same passed

-- ---- one step

-- a hole of some blocks
hole_pieces : (image : List ℕ) (sup : Super) (stream : Stream) (laid : Laid) (blocks : ℕ) → 0 < block_size sup → 0 < blocks → laid.block < block_count sup stream.size → ArePiecesAt (byte_place image sup stream) (min (laid.block * block_size sup) stream.size) laid.pieces
    → ((number : ℕ) → number < blocks → block_pointer image sup stream (laid.block + number) ≡ pos 0) → ArePiecesAt (byte_place image sup stream) (min ((laid.block + blocks) * block_size sup) stream.size) (with_hole sup stream.size blocks laid).pieces
unfolding byte_place
hole_pieces image sup stream laid blocks some more below before holes =
    let unit : ℕ = block_size sup in
    let begins : laid.block * unit < stream.size = block_begins stream.size unit laid.block some below in
    let one : 1 * unit ≤ blocks * unit = mul-le-mul_right unit more in
    let behind : (laid.block + blocks) * unit ≡ laid.block * unit + blocks * unit = omega arith in
    let P : ℕ → Type 0 = λ end. ArePiecesAt (byte_place image sup stream) end (with_hole sup stream.size blocks laid).pieces in
    subst P (omega (arith, begins, behind))
    (put_law (byte_place image sup stream) (min (laid.block * unit) stream.size) laid.pieces _ before (omega (arith, begins)) (omega (arith, begins, one, some))
    (record {
      plain = refl;
      bytes = λ byte from to.
          let low : laid.block ≤ byte / unit = le-div laid.block byte unit some from in
          let high : byte / unit < laid.block + blocks = div_below byte unit (laid.block + blocks) some (omega (arith, to, behind)) in
          let is : laid.block + (byte / unit - laid.block) ≡ byte / unit = omega (arith, low) in
          ap (λ value. led_place sup value (byte % unit)) (ap (λ block. block_pointer image sup stream block) (sym is) ∙ holes (byte / unit - laid.block) (omega (arith, low, high)));
    }))

-- a block at a fragment
block_pieces : (image : List ℕ) (sup : Super) (stream : Stream) (laid : Laid) (fragment : ℕ) → 0 < block_size sup → laid.block < block_count sup stream.size → ArePiecesAt (byte_place image sup stream) (min (laid.block * block_size sup) stream.size) laid.pieces
    → block_pointer image sup stream laid.block ≡ pos (suc fragment) → ArePiecesAt (byte_place image sup stream) (min ((laid.block + 1) * block_size sup) stream.size) (with_block sup stream.size (fragment_place sup (suc fragment)) laid).pieces
unfolding byte_place
block_pieces image sup stream laid fragment some below before is =
    let unit : ℕ = block_size sup in
    let begins : laid.block * unit < stream.size = block_begins stream.size unit laid.block some below in
    let behind : (laid.block + 1) * unit ≡ laid.block * unit + unit = omega arith in
    let P : ℕ → Type 0 = λ end. ArePiecesAt (byte_place image sup stream) end (with_block sup stream.size (fragment_place sup (suc fragment)) laid).pieces in
    subst P (omega (arith, begins, behind))
    (put_law (byte_place image sup stream) (min (laid.block * unit) stream.size) laid.pieces _ before (omega (arith, begins)) (omega (arith, begins, some))
    (record {
      plain = tt;
      bytes = λ byte from to.
          let rest : ℕ = byte - laid.block * unit in
          let whole : laid.block * unit + rest ≡ byte = omega (arith, from) in
          let short : rest < unit = omega (arith, to) in
          let number : byte / unit ≡ laid.block = ap (λ n. n / unit) (sym whole) ∙ div-mul-add laid.block unit rest short in
          let offset : byte % unit ≡ rest = ap (λ n. n % unit) (sym whole) ∙ mod-mul-add laid.block unit rest short in
          ap (λ block. led_place sup (block_pointer image sup stream block) (byte % unit)) number
          ∙ ap (λ value. led_place sup value (byte % unit)) is
          ∙ ap (λ n. led_place sup (pos (suc fragment)) n) offset;
    }))

-- ---- the slack

-- in front of the end there is none yet
no_slack : (image : List ℕ) (sup : Super) (stream : Stream) (block : ℕ) → block < block_count sup stream.size → slack_upto image sup stream block ≡ []
no_slack image sup stream block below = let is : nat_le (block_count sup stream.size) block ≡ false = lt-leb (block_count sup stream.size) block below in rw is refl

-- behind the end there is that of the last block
last_slack : (image : List ℕ) (sup : Super) (stream : Stream) (block last : ℕ) → block_count sup stream.size ≤ block → block_count sup stream.size ≡ suc last
    → slack_upto image sup stream block ≡ behind_place sup stream.size last (byte_place image sup stream (last * block_size sup))
unfolding slack_of
last_slack image sup stream block last past is =
    let all : nat_le (block_count sup stream.size) block ≡ true = le-leb (block_count sup stream.size) block past in
    rw all (ap (λ count. behind_last image sup stream count) is)

-- the place of the first byte of a block
first_place : (image : List ℕ) (sup : Super) (stream : Stream) (block : ℕ) (value : ℤ) → 0 < block_size sup → block_pointer image sup stream block ≡ value → byte_place image sup stream (block * block_size sup) ≡ led_place sup value 0
unfolding byte_place
first_place image sup stream block value some is =
    let unit : ℕ = block_size sup in
    let whole : block * unit + 0 ≡ block * unit = omega arith in
    let number : block * unit / unit ≡ block = ap (λ n. n / unit) (sym whole) ∙ div-mul-add block unit 0 some in
    let offset : block * unit % unit ≡ 0 = ap (λ n. n % unit) (sym whole) ∙ mod-mul-add block unit 0 some in
    ap (λ one. led_place sup (block_pointer image sup stream one) (block * unit % unit)) number
    ∙ ap (λ pointer. led_place sup pointer (block * unit % unit)) is
    ∙ ap (λ n. led_place sup value n) offset

-- a hole has none, also at the end
hole_slack : (image : List ℕ) (sup : Super) (stream : Stream) (block blocks : ℕ) → 0 < block_size sup → block < block_count sup stream.size
    → ((number : ℕ) → number < blocks → block_pointer image sup stream (block + number) ≡ pos 0) → slack_upto image sup stream (block + blocks) ≡ []
hole_slack image sup stream block blocks some below holes =
    ⊎_elim
    (λ ahead. no_slack image sup stream (block + blocks) ahead)
    (λ past.
    let last : ℕ = block_count sup stream.size - 1 in
    let count : block_count sup stream.size ≡ suc last = omega (arith, below) in
    let there : block + (last - block) ≡ last = omega (arith, below) in
    let hole : block_pointer image sup stream last ≡ pos 0 = ap (λ n. block_pointer image sup stream n) (sym there) ∙ holes (last - block) (omega (arith, below, past)) in
    last_slack image sup stream (block + blocks) last past count
    ∙ ap (λ place. behind_place sup stream.size last place) (first_place image sup stream last (pos 0) some hole))
    (cases_lt (block + blocks) (block_count sup stream.size))

-- a block in front of the last has all its bytes
whole_block : (sup : Super) (size block : ℕ) → HasPointers sup → block + 1 < block_count sup size → allocated_len sup size block ≡ content_len sup size block
whole_block sup size block has ahead =
    let unit : ℕ = block_size sup in
    let begins : (block + 1) * unit < size = block_begins size unit (block + 1) has.some_bytes ahead in
    let next : (block + 1) * unit ≡ block * unit + unit = omega arith in
    let full : content_len sup size block ≡ unit = omega (arith, begins, next) in
    either (nat_lt block 12) full
  where
    either : (direct : Bool) → content_len sup size block ≡ block_size sup
        → (if direct then div_ceil (content_len sup size block) (fragment_size sup) * fragment_size sup else block_size sup) ≡ content_len sup size block
    either true full = ap (λ len. div_ceil len (fragment_size sup) * fragment_size sup) full ∙ has.full ∙ sym full
    either false full = sym full

nothing_behind : (at len allocated : ℕ) → allocated ≡ len → behind at len allocated ≡ []
nothing_behind at len allocated same = let is : nat_lt len allocated ≡ false = le-ltb len allocated (omega (arith, same)) in rw is refl

block_slack : (image : List ℕ) (sup : Super) (stream : Stream) (laid : Laid) (fragment : ℕ) → HasPointers sup → laid.block < block_count sup stream.size → laid.slack ≡ slack_upto image sup stream laid.block
    → block_pointer image sup stream laid.block ≡ pos (suc fragment)
    → (with_block sup stream.size (fragment_place sup (suc fragment)) laid).slack ≡ slack_upto image sup stream (laid.block + 1)
block_slack image sup stream laid fragment has below before is =
    let at : ℕ = fragment_place sup (suc fragment) in
    let here : at + 0 ≡ at = omega arith in
    let own : List Range = behind at (content_len sup stream.size laid.block) (allocated_len sup stream.size laid.block) in
    ap (λ slack. slack ++ own) (before ∙ no_slack image sup stream laid.block below)
    ∙ ⊎_elim
    (λ ahead. nothing_behind at (content_len sup stream.size laid.block) (allocated_len sup stream.size laid.block) (whole_block sup stream.size laid.block has ahead) ∙ sym (no_slack image sup stream (laid.block + 1) ahead))
    (λ past.
    let count : block_count sup stream.size ≡ suc laid.block = omega (arith, below, past) in
    sym (last_slack image sup stream (laid.block + 1) laid.block past count
    ∙ ap (λ place. behind_place sup stream.size laid.block place) (first_place image sup stream laid.block (pos (suc fragment)) has.some_bytes is ∙ ap Some here)))
    (cases_lt (laid.block + 1) (block_count sup stream.size))

pub hole_laid : (image : List ℕ) (sup : Super) (stream : Stream) (laid : Laid) (blocks : ℕ) → 0 < block_size sup → 0 < blocks → laid.block < block_count sup stream.size → IsLaid image sup stream laid
    → ((number : ℕ) → number < blocks → block_pointer image sup stream (laid.block + number) ≡ pos 0) → IsLaid image sup stream (with_hole sup stream.size blocks laid)
hole_laid image sup stream laid blocks some more below before holes = (
  hole_pieces image sup stream laid blocks some more below before.0 holes,
  before.1 ∙ no_slack image sup stream laid.block below ∙ sym (hole_slack image sup stream laid.block blocks some below holes),
)

pub block_laid : (image : List ℕ) (sup : Super) (stream : Stream) (laid : Laid) (fragment : ℕ) → HasPointers sup → laid.block < block_count sup stream.size → IsLaid image sup stream laid
    → block_pointer image sup stream laid.block ≡ pos (suc fragment) → IsLaid image sup stream (with_block sup stream.size (fragment_place sup (suc fragment)) laid)
block_laid image sup stream laid fragment has below before is =
    (block_pieces image sup stream laid fragment has.some_bytes below before.0 is, block_slack image sup stream laid fragment has below before.1 is)
