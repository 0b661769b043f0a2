-- What holds of a walk that is under way holds after each of its steps.
use Rattle.std.specs.Prelude.{◌≡◌, ℕ, zero, suc, ◌+◌, ◌-◌, ◌*◌, ◌<◌, ◌≤◌, min, ℤ, pos, negsuc, Bool, true, false, nat_lt, if◌then◌else◌, Option, Some, None, Result, Ok, Err, List, [], ◌∷◌, ◌++◌, refl}
use Rattle.std.specs.Int.{div_ceil}
use Rattle.std.proofs.Common.{arith, ap, sym, ◌∙◌, subst, ⊎_elim}
use Rattle.std.proofs.lemmas.Bool.{cases_lt, le-ltb, ltb-true}
use Rattle.std.proofs.lemmas.Grind.{div_ceil_times}
use Rattle.std.proofs.lemmas.List.Elements.{All-cons, All-nil, All-append}
use Rattle.std.proofs.Math.Nat.{mul-le-mul_right}
use Rattle.range_defs.specs.declared.Range.{Range}
use Rattle.range_defs.specs.Places.{IsRangeList}
use Rattle.image_defs.specs.Ask.{Ask, Stop, check, ◌>>◌}
use Rattle.piece_defs.specs.Covering.{covers_from}
use Rattle.piece_defs.specs.Places.{place_in}
use Rattle.piece_defs.specs.Put.{put}
use Rattle.rx_ranges.specs.declared.pieces.Piece.{Piece}
use Rattle.rx_ranges.specs.declared.pieces.PieceKind.TheVariants.{Disk}
use Rattle.rx_tree.specs.Within.{AreRangesWithin}
use Rattle.rx_store.specs.declared.read_fault.ReadFault.{ReadFault}
use Rattle.fault_defs.specs.declared.Refusal.{Refusal}
use Rattle.fault_defs.specs.declared.Refusal.TheVariants as refusal
use Rattle.fault_defs.specs.declared.Sort.TheVariants.{BlockPointer}
use Rattle.ufs_inode_defs.specs.Superblock.{wrong_field, block_size, fragment_size}
use Rattle.ufs_inode_defs.specs.Stream.{Pointer, block_count, content_len, allocated_len}
use Rattle.ufs_inode_defs.specs.Blocks.{Laid, behind, runs_of, most_runs, with_hole, with_block, led, lies_within, fragment_place}
use Rattle.ufs_inode_defs.specs.declared.superblock.Super.{Super}
use Rattle.ufs_inode_defs.proofs.BlockSteps.{block_begins}
use Rattle.ufs_inode_defs.proofs.SoundSuper.{is_sound, has_pointers}
use Rattle.ufs_blocks.specs.Placed.{DoBlocksLieWithin}
use Rattle.ufs_blocks.specs.UnderWay.{IsUnderWay, Settles, led_to}
use Rattle.ufs_super.proofs.SizeLaws.{block_bounds, fragment_bounds}
use Rattle.piece_reads.proofs.Putting.{put_covers, put_within, put_plain, put_through}

only_multiple : (index block unit : ℕ) → block * unit ≤ index * unit → index * unit < (block + 1) * unit → index ≡ block
only_multiple index block unit from below =
    ⊎_elim
    (λ less. absurd (let over : suc index * unit ≤ block * unit = mul-le-mul_right unit less in omega (arith, over, from, below)))
    (λ least. ⊎_elim (λ more. absurd (let over : suc block * unit ≤ index * unit = mul-le-mul_right unit more in omega (arith, over, below))) (λ most. omega (arith, least, most)) (cases_lt block index))
    (cases_lt index block)

module _ (sup : Super) (size : ℕ) (laid : Laid) (sound : wrong_field sup ≡ None) (way : IsUnderWay sup size laid) (inside : laid.block < block_count sup size) where
  pub begins : laid.block * block_size sup < size
  begins = block_begins size (block_size sup) laid.block (let some = (block_bounds sup sound).0 in omega (arith, some)) inside

  pub so_far : (from : ℕ) (pieces : List Piece) → from ≡ laid.block * block_size sup → pieces ≡ laid.pieces → covers_from 0 from pieces ≡ true
  so_far from pieces at same = ap (λ list. covers_from 0 from list) same ∙ ap (λ end. covers_from 0 end laid.pieces) (omega (arith, at, begins)) ∙ way.covered

  -- the blocks that are passed lie in the volume, and so do those of one more piece
  more_blocks : (piece : Piece) → piece.from ≡ min (laid.block * block_size sup) size
      → ((index at : ℕ) → (piece.from ≤ index * block_size sup) × (index * block_size sup < piece.from + piece.len) × (place_in piece (index * block_size sup) ≡ Some at) → at + content_len sup size index ≤ sup.at + sup.len)
      → DoBlocksLieWithin sup size (put laid.pieces piece)
  more_blocks piece behind new = record {
    lies = λ index at is.
        let C : ℕ → Type 0 = λ end. covers_from 0 end laid.pieces ≡ true in
        ⊎_elim (λ before. way.blocks_lie_within.lies index at before) (λ here. new index at here) (put_through laid.pieces piece (index * block_size sup) at (subst C (sym behind) way.covered) is);
  }

  pub hole_way : (blocks : ℕ) → 0 < blocks → runs_of (with_hole sup size blocks laid) ≤ most_runs → IsUnderWay sup size (with_hole sup size blocks laid)
  hole_way blocks more few =
      let unit : ℕ = block_size sup in
      let some : 4096 ≤ unit = (block_bounds sup sound).0 in
      let from : laid.block * unit < size = begins in
      let one : 1 * unit ≤ blocks * unit = mul-le-mul_right unit more in
      let behind : (laid.block + blocks) * unit ≡ laid.block * unit + blocks * unit = omega arith in
      let P : ℕ → Type 0 = λ end. covers_from 0 end (with_hole sup size blocks laid).pieces ≡ true in
      record {
        few = few;
        covered = subst P (omega (arith, from, behind)) (put_covers (min (laid.block * unit) size) laid.pieces _ way.covered (omega (arith, from)) (omega (arith, from, one, some)));
        plain = put_plain laid.pieces _ way.plain refl;
        within = put_within (sup.at + sup.len) laid.pieces _ way.within tt;
        blocks_lie_within = more_blocks _ (omega (arith, from)) (λ index at here. absurd cc);
        slack_within = way.slack_within;
        ended = λ ahead. way.ended inside;
        kept = way.kept;
      }

  content_fits : content_len sup size laid.block ≤ allocated_len sup size laid.block
  content_fits = by_test (nat_lt laid.block 12)
    where
      by_test : (direct : Bool) → content_len sup size laid.block ≤ (if direct then div_ceil (content_len sup size laid.block) (fragment_size sup) * fragment_size sup else block_size sup)
      by_test true = (div_ceil_times (content_len sup size laid.block) (fragment_size sup) (let some = (fragment_bounds sup sound).0 in omega (arith, some))).0
      by_test false = omega arith

  -- a piece of one block has the begin of no other
  one_block : (index at place : ℕ) → at + allocated_len sup size laid.block ≤ sup.at + sup.len
      → (let piece : Piece = record { from = laid.block * block_size sup; len = content_len sup size laid.block; kind = Disk; at = at } in
      (piece.from ≤ index * block_size sup) × (index * block_size sup < piece.from + piece.len) × (place_in piece (index * block_size sup) ≡ Some place))
      → place + content_len sup size index ≤ sup.at + sup.len
  one_block index at place stands here =
      let on : (laid.block + 1) * block_size sup ≡ laid.block * block_size sup + block_size sup = omega arith in
      let same : index ≡ laid.block = only_multiple index laid.block (block_size sup) here.0 (omega (arith, here.1, on)) in
      let first : at + (index * block_size sup - laid.block * block_size sup) ≡ place = cc in
      let L : ℕ → Type 0 = λ block. place + content_len sup size block ≤ sup.at + sup.len in
      let none : index * block_size sup ≡ laid.block * block_size sup = ap (λ block. block * block_size sup) same in
      subst L (sym same) (let fits = content_fits in omega (arith, fits, stands, first, none))

  slack_of_block : (end at len allocated : ℕ) → at + allocated ≤ end → AreRangesWithin end (behind at len allocated)
  slack_of_block end at len allocated fits = by_test (nat_lt len allocated) refl
    where
      by_test : (more : Bool) → nat_lt len allocated ≡ more → AreRangesWithin end (if more then record { at = at + len; len = allocated - len } ∷ [] else [])
      by_test true is = All-cons (λ (range : Range). range.at + range.len ≤ end) (record { at = at + len; len = allocated - len }) [] (let more : len < allocated = ltb-true len allocated is in omega (arith, more, fits)) (All-nil (λ (range : Range). range.at + range.len ≤ end))
      by_test false is = All-nil (λ (range : Range). range.at + range.len ≤ end)

  -- a block in front of the last has all its bytes
  whole_block : laid.block + 1 < block_count sup size → allocated_len sup size laid.block ≡ content_len sup size laid.block
  whole_block ahead =
      let unit : ℕ = block_size sup in
      let has = has_pointers sup (is_sound sup sound) in
      let next : (laid.block + 1) * unit < size = block_begins size unit (laid.block + 1) has.some_bytes ahead in
      let on : (laid.block + 1) * unit ≡ laid.block * unit + unit = omega arith in
      let full : content_len sup size laid.block ≡ unit = omega (arith, next, on) in
      by_test (nat_lt laid.block 12) full has.full
    where
      by_test : (direct : Bool) → content_len sup size laid.block ≡ block_size sup → div_ceil (block_size sup) (fragment_size sup) * fragment_size sup ≡ block_size sup
          → (if direct then div_ceil (content_len sup size laid.block) (fragment_size sup) * fragment_size sup else block_size sup) ≡ content_len sup size laid.block
      by_test true full whole = ap (λ len. div_ceil len (fragment_size sup) * fragment_size sup) full ∙ whole ∙ sym full
      by_test false full whole = sym full

  nothing_behind : (at len allocated : ℕ) → allocated ≡ len → behind at len allocated ≡ []
  nothing_behind at len allocated same = let is : nat_lt len allocated ≡ false = le-ltb len allocated (omega (arith, same)) in rw is refl

  one_range : (at len allocated : ℕ) → IsRangeList (behind at len allocated)
  one_range at len allocated = by_test (nat_lt len allocated) refl
    where
      by_test : (more : Bool) → nat_lt len allocated ≡ more → IsRangeList (if more then record { at = at + len; len = allocated - len } ∷ [] else [])
      by_test true is = (let more : len < allocated = ltb-true len allocated is in omega (arith, more), tt, tt)
      by_test false is = tt

  pub block_way : (at : ℕ) → at + allocated_len sup size laid.block ≤ sup.at + sup.len → runs_of (with_block sup size at laid) ≤ most_runs → IsUnderWay sup size (with_block sup size at laid)
  block_way at stands few =
      let unit : ℕ = block_size sup in
      let some : 4096 ≤ unit = (block_bounds sup sound).0 in
      let from : laid.block * unit < size = begins in
      let on : (laid.block + 1) * unit ≡ laid.block * unit + unit = omega arith in
      let P : ℕ → Type 0 = λ end. covers_from 0 end (with_block sup size at laid).pieces ≡ true in
      record {
        few = few;
        covered = subst P (omega (arith, from, on)) (put_covers (min (laid.block * unit) size) laid.pieces _ way.covered (omega (arith, from)) (omega (arith, from, some)));
        plain = put_plain laid.pieces _ way.plain tt;
        within = put_within (sup.at + sup.len) laid.pieces _ way.within (let fits = content_fits in omega (arith, fits, stands));
        blocks_lie_within = more_blocks _ (omega (arith, from)) (λ index place here. one_block index at place stands here);
        slack_within = All-append (λ (range : Range). range.at + range.len ≤ sup.at + sup.len) laid.slack _ way.slack_within (slack_of_block (sup.at + sup.len) at (content_len sup size laid.block) (allocated_len sup size laid.block) stands);
        ended = λ ahead. ap (λ slack. slack ++ behind at (content_len sup size laid.block) (allocated_len sup size laid.block)) (way.ended inside) ∙ nothing_behind at (content_len sup size laid.block) (allocated_len sup size laid.block) (whole_block ahead);
        kept = subst IsRangeList (sym (ap (λ slack. slack ++ behind at (content_len sup size laid.block) (allocated_len sup size laid.block)) (way.ended inside))) (one_range at (content_len sup size laid.block) (allocated_len sup size laid.block));
      }

-- ---- what a step says of its program

pub settles_as : {X : Type 0} (result : Result X ReadFault) (program other : Ask Refusal X) → program ≡ other → Settles result other → Settles result program
settles_as result program other same settles = let P : Ask Refusal _ → Type 0 = λ ask. Settles result ask in subst P (sym same) settles

-- where a pointer leads
module _ (sup : Super) (pointer : Pointer) (len : ℕ) (hole : Ask Refusal Laid) (there : ℕ → Ask Refusal Laid) where
  pub is_led : (at : ℕ) (value : ℤ) → (let here : Pointer = record { at = at; value = value } in
      (led_to sup here len ≡ Ok None → led sup here len hole there ≡ hole)
      × ((place : ℕ) → led_to sup here len ≡ Ok (Some place) → led sup here len hole there ≡ there place)
      × ((e : Refusal) → led_to sup here len ≡ Err e → led sup here len hole there ≡ Stop e))
  is_led at (pos zero) = (λ is. refl, λ place is. absurd cc, λ e is. absurd cc)
  is_led at (negsuc n) = (λ is. absurd cc, λ place is. absurd cc, λ e is. cc)
  is_led at (pos (suc before)) = by_test (lies_within sup (suc before) len)
    where
      by_test : (lies : Bool) → (let found : Result (Option ℕ) Refusal = if lies then Ok (Some (fragment_place sup (suc before))) else Err (refusal.Damaged BlockPointer at) in
          let program : Ask Refusal Laid = check lies (refusal.Damaged BlockPointer at) >> there (fragment_place sup (suc before)) in
          (found ≡ Ok None → program ≡ hole) × ((place : ℕ) → found ≡ Ok (Some place) → program ≡ there place) × ((e : Refusal) → found ≡ Err e → program ≡ Stop e))
      by_test true = (λ is. absurd cc, λ place is. ap there (let same : fragment_place sup (suc before) ≡ place = cc in same), λ e is. absurd cc)
      by_test false = (λ is. absurd cc, λ place is. absurd cc, λ e is. cc)
