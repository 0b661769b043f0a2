-- How far a walk over the pointers of a stream has come.
use Rattle.std.specs.Prelude.{◌≡◌, ◌⊎◌, ℕ, zero, suc, ◌+◌, ◌*◌, ◌<◌, ◌≤◌, ℤ, pos, negsuc, nat_le, Ok, List, [], ◌∷◌, drop, length, refl}
use Rattle.std.proofs.Common.{ap, subst, arith, ⊎_elim, inl, inr}
use Rattle.std.proofs.lemmas.Bool.{leb-true}
use Rattle.bytes_defs.specs.Bytes.{part}
use Rattle.image_defs.specs.Ask.{result_of, look, ◌>>=◌}
use Rattle.image_defs.specs.Through.{through}
use Rattle.image_defs.proofs.Looks.{bind_gives, check_gives}
use Rattle.fault_defs.specs.declared.Refusal.{Refusal}
use Rattle.fault_defs.specs.declared.Refusal.TheVariants.{Damaged}
use Rattle.fault_defs.specs.declared.Sort.TheVariants.{BlockPointer}
use Rattle.ufs_inode_defs.specs.Layout.{layout_of, pointer_len}
use Rattle.ufs_inode_defs.specs.Numbers.{signed_row}
use Rattle.ufs_inode_defs.specs.Superblock.{block_size}
use Rattle.ufs_inode_defs.specs.Stream.{Pointer, Stream, pointers_from, span, block_count, allocated_len}
use Rattle.ufs_inode_defs.specs.Blocks.{Laid, with_hole, with_block, with_visit, counted_runs, fragment_place, lies_within, led, mapped_blocks}
use Rattle.ufs_inode_defs.specs.declared.superblock.Super.{Super}
use Rattle.ufs_inode_defs.proofs.BlockSteps.{counted_gives}
use Rattle.ufs_inode_defs.proofs.BlockLaw.{past_or}
use Rattle.ufs_damage_defs.specs.StreamDamage.{IsUsed}
use Rattle.ufs_damage_defs.proofs.Walks.{same_value}

-- ---- how far a walk has come

-- a walk has come to a block, or has passed the last one in front of it
pub record HasComeTo (sup : Super) (size block : ℕ) (laid : Laid) : Type 0 where
  pub fits : laid.block ≤ block
  pub come : (laid.block ≡ block) ⊎ (block_count sup size ≤ laid.block)

-- in front of the end, it has come to the block
pub there : (sup : Super) (size block : ℕ) (laid : Laid) → HasComeTo sup size block laid → laid.block < block_count sup size → laid.block ≡ block
there sup size block laid has below = ⊎_elim (λ is. is) (λ past. absurd (omega (arith, past, below))) has.come

pub here : (sup : Super) (size block : ℕ) (laid : Laid) → HasComeTo sup size block laid → block < block_count sup size → laid.block ≡ block
here sup size block laid has below = ⊎_elim (λ is. is) (λ past. absurd (omega (arith, past, below, has.fits))) has.come

abbrev pub Moves : ℕ → List ℕ → Super → ℕ → Type 0
Moves level image sup size =
    (laid after : Laid) (pointer : Pointer) → result_of image (mapped_blocks level sup size laid pointer) ≡ Ok after → HasComeTo sup size (laid.block + span sup level) after

-- one more step
pub moves_on : (sup : Super) (size block count : ℕ) (laid after : Laid) → HasComeTo sup size block laid → HasComeTo sup size (laid.block + count) after → HasComeTo sup size (block + count) after
moves_on sup size block count laid after was is = record {
  fits = let a = was.fits in let b = is.fits in omega arith;
  come =
      ⊎_elim
      (λ on. ⊎_elim (λ at. inl (omega (arith, on, at))) (λ past. inr (omega (arith, on, past))) was.come)
      (λ past. inr past)
      is.come;
}

pub children_move : (level : ℕ) (image : List ℕ) (sup : Super) (size : ℕ) → Moves level image sup size → (pointers : List Pointer) (block : ℕ) (laid after : Laid) → HasComeTo sup size block laid
    → result_of image (through (mapped_blocks level sup size) laid pointers) ≡ Ok after → HasComeTo sup size (block + length pointers * span sup level) after
children_move level image sup size moves [] block laid after has gives =
    let none : block ≡ block + 0 * span sup level = omega arith in
    let P : Laid → Type 0 = λ l. HasComeTo sup size (block + 0 * span sup level) l in
    let Q : ℕ → Type 0 = λ n. HasComeTo sup size n laid in
    subst P (same_value {E = Refusal} laid after gives) (subst Q none has)
children_move level image sup size moves (pointer ∷ pointers) block laid after has gives =
    let step = bind_gives image (mapped_blocks level sup size laid pointer) (λ next. through (mapped_blocks level sup size) next pointers) after gives in
    let next : block + span sup level + length pointers * span sup level ≡ block + suc (length pointers) * span sup level = omega arith in
    let Q : ℕ → Type 0 = λ n. HasComeTo sup size n after in
    subst Q next
    (children_move level image sup size moves pointers (block + span sup level) step.0 after
    (moves_on sup size block (span sup level) laid step.0 has (moves laid step.0 pointer step.1)) step.2)

row-length : (sup : Super) (more at : ℕ) (bytes : List ℕ) → length (pointers_from at (pointer_len sup.version) (signed_row sup.order (layout_of sup.version).pointer more bytes)) ≡ more
row-length sup zero at bytes = refl
row-length sup (suc more) at bytes = ap suc (row-length sup more (at + pointer_len sup.version) (drop (pointer_len sup.version) bytes))

pub same_block : (sup : Super) (size block : ℕ) (laid after : Laid) → laid ≡ after → HasComeTo sup size block laid → HasComeTo sup size block after
same_block sup size block laid after same has = let P : Laid → Type 0 = λ l. HasComeTo sup size block l in subst P same has

pub moves_by : (level : ℕ) (image : List ℕ) (sup : Super) (size : ℕ) → Moves level image sup size
unfolding mapped_blocks
moves_by zero image sup size = λ laid after pointer gives.
    ⊎_elim
    (λ past. same_block sup size (laid.block + 1) laid after past.1 (record { fits = omega arith; come = inr (leb-true (block_count sup size) laid.block past.0) }))
    (λ inside. by_value laid after pointer.at pointer.value inside.1)
    (past_or image (nat_le (block_count sup size) laid.block) laid after _ gives)
  where
    by_value : (laid after : Laid) (at : ℕ) (value : ℤ)
        → result_of image (led sup (record { at = at; value = value }) (allocated_len sup size laid.block) (counted_runs (with_hole sup size 1 laid)) (λ place. counted_runs (with_block sup size place laid))) ≡ Ok after
        → HasComeTo sup size (laid.block + 1) after
    by_value laid after at (pos zero) gives = same_block sup size (laid.block + 1) _ after (counted_gives image (with_hole sup size 1 laid) after gives) (record { fits = omega arith; come = inl refl })
    by_value laid after at (pos (suc fragment)) gives =
        let led_there = check_gives image (lies_within sup (suc fragment) (allocated_len sup size laid.block)) (Damaged BlockPointer at) (λ x. counted_runs (with_block sup size (fragment_place sup (suc fragment)) laid)) after gives in
        same_block sup size (laid.block + 1) _ after (counted_gives image (with_block sup size (fragment_place sup (suc fragment)) laid) after led_there.1) (record { fits = omega arith; come = inl refl })
    by_value laid after at (negsuc n) gives = absurd cc
moves_by (suc level) image sup size = λ laid after pointer gives.
    ⊎_elim
    (λ past. same_block sup size (laid.block + span sup (suc level)) laid after past.1 (record { fits = omega arith; come = inr (leb-true (block_count sup size) laid.block past.0) }))
    (λ inside. by_value (moves_by level image sup size) laid after pointer.at pointer.value inside.1)
    (past_or image (nat_le (block_count sup size) laid.block) laid after _ gives)
  where
    by_value : Moves level image sup size → (laid after : Laid) (at : ℕ) (value : ℤ)
        → result_of image (led sup (record { at = at; value = value }) (block_size sup) (counted_runs (with_hole sup size (span sup (suc level)) laid))
        (λ place. counted_runs (with_visit laid) >>= (λ visited. look place (block_size sup) >>= (λ bytes. through (mapped_blocks level sup size) visited (pointers_from place (pointer_len sup.version) (signed_row sup.order (layout_of sup.version).pointer sup.nindir bytes)))))) ≡ Ok after
        → HasComeTo sup size (laid.block + span sup (suc level)) after
    by_value moves laid after at (pos zero) gives =
        same_block sup size (laid.block + span sup (suc level)) _ after (counted_gives image (with_hole sup size (span sup (suc level)) laid) after gives) (record { fits = omega arith; come = inl refl })
    by_value moves laid after at (pos (suc fragment)) gives =
        let place : ℕ = fragment_place sup (suc fragment) in
        let led_there = check_gives image (lies_within sup (suc fragment) (block_size sup)) (Damaged BlockPointer at) _ after gives in
        let visited = bind_gives image (counted_runs (with_visit laid)) _ after led_there.1 in
        let bytes : List ℕ = part image place (block_size sup) in
        let pointers : List Pointer = pointers_from place (pointer_len sup.version) (signed_row sup.order (layout_of sup.version).pointer sup.nindir bytes) in
        let start : HasComeTo sup size laid.block visited.0 =
        same_block sup size laid.block (with_visit laid) visited.0 (counted_gives image (with_visit laid) visited.0 visited.1) (record { fits = omega arith; come = inl refl }) in
        let Q : ℕ → Type 0 = λ n. HasComeTo sup size (laid.block + n * span sup level) after in
        subst Q (row-length sup sup.nindir place bytes)
        (children_move level image sup size moves pointers laid.block visited.0 after start visited.2)
    by_value moves laid after at (negsuc n) gives = absurd cc

-- the pointer to which a walk comes is used, if it maps a block in front of the end
abbrev pub IsNext : ℕ → List ℕ → Super → Stream → Laid → Pointer → Type 0
IsNext level image sup stream laid pointer = laid.block < block_count sup stream.size → IsUsed image sup stream level laid.block pointer
