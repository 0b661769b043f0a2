-- A walk over the pointers of a stream that ends has visited each that is used, and none of them leads out.
use Rattle.std.specs.Prelude.{◌≡◌, ℕ, zero, suc, ◌+◌, ◌*◌, ◌<◌, ◌≤◌, ℤ, pos, negsuc, Bool, true, false, nat_le, if◌then◌else◌, Ok, List, [], ◌∷◌, drop, length, refl}
use Rattle.std.proofs.Common.{ap, sym, ◌∙◌, subst, arith, inl}
use Rattle.std.proofs.lemmas.Bool.{leb-true}
use Rattle.bytes_defs.specs.Bytes.{part}
use Rattle.bytes_defs.specs.Numbers.{signed_at}
use Rattle.image_defs.specs.Ask.{Ask, Done, result_of}
use Rattle.image_defs.specs.Through.{through}
use Rattle.image_defs.proofs.Looks.{bind_gives, check_gives}
use Rattle.fault_defs.specs.declared.Refusal.{Refusal}
use Rattle.fault_defs.specs.declared.Refusal.TheVariants.{Damaged}
use Rattle.fault_defs.specs.declared.Sort.TheVariants.{BlockPointer}
use Rattle.ufs_inode_defs.specs.Layout.{layout_of, pointer_len}
use Rattle.ufs_inode_defs.specs.Numbers.{signed_row}
use Rattle.ufs_inode_defs.specs.Superblock.{block_size}
use Rattle.ufs_inode_defs.specs.Stream.{Pointer, Stream, pointers_from, span, block_count, allocated_len}
use Rattle.ufs_inode_defs.specs.Blocks.{Laid, none_laid, with_visit, counted_runs, fragment_place, lies_within, mapped_blocks, rising_blocks, stream_blocks}
use Rattle.ufs_inode_defs.specs.BlockPlace.{pointer_at}
use Rattle.ufs_inode_defs.specs.declared.superblock.Super.{Super}
use Rattle.ufs_inode_defs.proofs.BlockSteps.{HasPointers, counted_gives}
use Rattle.ufs_inode_defs.proofs.BlockLaw.{IsRow, rows_of}
use Rattle.range_defs.specs.declared.Range.{Range}
use Rattle.range_defs.specs.Places.{covers}
use Rattle.image_defs.specs.Ask.{visits}
use Rattle.ufs_damage_defs.proofs.Seen.{IsWithin, within_first, within_next, within_check, within_behind, within_look}
use Rattle.ufs_damage_defs.specs.StreamDamage.{StandsAt, first_mapped, IsUsed, Direct, Rising, Below, LeadsOut, led_len, HasBadPointer}
use Rattle.ufs_damage_defs.proofs.Visits.{used_below}
use Rattle.ufs_damage_defs.proofs.StreamDamage.{HasComeTo, here, moves_on, moves_by, children_move, same_block}

module _ (image : List ℕ) (sup : Super) (stream : Stream) (has : HasPointers sup) where
  pub start : (runs : ℕ) → HasComeTo sup stream.size 0 (none_laid runs)
  start runs = record { fits = omega arith; come = inl refl }

  -- behind the direct pointers
  pub direct_passed : (runs : ℕ) (laid : Laid) → result_of image (through (mapped_blocks 0 sup stream.size) (none_laid runs) stream.direct) ≡ Ok laid → HasComeTo sup stream.size (first_mapped sup stream 0) laid
  direct_passed runs laid gives =
      let to : 0 + length stream.direct * 1 ≡ length stream.direct = omega arith in
      let Q : ℕ → Type 0 = λ block. HasComeTo sup stream.size block laid in
      subst Q to (children_move 0 image sup stream.size (moves_by 0 image sup stream.size) stream.direct 0 (none_laid runs) laid (start runs) gives)

  pub from_0 : (n : ℕ) → 0 + n ≡ n
  from_0 n = omega arith

  -- in front of the end a walk goes on
  goes_on : (past : Bool) (laid after : Laid) (more : Ask Refusal Laid) (block : ℕ) → laid.block ≡ block → block < block_count sup stream.size → nat_le (block_count sup stream.size) laid.block ≡ past
      → result_of image (if past then Done laid else more) ≡ Ok after → result_of image more ≡ Ok after
  goes_on true laid after more block at below is gives = absurd (omega (arith, at, below, leb-true (block_count sup stream.size) laid.block is))
  goes_on false laid after more block at below is gives = gives

  within_on : (ranges : List Range) (past : Bool) (laid : Laid) (more : Ask Refusal Laid) (block : ℕ) → laid.block ≡ block → block < block_count sup stream.size → nat_le (block_count sup stream.size) laid.block ≡ past
      → IsWithin image ranges (if past then Done laid else more) → IsWithin image ranges more
  within_on ranges true laid more block at below is within = absurd (omega (arith, at, below, leb-true (block_count sup stream.size) laid.block is))
  within_on ranges false laid more block at below is within = within

  module _ (ranges : List Range) where
    -- ---- what the walk passes

    -- the walk came to a pointer, and passed it
    record IsVisited (level first : ℕ) (pointer : Pointer) : Type 0 where
      laid : Laid
      after : Laid
      at : laid.block ≡ first
      gives : result_of image (mapped_blocks level sup stream.size laid pointer) ≡ Ok after
      within : IsWithin image ranges (mapped_blocks level sup stream.size laid pointer)

    direct_visits : (pointers : List Pointer) (number i : ℕ) (pointer : Pointer) (laid after : Laid) → HasComeTo sup stream.size number laid → StandsAt pointers i pointer → number + i < block_count sup stream.size
        → result_of image (through (mapped_blocks 0 sup stream.size) laid pointers) ≡ Ok after → IsWithin image ranges (through (mapped_blocks 0 sup stream.size) laid pointers) → IsVisited 0 (number + i) pointer
    direct_visits [] number i pointer laid after come stands below gives within = absurd stands
    direct_visits (first ∷ pointers) number zero pointer laid after come stands below gives within =
        let step = bind_gives image (mapped_blocks 0 sup stream.size laid first) (λ next. through (mapped_blocks 0 sup stream.size) next pointers) after gives in
        let P : Pointer → Type 0 = λ p. (result_of image (mapped_blocks 0 sup stream.size laid p) ≡ Ok step.0) × IsWithin image ranges (mapped_blocks 0 sup stream.size laid p) in
        let both = subst P stands (step.1, within_first image ranges (mapped_blocks 0 sup stream.size laid first) (λ next. through (mapped_blocks 0 sup stream.size) next pointers) step.0 step.1 within) in
        record { laid = laid; after = step.0; at = omega (arith, here sup stream.size number laid come (omega (arith, below))); gives = both.0; within = both.1 }
    direct_visits (first ∷ pointers) number (suc i) pointer laid after come stands below gives within =
        let step = bind_gives image (mapped_blocks 0 sup stream.size laid first) (λ next. through (mapped_blocks 0 sup stream.size) next pointers) after gives in
        let to : number + 1 ≡ suc number = omega arith in
        let Q : ℕ → Type 0 = λ block. HasComeTo sup stream.size block step.0 in
        let same : suc number + i ≡ number + suc i = omega arith in
        let R : ℕ → Type 0 = λ n. IsVisited 0 n pointer in
        subst R same
        (direct_visits pointers (suc number) i pointer step.0 after (subst Q to (moves_on sup stream.size number 1 laid step.0 come (moves_by 0 image sup stream.size laid step.0 first step.1))) stands (omega (arith, below)) step.2
        (within_next image ranges (mapped_blocks 0 sup stream.size laid first) (λ next. through (mapped_blocks 0 sup stream.size) next pointers) step.0 step.1 within))

    rising_visits : (pointers : List Pointer) (number i : ℕ) (pointer : Pointer) (laid after : Laid) → HasComeTo sup stream.size (first_mapped sup stream number) laid → StandsAt pointers i pointer
        → first_mapped sup stream (number + i) < block_count sup stream.size → result_of image (rising_blocks (suc number) sup stream.size laid pointers) ≡ Ok after
        → IsWithin image ranges (rising_blocks (suc number) sup stream.size laid pointers) → IsVisited (suc (number + i)) (first_mapped sup stream (number + i)) pointer
    rising_visits [] number i pointer laid after come stands below gives within = absurd stands
    rising_visits (first ∷ pointers) number zero pointer laid after come stands below gives within =
        let step = bind_gives image (mapped_blocks (suc number) sup stream.size laid first) (λ next. rising_blocks (suc (suc number)) sup stream.size next pointers) after gives in
        let P : Pointer → Type 0 = λ p. (result_of image (mapped_blocks (suc number) sup stream.size laid p) ≡ Ok step.0) × IsWithin image ranges (mapped_blocks (suc number) sup stream.size laid p) in
        let both = subst P stands (step.1, within_first image ranges (mapped_blocks (suc number) sup stream.size laid first) (λ next. rising_blocks (suc (suc number)) sup stream.size next pointers) step.0 step.1 within) in
        let same : number ≡ number + 0 = omega arith in
        let B : ℕ → Type 0 = λ n. first_mapped sup stream n < block_count sup stream.size in
        let R : ℕ → Type 0 = λ n. IsVisited (suc n) (first_mapped sup stream n) pointer in
        subst R same (record { laid = laid; after = step.0; at = here sup stream.size (first_mapped sup stream number) laid come (subst B (sym same) below); gives = both.0; within = both.1 })
    rising_visits (first ∷ pointers) number (suc i) pointer laid after come stands below gives within =
        let step = bind_gives image (mapped_blocks (suc number) sup stream.size laid first) (λ next. rising_blocks (suc (suc number)) sup stream.size next pointers) after gives in
        let same : suc number + i ≡ number + suc i = omega arith in
        let B : ℕ → Type 0 = λ n. first_mapped sup stream n < block_count sup stream.size in
        let R : ℕ → Type 0 = λ n. IsVisited (suc n) (first_mapped sup stream n) pointer in
        subst R same
        (rising_visits pointers (suc number) i pointer step.0 after
        (moves_on sup stream.size (first_mapped sup stream number) (span sup (suc number)) laid step.0 come (moves_by (suc number) image sup stream.size laid step.0 first step.1))
        stands (subst B (sym same) below) step.2
        (within_next image ranges (mapped_blocks (suc number) sup stream.size laid first) (λ next. rising_blocks (suc (suc number)) sup stream.size next pointers) step.0 step.1 within))

    children_visit : (level first fragment : ℕ) (more number index at : ℕ) (bytes : List ℕ) (laid after : Laid) → at ≡ fragment_place sup (suc fragment) + number * pointer_len sup.version
        → IsRow image sup (fragment_place sup (suc fragment)) more number bytes → HasComeTo sup stream.size (first + number * span sup level) laid → index < more
        → first + (number + index) * span sup level < block_count sup stream.size
        → result_of image (through (mapped_blocks level sup stream.size) laid (pointers_from at (pointer_len sup.version) (signed_row sup.order (layout_of sup.version).pointer more bytes))) ≡ Ok after
        → IsWithin image ranges (through (mapped_blocks level sup stream.size) laid (pointers_from at (pointer_len sup.version) (signed_row sup.order (layout_of sup.version).pointer more bytes)))
        → IsVisited level (first + (number + index) * span sup level)
        (record { at = fragment_place sup (suc fragment) + (number + index) * pointer_len sup.version; value = pointer_at image sup (fragment_place sup (suc fragment)) (number + index) })
    children_visit level first fragment zero number index at bytes laid after stands row come below inside gives within = absurd (omega (arith, below))
    children_visit level first fragment (suc more) number zero at bytes laid after stands row come below inside gives within =
        let place : ℕ = fragment_place sup (suc fragment) in
        let value : ℤ = signed_at sup.order (layout_of sup.version).pointer bytes 0 in
        let next : Laid → _ = λ (mid : Laid). through (mapped_blocks level sup stream.size) mid (pointers_from (at + pointer_len sup.version) (pointer_len sup.version) (signed_row sup.order (layout_of sup.version).pointer more (drop (pointer_len sup.version) bytes))) in
        let step = bind_gives image (mapped_blocks level sup stream.size laid (record { at = at; value = value })) next after gives in
        let same : number ≡ number + 0 = omega arith in
        let B : ℕ → Type 0 = λ n. first + n * span sup level < block_count sup stream.size in
        let A : ℕ → Type 0 = λ n. IsVisited level (first + number * span sup level) (record { at = n; value = value }) in
        let V : ℤ → Type 0 = λ v. IsVisited level (first + number * span sup level) (record { at = place + number * pointer_len sup.version; value = v }) in
        let N : ℕ → Type 0 = λ n. IsVisited level (first + n * span sup level) (record { at = place + n * pointer_len sup.version; value = pointer_at image sup place n }) in
        subst N same (subst V row.0 (subst A stands
        (record {
          laid = laid;
          after = step.0;
          at = here sup stream.size (first + number * span sup level) laid come (subst B (sym same) inside);
          gives = step.1;
          within = within_first image ranges (mapped_blocks level sup stream.size laid (record { at = at; value = value })) next step.0 step.1 within;
        })))
    children_visit level first fragment (suc more) number (suc index) at bytes laid after stands row come below inside gives within =
        let place : ℕ = fragment_place sup (suc fragment) in
        let value : ℤ = signed_at sup.order (layout_of sup.version).pointer bytes 0 in
        let next : Laid → _ = λ (mid : Laid). through (mapped_blocks level sup stream.size) mid (pointers_from (at + pointer_len sup.version) (pointer_len sup.version) (signed_row sup.order (layout_of sup.version).pointer more (drop (pointer_len sup.version) bytes))) in
        let step = bind_gives image (mapped_blocks level sup stream.size laid (record { at = at; value = value })) next after gives in
        let to : first + number * span sup level + span sup level ≡ first + (number + 1) * span sup level = omega arith in
        let same : number + 1 + index ≡ number + suc index = omega arith in
        let Q : ℕ → Type 0 = λ block. HasComeTo sup stream.size block step.0 in
        let B : ℕ → Type 0 = λ n. first + n * span sup level < block_count sup stream.size in
        let N : ℕ → Type 0 = λ n. IsVisited level (first + n * span sup level) (record { at = place + n * pointer_len sup.version; value = pointer_at image sup place n }) in
        subst N same
        (children_visit level first fragment more (number + 1) index (at + pointer_len sup.version) (drop (pointer_len sup.version) bytes) step.0 after (omega (arith, stands)) row.1
        (subst Q to (moves_on sup stream.size (first + number * span sup level) (span sup level) laid step.0 come (moves_by level image sup stream.size laid step.0 (record { at = at; value = value }) step.1)))
        (omega (arith, below)) (subst B (sym same) inside) step.2
        (within_next image ranges (mapped_blocks level sup stream.size laid (record { at = at; value = value })) next step.0 step.1 within))

    visits_below : (level first number fragment : ℕ) (at : ℕ) (value : ℤ) → IsVisited (suc level) first (record { at = at; value = value }) → first < block_count sup stream.size → value ≡ pos (suc fragment)
        → number < sup.nindir → first + number * span sup level < block_count sup stream.size
        → IsVisited level (first + number * span sup level)
        (record { at = fragment_place sup (suc fragment) + number * pointer_len sup.version; value = pointer_at image sup (fragment_place sup (suc fragment)) number })
    unfolding mapped_blocks
    visits_below level first number fragment at value visited inside leads below within =
        let V : ℤ → Type 0 = λ v. (result_of image (mapped_blocks (suc level) sup stream.size visited.laid (record { at = at; value = v })) ≡ Ok visited.after) × IsWithin image ranges (mapped_blocks (suc level) sup stream.size visited.laid (record { at = at; value = v })) in
        let both = subst V leads (visited.gives, visited.within) in
        let gives = goes_on (nat_le (block_count sup stream.size) visited.laid.block) visited.laid visited.after _ first visited.at inside refl both.0 in
        let covered = within_on ranges (nat_le (block_count sup stream.size) visited.laid.block) visited.laid _ first visited.at inside refl both.1 in
        let place : ℕ = fragment_place sup (suc fragment) in
        let bytes : List ℕ = part image place (block_size sup) in
        let led_there = check_gives image (lies_within sup (suc fragment) (block_size sup)) (Damaged BlockPointer at) _ visited.after gives in
        let seen = bind_gives image (counted_runs (with_visit visited.laid)) _ visited.after led_there.1 in
        let counted = within_check image ranges (lies_within sup (suc fragment) (block_size sup)) (Damaged BlockPointer at) _ led_there.0 covered in
        let looked = within_next image ranges (counted_runs (with_visit visited.laid)) _ seen.0 seen.1 counted in
        let B : ℕ → Type 0 = λ n. first + n * span sup level < block_count sup stream.size in
        let N : ℕ → Type 0 = λ n. IsVisited level (first + n * span sup level) (record { at = place + n * pointer_len sup.version; value = pointer_at image sup place n }) in
        subst N (from_0 number)
        (children_visit level first fragment sup.nindir 0 number place bytes seen.0 visited.after (omega arith) (rows_of image sup has place)
        (same_block sup stream.size (first + 0 * span sup level) (with_visit visited.laid) seen.0 (counted_gives image (with_visit visited.laid) seen.0 seen.1)
        (let at_first = visited.at in record { fits = omega (arith, at_first); come = inl (omega (arith, at_first)) }))
        below (subst B (sym (from_0 number)) within) seen.2 (within_behind image ranges place (block_size sup) (λ (bytes : List ℕ). through (mapped_blocks level sup stream.size) seen.0 (pointers_from place (pointer_len sup.version) (signed_row sup.order (layout_of sup.version).pointer sup.nindir bytes))) looked))

    -- and the block of pointers is looked at
    pointers_looked : (level first fragment at : ℕ) (value : ℤ) → IsVisited (suc level) first (record { at = at; value = value }) → first < block_count sup stream.size → value ≡ pos (suc fragment)
        → (byte : ℕ) → fragment_place sup (suc fragment) ≤ byte → byte < fragment_place sup (suc fragment) + block_size sup → covers ranges byte ≡ true
    unfolding mapped_blocks
    pointers_looked level first fragment at value visited inside leads =
        let V : ℤ → Type 0 = λ v. (result_of image (mapped_blocks (suc level) sup stream.size visited.laid (record { at = at; value = v })) ≡ Ok visited.after) × IsWithin image ranges (mapped_blocks (suc level) sup stream.size visited.laid (record { at = at; value = v })) in
        let both = subst V leads (visited.gives, visited.within) in
        let gives = goes_on (nat_le (block_count sup stream.size) visited.laid.block) visited.laid visited.after _ first visited.at inside refl both.0 in
        let covered = within_on ranges (nat_le (block_count sup stream.size) visited.laid.block) visited.laid _ first visited.at inside refl both.1 in
        let led_there = check_gives image (lies_within sup (suc fragment) (block_size sup)) (Damaged BlockPointer at) _ visited.after gives in
        let seen = bind_gives image (counted_runs (with_visit visited.laid)) _ visited.after led_there.1 in
        let counted = within_check image ranges (lies_within sup (suc fragment) (block_size sup)) (Damaged BlockPointer at) _ led_there.0 covered in
        within_look image ranges (fragment_place sup (suc fragment)) (block_size sup) (λ (bytes : List ℕ). through (mapped_blocks level sup stream.size) seen.0 (pointers_from (fragment_place sup (suc fragment)) (pointer_len sup.version) (signed_row sup.order (layout_of sup.version).pointer sup.nindir bytes))) (within_next image ranges (counted_runs (with_visit visited.laid)) _ seen.0 seen.1 counted)

    module _ (runs : ℕ) (laid : Laid) (gives : result_of image (stream_blocks sup stream runs) ≡ Ok laid) (within : IsWithin image ranges (stream_blocks sup stream runs)) where
      -- each pointer that is used is visited
      used_visited : (level first : ℕ) (pointer : Pointer) → IsUsed image sup stream level first pointer → IsVisited level first pointer
      unfolding stream_blocks
      used_visited level first pointer (Direct block p stands below) =
          let step = bind_gives image (through (mapped_blocks 0 sup stream.size) (none_laid runs) stream.direct) (λ direct. rising_blocks 1 sup stream.size direct stream.indirect) laid gives in
          let B : ℕ → Type 0 = λ n. n < block_count sup stream.size in
          let N : ℕ → Type 0 = λ n. IsVisited 0 n pointer in
          subst N (from_0 block) (direct_visits stream.direct 0 block pointer (none_laid runs) step.0 (start runs) stands (subst B (sym (from_0 block)) below) step.1
          (within_first image ranges (through (mapped_blocks 0 sup stream.size) (none_laid runs) stream.direct) (λ direct. rising_blocks 1 sup stream.size direct stream.indirect) step.0 step.1 within))
      used_visited level first pointer (Rising number p stands below) =
          let step = bind_gives image (through (mapped_blocks 0 sup stream.size) (none_laid runs) stream.direct) (λ direct. rising_blocks 1 sup stream.size direct stream.indirect) laid gives in
          let B : ℕ → Type 0 = λ n. first_mapped sup stream n < block_count sup stream.size in
          let N : ℕ → Type 0 = λ n. IsVisited (suc n) (first_mapped sup stream n) pointer in
          subst N (from_0 number) (rising_visits stream.indirect 0 number pointer step.0 laid (direct_passed runs step.0 step.1) stands (subst B (sym (from_0 number)) below) step.2
          (within_next image ranges (through (mapped_blocks 0 sup stream.size) (none_laid runs) stream.direct) (λ direct. rising_blocks 1 sup stream.size direct stream.indirect) step.0 step.1 within))
      used_visited level first pointer (Below l f number fragment above used leads within inside below) =
          visits_below level f number fragment above.at above.value (used_visited (suc level) f above used) (used_below image sup stream (suc level) f above used) leads inside below

      visited_in : (level first at : ℕ) (value : ℤ) → IsVisited level first (record { at = at; value = value }) → first < block_count sup stream.size → LeadsOut sup (led_len sup stream level first) value → ⊥
      unfolding mapped_blocks
      visited_in level first at (pos zero) visited inside out = out
      visited_in zero first at (pos (suc fragment)) visited inside out =
          let goes = goes_on (nat_le (block_count sup stream.size) visited.laid.block) visited.laid visited.after _ first visited.at inside refl visited.gives in
          let led_there = check_gives image (lies_within sup (suc fragment) (allocated_len sup stream.size visited.laid.block)) (Damaged BlockPointer at) _ visited.after goes in
          let same : lies_within sup (suc fragment) (allocated_len sup stream.size first) ≡ true = ap (λ block. lies_within sup (suc fragment) (allocated_len sup stream.size block)) (sym visited.at) ∙ led_there.0 in
          absurd (both _ same out)
        where
          both : (test : Bool) → test ≡ true → test ≡ false → ⊥
          both test is not = absurd cc
      visited_in (suc level) first at (pos (suc fragment)) visited inside out =
          let goes = goes_on (nat_le (block_count sup stream.size) visited.laid.block) visited.laid visited.after _ first visited.at inside refl visited.gives in
          let led_there = check_gives image (lies_within sup (suc fragment) (block_size sup)) (Damaged BlockPointer at) _ visited.after goes in
          both _ led_there.0 out
        where
          both : (test : Bool) → test ≡ true → test ≡ false → ⊥
          both test is not = absurd cc
      visited_in zero first at (negsuc n) visited inside out =
          let goes = goes_on (nat_le (block_count sup stream.size) visited.laid.block) visited.laid visited.after _ first visited.at inside refl visited.gives in
          absurd cc
      visited_in (suc level) first at (negsuc n) visited inside out =
          let goes = goes_on (nat_le (block_count sup stream.size) visited.laid.block) visited.laid visited.after _ first visited.at inside refl visited.gives in
          absurd cc

      pub pointers_seen : (level first fragment : ℕ) (pointer : Pointer) → IsUsed image sup stream (suc level) first pointer → pointer.value ≡ pos (suc fragment)
          → (byte : ℕ) → fragment_place sup (suc fragment) ≤ byte → byte < fragment_place sup (suc fragment) + block_size sup → covers ranges byte ≡ true
      pointers_seen level first fragment pointer used leads =
          pointers_looked level first fragment pointer.at pointer.value (used_visited (suc level) first pointer used) (used_below image sup stream (suc level) first pointer used) leads

      none_bad : (place : ℕ) → HasBadPointer image sup stream place → ⊥
      none_bad place bad =
          visited_in bad.level bad.first bad.pointer.at bad.pointer.value (used_visited bad.level bad.first bad.pointer bad.used) (used_below image sup stream bad.level bad.first bad.pointer bad.used) bad.out

  -- so none of a stream whose walk ends leads out
  pub stream_sound : (runs : ℕ) (laid : Laid) → result_of image (stream_blocks sup stream runs) ≡ Ok laid → (place : ℕ) → HasBadPointer image sup stream place → ⊥
  stream_sound runs laid gives place bad = none_bad (visits image (stream_blocks sup stream runs)) runs laid gives (λ byte covered. covered) place bad
