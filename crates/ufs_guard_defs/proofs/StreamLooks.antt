-- A walk over the pointers of a stream looks at blocks of pointers to which pointers that are used lead, and nowhere else.
use Rattle.std.specs.Prelude.{◌≡◌, ℕ, zero, suc, ◌+◌, ◌*◌, ℤ, pos, negsuc, Bool, true, false, nat_le, if◌then◌else◌, List, [], ◌∷◌, drop, length, refl}
use Rattle.std.proofs.Common.{sym, subst, arith, inl}
use Rattle.range_defs.specs.declared.Range.{Range}
use Rattle.bytes_defs.specs.Bytes.{part}
use Rattle.bytes_defs.specs.Numbers.{signed_at}
use Rattle.image_defs.specs.Ask.{Ask, Done, Stop, look, ◌>>=◌}
use Rattle.image_defs.specs.Through.{through}
use Rattle.image_defs.specs.Looks.{LooksAt}
use Rattle.image_defs.proofs.Looks.{looks_nowhere, looks_done, looks_bind, looks_check, looks_look}
use Rattle.fault_defs.specs.declared.Refusal.{Refusal}
use Rattle.fault_defs.specs.declared.Refusal.TheVariants.{Damaged, Limit}
use Rattle.fault_defs.specs.declared.Sort.TheVariants.{BlockPointer}
use Rattle.fault_defs.specs.declared.Bound.TheVariants.{Runs}
use Rattle.ufs_inode_defs.specs.Layout.{layout_of, pointer_len}
use Rattle.ufs_inode_defs.specs.Numbers.{signed_row}
use Rattle.ufs_inode_defs.specs.Superblock.{block_size}
use Rattle.ufs_inode_defs.specs.Stream.{Pointer, Stream, pointers_from, span, block_count, allocated_len}
use Rattle.ufs_inode_defs.specs.Blocks.{Laid, none_laid, runs_of, most_runs, with_hole, with_block, with_visit, counted_runs, fragment_place, lies_within, led, mapped_blocks, rising_blocks, stream_blocks}
use Rattle.ufs_inode_defs.specs.declared.superblock.Super.{Super}
use Rattle.ufs_inode_defs.proofs.BlockSteps.{HasPointers, counted_gives}
use Rattle.ufs_inode_defs.proofs.BlockLaw.{IsRow, rows_of, not_past}
use Rattle.ufs_damage_defs.specs.StreamDamage.{StandsAt, first_mapped, IsUsed, Direct, Rising, Below}
use Rattle.ufs_damage_defs.proofs.StreamDamage.{HasComeTo, there, moves_on, moves_by, children_move, same_block, IsNext}

module _ (image : List ℕ) (sup : Super) (stream : Stream) (has : HasPointers sup) (P : Range → Type 0)
    (leads_to : (level first fragment : ℕ) (pointer : Pointer) → IsUsed image sup stream (suc level) first pointer → pointer.value ≡ pos (suc fragment) → P (record { at = fragment_place sup (suc fragment); len = block_size sup })) where
  counted_looks : (laid : Laid) → LooksAt P image (counted_runs laid)
  counted_looks laid = looks_check P image (nat_le (runs_of laid) most_runs) (Limit Runs most_runs) (λ x. Done laid) (λ few. looks_done P image laid)

  abbrev Looks : ℕ → Type 0
  Looks level = (laid : Laid) (at : ℕ) (value : ℤ) → IsNext level image sup stream laid (record { at = at; value = value }) → LooksAt P image (mapped_blocks level sup stream.size laid (record { at = at; value = value }))

  -- nothing is looked at behind the end
  unless_looks : (past : Bool) (laid : Laid) (more : Ask Refusal Laid) → (past ≡ false → LooksAt P image more) → LooksAt P image (if past then Done laid else more)
  unless_looks true laid more looks = looks_done P image laid
  unless_looks false laid more looks = looks refl

  stop_looks : (e : Refusal) → LooksAt {X = Laid} P image (Stop e)
  stop_looks e = looks_nowhere P image (Stop e) refl

  children_look : (level : ℕ) → Looks level → (first fragment : ℕ) (above : Pointer) → IsUsed image sup stream (suc level) first above → above.value ≡ pos (suc fragment)
      → lies_within sup (suc fragment) (block_size sup) ≡ true → (more number at : ℕ) (bytes : List ℕ) (laid : Laid) → number + more ≡ sup.nindir
      → at ≡ fragment_place sup (suc fragment) + number * pointer_len sup.version → IsRow image sup (fragment_place sup (suc fragment)) more number bytes
      → HasComeTo sup stream.size (first + number * span sup level) laid
      → LooksAt P image (through (mapped_blocks level sup stream.size) laid (pointers_from at (pointer_len sup.version) (signed_row sup.order (layout_of sup.version).pointer more bytes)))
  children_look level looks first fragment above used leads within zero number at bytes laid total stands row come = looks_done P image laid
  children_look level looks first fragment above used leads within (suc more) number at bytes laid total stands row come =
      let place : ℕ = fragment_place sup (suc fragment) in
      let value : ℤ = signed_at sup.order (layout_of sup.version).pointer bytes 0 in
      let next : Laid → Ask Refusal Laid =
      λ after. through (mapped_blocks level sup stream.size) after (pointers_from (at + pointer_len sup.version) (pointer_len sup.version) (signed_row sup.order (layout_of sup.version).pointer more (drop (pointer_len sup.version) bytes))) in
      looks_bind P image (mapped_blocks level sup stream.size laid (record { at = at; value = value })) next
      (looks laid at value
      (λ below.
      let is_first : laid.block ≡ first + number * span sup level = there sup stream.size (first + number * span sup level) laid come below in
      let B : ℕ → Type 0 = λ block. IsUsed image sup stream level block (record { at = at; value = value }) in
      let A : ℕ → Type 0 = λ n. IsUsed image sup stream level (first + number * span sup level) (record { at = n; value = value }) in
      let V : ℤ → Type 0 = λ v. IsUsed image sup stream level (first + number * span sup level) (record { at = place + number * pointer_len sup.version; value = v }) in
      subst B (sym is_first) (subst A (sym stands) (subst V (sym row.0) (Below level first number fragment above used leads within (omega (arith, total)) (omega (arith, is_first, below)))))))
      (λ step gives.
      let to : first + number * span sup level + span sup level ≡ first + (number + 1) * span sup level = omega arith in
      let Q : ℕ → Type 0 = λ block. HasComeTo sup stream.size block step in
      children_look level looks first fragment above used leads within more (number + 1) (at + pointer_len sup.version) (drop (pointer_len sup.version) bytes) step (omega (arith, total)) (omega (arith, stands)) row.1
      (subst Q to (moves_on sup stream.size (first + number * span sup level) (span sup level) laid step come (moves_by level image sup stream.size laid step (record { at = at; value = value }) gives))))

  looks_by : (level : ℕ) → Looks level
  unfolding mapped_blocks
  looks_by zero = λ laid at value next. unless_looks (nat_le (block_count sup stream.size) laid.block) laid _ (λ inside. by_value laid at value)
    where
      by_value : (laid : Laid) (at : ℕ) (value : ℤ)
          → LooksAt P image (led sup (record { at = at; value = value }) (allocated_len sup stream.size laid.block) (counted_runs (with_hole sup stream.size 1 laid)) (λ place. counted_runs (with_block sup stream.size place laid)))
      by_value laid at (pos zero) = counted_looks (with_hole sup stream.size 1 laid)
      by_value laid at (pos (suc fragment)) =
          looks_check P image (lies_within sup (suc fragment) (allocated_len sup stream.size laid.block)) (Damaged BlockPointer at) (λ x. counted_runs (with_block sup stream.size (fragment_place sup (suc fragment)) laid))
          (λ within. counted_looks (with_block sup stream.size (fragment_place sup (suc fragment)) laid))
      by_value laid at (negsuc n) = stop_looks (Damaged BlockPointer at)
  looks_by (suc level) = λ laid at value next.
      unless_looks (nat_le (block_count sup stream.size) laid.block) laid _ (λ inside. by_value (looks_by level) laid at value (next (not_past (block_count sup stream.size) laid.block inside)))
    where
      by_value : Looks level → (laid : Laid) (at : ℕ) (value : ℤ) → IsUsed image sup stream (suc level) laid.block (record { at = at; value = value })
          → LooksAt P image
          (led sup (record { at = at; value = value }) (block_size sup) (counted_runs (with_hole sup stream.size (span sup (suc level)) laid))
          (λ place. counted_runs (with_visit laid) >>= (λ visited. look place (block_size sup) >>= (λ bytes. through (mapped_blocks level sup stream.size) visited (pointers_from place (pointer_len sup.version) (signed_row sup.order (layout_of sup.version).pointer sup.nindir bytes))))))
      by_value looks laid at (pos zero) used = counted_looks (with_hole sup stream.size (span sup (suc level)) laid)
      by_value looks laid at (pos (suc fragment)) used =
          let place : ℕ = fragment_place sup (suc fragment) in
          let bytes : List ℕ = part image place (block_size sup) in
          let rows : Laid → List ℕ → Ask Refusal Laid = λ visited found. through (mapped_blocks level sup stream.size) visited (pointers_from place (pointer_len sup.version) (signed_row sup.order (layout_of sup.version).pointer sup.nindir found)) in
          looks_check P image (lies_within sup (suc fragment) (block_size sup)) (Damaged BlockPointer at) (λ x. counted_runs (with_visit laid) >>= (λ visited. look place (block_size sup) >>= rows visited))
          (λ within. looks_bind P image (counted_runs (with_visit laid)) (λ visited. look place (block_size sup) >>= rows visited) (counted_looks (with_visit laid))
          (λ visited gives. looks_look P image place (block_size sup) (rows visited) (leads_to level laid.block fragment (record { at = at; value = pos (suc fragment) }) used refl)
          (children_look level looks laid.block fragment (record { at = at; value = pos (suc fragment) }) used refl within sup.nindir 0 place bytes visited (omega arith) (omega arith) (rows_of image sup has place)
          (same_block sup stream.size (laid.block + 0 * span sup level) (with_visit laid) visited (counted_gives image (with_visit laid) visited gives) (record { fits = omega arith; come = inl (omega arith) })))))
      by_value looks laid at (negsuc n) used = stop_looks (Damaged BlockPointer at)

  direct_looks : (pointers : List Pointer) (number : ℕ) (laid : Laid) → ((i : ℕ) (pointer : Pointer) → StandsAt pointers i pointer → StandsAt stream.direct (number + i) pointer)
      → HasComeTo sup stream.size number laid → LooksAt P image (through (mapped_blocks 0 sup stream.size) laid pointers)
  direct_looks [] number laid stand come = looks_done P image laid
  direct_looks (pointer ∷ pointers) number laid stand come =
      looks_bind P image (mapped_blocks 0 sup stream.size laid pointer) (λ after. through (mapped_blocks 0 sup stream.size) after pointers)
      (looks_by 0 laid pointer.at pointer.value
      (λ below.
      let is_first : laid.block ≡ number + 0 = omega (arith, there sup stream.size number laid come below) in
      let B : ℕ → Type 0 = λ block. IsUsed image sup stream 0 block pointer in
      subst B (sym is_first) (Direct (number + 0) pointer (stand 0 pointer refl) (omega (arith, is_first, below)))))
      (λ step gives.
      let to : number + 1 ≡ suc number = omega arith in
      let Q : ℕ → Type 0 = λ block. HasComeTo sup stream.size block step in
      direct_looks pointers (suc number) step
      (λ i p stands. let same : number + suc i ≡ suc number + i = omega arith in let R : ℕ → Type 0 = λ n. StandsAt stream.direct n p in subst R same (stand (suc i) p stands))
      (subst Q to (moves_on sup stream.size number 1 laid step come (moves_by 0 image sup stream.size laid step pointer gives))))

  rising_looks : (pointers : List Pointer) (number : ℕ) (laid : Laid) → ((i : ℕ) (pointer : Pointer) → StandsAt pointers i pointer → StandsAt stream.indirect (number + i) pointer)
      → HasComeTo sup stream.size (first_mapped sup stream number) laid → LooksAt P image (rising_blocks (suc number) sup stream.size laid pointers)
  rising_looks [] number laid stand come = looks_done P image laid
  rising_looks (pointer ∷ pointers) number laid stand come =
      looks_bind P image (mapped_blocks (suc number) sup stream.size laid pointer) (λ after. rising_blocks (suc (suc number)) sup stream.size after pointers)
      (looks_by (suc number) laid pointer.at pointer.value
      (λ below.
      let is_first : laid.block ≡ first_mapped sup stream number = there sup stream.size (first_mapped sup stream number) laid come below in
      let same : number + 0 ≡ number = omega arith in
      let R : ℕ → Type 0 = λ n. StandsAt stream.indirect n pointer in
      let B : ℕ → Type 0 = λ block. IsUsed image sup stream (suc number) block pointer in
      subst B (sym is_first) (Rising number pointer (subst R same (stand 0 pointer refl)) (omega (arith, is_first, below)))))
      (λ step gives.
      rising_looks pointers (suc number) step
      (λ i p stands. let same : number + suc i ≡ suc number + i = omega arith in let R : ℕ → Type 0 = λ n. StandsAt stream.indirect n p in subst R same (stand (suc i) p stands))
      (moves_on sup stream.size (first_mapped sup stream number) (span sup (suc number)) laid step come (moves_by (suc number) image sup stream.size laid step pointer gives)))

  from_0 : (n : ℕ) → n ≡ 0 + n
  from_0 n = omega arith

  pub stream_looks : (runs : ℕ) → LooksAt P image (stream_blocks sup stream runs)
  unfolding stream_blocks
  stream_looks runs =
      let start : HasComeTo sup stream.size 0 (none_laid runs) = record { fits = omega arith; come = inl refl } in
      looks_bind P image (through (mapped_blocks 0 sup stream.size) (none_laid runs) stream.direct) (λ direct. rising_blocks 1 sup stream.size direct stream.indirect)
      (direct_looks stream.direct 0 (none_laid runs) (λ i p stands. let D : ℕ → Type 0 = λ n. StandsAt stream.direct n p in subst D (from_0 i) stands) start)
      (λ laid gives.
      let to : 0 + length stream.direct * 1 ≡ length stream.direct = omega arith in
      let Q : ℕ → Type 0 = λ block. HasComeTo sup stream.size block laid in
      rising_looks stream.indirect 0 laid (λ i p stands. let I : ℕ → Type 0 = λ n. StandsAt stream.indirect n p in subst I (from_0 i) stands)
      (subst Q to (children_move 0 image sup stream.size (moves_by 0 image sup stream.size) stream.direct 0 (none_laid runs) laid start gives)))
