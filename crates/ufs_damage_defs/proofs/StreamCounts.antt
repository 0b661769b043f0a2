-- A walk over the pointers of a stream that ends has counted its runs, and one that stops has come to a pointer that leads out, or
-- there are more runs than the limit.
use Rattle.std.specs.Prelude.{◌≡◌, ℕ, zero, suc, ◌+◌, ◌*◌, ◌<◌, ◌≤◌, min, ℤ, pos, negsuc, Bool, true, false, nat_le, if◌then◌else◌, Option, Ok, Err, List, [], ◌∷◌, ◌++◌, drop, length, map, refl}
use Rattle.std.proofs.Common.{ap, sym, ◌∙◌, subst, arith, inl, ⊎_elim, length-append}
use Rattle.std.proofs.lemmas.Bool.{leb-true, leb-false, le-leb}
use Rattle.std.proofs.lemmas.List.{length-map}
use Rattle.bytes_defs.specs.Bytes.{part}
use Rattle.bytes_defs.specs.Numbers.{signed_at}
use Rattle.image_defs.specs.Ask.{Ask, Done, Stop, result_of, look, check, ◌>>=◌}
use Rattle.image_defs.specs.Through.{through}
use Rattle.image_defs.proofs.Looks.{bind_gives, bind_refuses}
use Rattle.fault_defs.specs.declared.Refusal.{Refusal}
use Rattle.fault_defs.specs.declared.Refusal.TheVariants.{Damaged, Limit}
use Rattle.fault_defs.specs.declared.Sort.TheVariants.{BlockPointer}
use Rattle.fault_defs.specs.declared.Bound.TheVariants.{Runs}
use Rattle.ufs_inode_defs.specs.Layout.{layout_of, pointer_len}
use Rattle.ufs_inode_defs.specs.Numbers.{signed_row}
use Rattle.ufs_inode_defs.specs.Superblock.{block_size}
use Rattle.ufs_inode_defs.specs.Stream.{Pointer, Stream, pointers_from, span, block_count, allocated_len}
use Rattle.ufs_inode_defs.specs.Blocks.{Laid, none_laid, runs_of, most_runs, with_hole, with_block, with_visit, counted_runs, fragment_place, lies_within, led, mapped_blocks, rising_blocks, stream_blocks}
use Rattle.ufs_inode_defs.specs.BlockPlace.{pointer_at, block_pointer, byte_place, AreStreamPieces}
use Rattle.ufs_inode_defs.specs.declared.superblock.Super.{Super}
use Rattle.ufs_inode_defs.proofs.BlockSteps.{IsLaid, HasPointers, counted_gives, hole_laid, block_laid}
use Rattle.ufs_inode_defs.proofs.BlockLaw.{IsRow, rows_of, not_past, some_span, none_is_laid}
use Rattle.ufs_damage_defs.specs.StreamDamage.{StandsAt, first_mapped, IsUsed, Direct, Rising, Below, Start, AtByte, AtPointers, HasBadPointer}
use Rattle.ufs_damage_defs.proofs.Walks.{same_value, same_error}
use Rattle.ufs_damage_defs.proofs.PieceStarts.{beginnings, count_pieces, more_beginnings}
use Rattle.ufs_damage_defs.proofs.Visits.{children, visits, rising_visits, past_none, tree_length, stream_starts}
use Rattle.ufs_damage_defs.proofs.StreamMaps.{HasShape, used_maps}
use Rattle.ufs_damage_defs.proofs.StreamDamage.{HasComeTo, there, moves_on, moves_by, same_block, IsNext}
use Rattle.ufs_damage_defs.proofs.StreamStops.{start, direct_passed, from_0}

-- what stops a walk over a stream: a pointer that leads out, or that the runs with those before it are more than the limit
pub data StopsStream (image : List ℕ) (sup : Super) (stream : Stream) (runs : ℕ) : Refusal → Type 0 where
  AtPointer : (place : ℕ) → HasBadPointer image sup stream place → StopsStream image sup stream runs (Damaged BlockPointer place)
  AtRuns : most_runs < runs → StopsStream image sup stream runs (Limit Runs most_runs)

module _ (image : List ℕ) (sup : Super) (stream : Stream) (has : HasPointers sup) (shape : HasShape stream) (runs limit : ℕ) where
  -- the pieces of the stream, and so many blocks of pointers
  abbrev room : ℕ
  room = runs + (length (beginnings (byte_place image sup stream) 0 stream.size) + limit)

  -- a walk that has laid its pieces, and has visited so many blocks of pointers
  pub record HasCounted (visited : ℕ) (laid : Laid) : Type 0 where
    pub placed : IsLaid image sup stream laid
    pub before : laid.before ≡ runs
    pub many : laid.visited ≡ visited
    pub few : runs_of laid ≤ most_runs

  -- a walk ends there, or is stopped
  pub record Ends (visited : ℕ) (ask : Ask Refusal Laid) : Type 0 where
    pub gives : (after : Laid) → result_of image ask ≡ Ok after → HasCounted visited after
    pub stops : (e : Refusal) → result_of image ask ≡ Err e → StopsStream image sup stream room e

  done_ends : (visited : ℕ) (laid : Laid) → HasCounted visited laid → Ends visited (Done laid)
  done_ends visited laid counted = record { gives = λ after is. subst (HasCounted visited) (same_value {E = Refusal} laid after is) counted; stops = λ e is. absurd cc }

  bind_ends : (middle visited : ℕ) (ask : Ask Refusal Laid) (next : Laid → Ask Refusal Laid) → Ends middle ask → ((laid : Laid) → result_of image ask ≡ Ok laid → HasCounted middle laid → Ends visited (next laid))
      → Ends visited (ask >>= next)
  bind_ends middle visited ask next first rest = record {
    gives = λ after is. let step = bind_gives image ask next after is in (rest step.0 step.1 (first.gives step.0 step.1)).gives after step.2;
    stops = λ e is. ⊎_elim (λ here. first.stops e here) (λ later. (rest later.0 later.1 (first.gives later.0 later.1)).stops e later.2) (bind_refuses image ask next e is);
  }

  stop_ends : (visited place : ℕ) → HasBadPointer image sup stream place → Ends visited (Stop (Damaged BlockPointer place))
  stop_ends visited place bad = record {
    gives = λ after is. absurd cc;
    stops = λ e is. subst (StopsStream image sup stream room) (same_error {X = Laid} (Damaged BlockPointer place) e is) (AtPointer place bad);
  }

  check_ends : (visited : ℕ) (test : Bool) (place : ℕ) (next : Unit {0} → Ask Refusal Laid) → (test ≡ false → HasBadPointer image sup stream place) → (test ≡ true → Ends visited (next tt))
      → Ends visited (check test (Damaged BlockPointer place) >>= next)
  check_ends visited true place next bad rest = rest refl
  check_ends visited false place next bad rest = let stopped = stop_ends visited place (bad refl) in record { gives = λ after is. stopped.gives after is; stops = λ e is. stopped.stops e is }

  look_ends : (visited at len : ℕ) (next : List ℕ → Ask Refusal Laid) → Ends visited (next (part image at len)) → Ends visited (look at len >>= next)
  look_ends visited at len next rest = record { gives = λ after is. rest.gives after is; stops = λ e is. rest.stops e is }

  -- the runs so far are no more than there is room for
  counted_ends : (visited : ℕ) (laid : Laid) → IsLaid image sup stream laid → laid.before ≡ runs → laid.visited ≡ visited → visited ≤ limit → Ends visited (counted_runs laid)
  counted_ends visited laid placed before many fits = either (nat_le (runs_of laid) most_runs) refl
    where
      either : (within : Bool) → nat_le (runs_of laid) most_runs ≡ within → Ends visited (check within (Limit Runs most_runs) >>= (λ x. Done laid))
      either true is = done_ends visited laid (record { placed = placed; before = before; many = many; few = leb-true (runs_of laid) most_runs is })
      either false is =
          let place : ℕ → Option ℕ = byte_place image sup stream in
          let end : ℕ = min (laid.block * block_size sup) stream.size in
          let over = leb-false (runs_of laid) most_runs is in
          let pieces = count_pieces place end laid.pieces placed.0 in
          let more = more_beginnings place end stream.size (omega arith) in
          record {
            gives = λ after is. absurd cc;
            stops = λ e is. subst (StopsStream image sup stream room) (same_error {X = Laid} (Limit Runs most_runs) e is) (AtRuns (omega (arith, over, pieces, more, before, many, fits)));
          }

  -- in front of the end a walk goes on
  past_ends : (visited : ℕ) (past : Bool) (laid : Laid) (more : Ask Refusal Laid) → (past ≡ true → HasCounted visited laid) → (past ≡ false → Ends visited more) → Ends visited (if past then Done laid else more)
  past_ends visited true laid more counted rest = done_ends visited laid (counted refl)
  past_ends visited false laid more counted rest = rest refl

  counted_more : (visited total : ℕ) (laid : Laid) → total ≡ visited → HasCounted visited laid → HasCounted total laid
  counted_more visited total laid same counted = let P : ℕ → Type 0 = λ n. HasCounted n laid in subst P (sym same) counted

  -- ---- at a pointer of a level

  abbrev CountsAt : ℕ → Type 0
  CountsAt level =
      (laid : Laid) (at : ℕ) (value : ℤ) (visited total : ℕ) → IsNext level image sup stream laid (record { at = at; value = value }) → HasCounted visited laid
      → total ≡ visited + length (visits image sup stream level laid.block value) → total ≤ limit → Ends total (mapped_blocks level sup stream.size laid (record { at = at; value = value }))

  -- where a walk has come to a block, what is visited from it on is what is visited from where it stands
  same_visits : (level block : ℕ) (laid : Laid) (value : ℤ) → HasComeTo sup stream.size block laid → length (visits image sup stream level laid.block value) ≡ length (visits image sup stream level block value)
  same_visits level block laid value come =
      ⊎_elim
      (λ same. ap (λ n. length (visits image sup stream level n value)) same)
      (λ past.
      let fits = come.fits in
      ap length (past_none image sup stream level laid.block value (le-leb (block_count sup stream.size) laid.block past))
      ∙ sym (ap length (past_none image sup stream level block value (le-leb (block_count sup stream.size) block (omega (arith, past, fits))))))
      come.come

  children_count : (level : ℕ) → CountsAt level → (first fragment : ℕ) (above : Pointer) → IsUsed image sup stream (suc level) first above → above.value ≡ pos (suc fragment)
      → lies_within sup (suc fragment) (block_size sup) ≡ true → (more number at : ℕ) (bytes : List ℕ) (laid : Laid) (visited total : ℕ) → number + more ≡ sup.nindir
      → at ≡ fragment_place sup (suc fragment) + number * pointer_len sup.version → IsRow image sup (fragment_place sup (suc fragment)) more number bytes
      → HasComeTo sup stream.size (first + number * span sup level) laid → HasCounted visited laid
      → total ≡ visited + length (children image sup stream (visits image sup stream level) (fragment_place sup (suc fragment)) first (span sup level) more number) → total ≤ limit
      → Ends total (through (mapped_blocks level sup stream.size) laid (pointers_from at (pointer_len sup.version) (signed_row sup.order (layout_of sup.version).pointer more bytes)))
  children_count level counts first fragment above used leads within zero number at bytes laid visited total all stands row come counted sum fits = done_ends total laid (counted_more visited total laid (omega (arith, sum)) counted)
  children_count level counts first fragment above used leads within (suc more) number at bytes laid visited total all stands row come counted sum fits =
      let place : ℕ = fragment_place sup (suc fragment) in
      let block : ℕ = first + number * span sup level in
      let value : ℤ = signed_at sup.order (layout_of sup.version).pointer bytes 0 in
      let here : List Start = visits image sup stream level block (pointer_at image sup place number) in
      let rest : List Start = children image sup stream (visits image sup stream level) place first (span sup level) more (number + 1) in
      let long : length (here ++ rest) ≡ length here + length rest = length-append here rest in
      let is_here : length (visits image sup stream level laid.block value) ≡ length here = same_visits level block laid value come ∙ ap (λ v. length (visits image sup stream level block v)) row.0 in
      let middle : ℕ = visited + length here in
      bind_ends middle total (mapped_blocks level sup stream.size laid (record { at = at; value = value })) _
      (counts laid at value visited middle
      (λ below.
      let is_first : laid.block ≡ block = there sup stream.size block laid come below in
      let P : ℕ → Type 0 = λ n. IsUsed image sup stream level n (record { at = at; value = value }) in
      let A : ℕ → Type 0 = λ n. IsUsed image sup stream level block (record { at = n; value = value }) in
      let V : ℤ → Type 0 = λ v. IsUsed image sup stream level block (record { at = place + number * pointer_len sup.version; value = v }) in
      subst P (sym is_first) (subst A (sym stands) (subst V (sym row.0) (Below level first number fragment above used leads within (omega (arith, all)) (omega (arith, is_first, below))))))
      counted (ap (λ n. visited + n) (sym is_here)) (omega (arith, sum, fits, long)))
      (λ step is now.
      let to : block + span sup level ≡ first + (number + 1) * span sup level = omega arith in
      let Q : ℕ → Type 0 = λ n. HasComeTo sup stream.size n step in
      children_count level counts first fragment above used leads within more (number + 1) (at + pointer_len sup.version) (drop (pointer_len sup.version) bytes) step middle total (omega (arith, all)) (omega (arith, stands)) row.1
      (subst Q to (moves_on sup stream.size block (span sup level) laid step come (moves_by level image sup stream.size laid step (record { at = at; value = value }) is)))
      now (omega (arith, sum, long)) fits)

  counts_by : (level : ℕ) → CountsAt level
  unfolding mapped_blocks
  counts_by zero = λ laid at value visited total next counted sum fits.
      past_ends total (nat_le (block_count sup stream.size) laid.block) laid _
      (λ past. counted_more visited total laid (omega (arith, sum)) counted)
      (λ inside.
      let below = not_past (block_count sup stream.size) laid.block inside in
      by_value laid at value total below (counted_more visited total laid (omega (arith, sum)) counted) fits (next below))
    where
      by_value : (laid : Laid) (at : ℕ) (value : ℤ) (total : ℕ) → laid.block < block_count sup stream.size → HasCounted total laid → total ≤ limit → IsUsed image sup stream 0 laid.block (record { at = at; value = value })
          → Ends total (led sup (record { at = at; value = value }) (allocated_len sup stream.size laid.block) (counted_runs (with_hole sup stream.size 1 laid)) (λ place. counted_runs (with_block sup stream.size place laid)))
      by_value laid at (pos zero) total below counted fits used =
          counted_ends total (with_hole sup stream.size 1 laid)
          (hole_laid image sup stream laid 1 has.some_bytes (omega arith) below counted.placed (used_maps image sup stream shape 0 laid.block (record { at = at; value = pos zero }) used)) counted.before counted.many fits
      by_value laid at (pos (suc fragment)) total below counted fits used =
          let pointer : Pointer = record { at = at; value = pos (suc fragment) } in
          let here : laid.block ≡ laid.block + 0 = omega arith in
          check_ends total (lies_within sup (suc fragment) (allocated_len sup stream.size laid.block)) at _
          (λ out. record { level = 0; first = laid.block; pointer = pointer; used = used; out = out; stands = refl })
          (λ within. counted_ends total (with_block sup stream.size (fragment_place sup (suc fragment)) laid)
          (block_laid image sup stream laid fragment has below counted.placed (ap (λ n. block_pointer image sup stream n) here ∙ used_maps image sup stream shape 0 laid.block pointer used 0 (omega arith))) counted.before counted.many fits)
      by_value laid at (negsuc n) total below counted fits used =
          stop_ends total at (record { level = 0; first = laid.block; pointer = record { at = at; value = negsuc n }; used = used; out = tt; stands = refl })
  counts_by (suc level) = λ laid at value visited total next counted sum fits.
      past_ends total (nat_le (block_count sup stream.size) laid.block) laid _
      (λ past. counted_more visited total laid (let none = ap length (past_none image sup stream (suc level) laid.block value past) in omega (arith, sum, none)) counted)
      (λ inside. by_value (counts_by level) laid at value visited total inside (next (not_past (block_count sup stream.size) laid.block inside)) counted sum fits)
    where
      by_value : CountsAt level → (laid : Laid) (at : ℕ) (value : ℤ) (visited total : ℕ) → nat_le (block_count sup stream.size) laid.block ≡ false → IsUsed image sup stream (suc level) laid.block (record { at = at; value = value })
          → HasCounted visited laid → total ≡ visited + length (visits image sup stream (suc level) laid.block value) → total ≤ limit
          → Ends total (led sup (record { at = at; value = value }) (block_size sup) (counted_runs (with_hole sup stream.size (span sup (suc level)) laid))
          (λ place. counted_runs (with_visit laid) >>= (λ visited. look place (block_size sup) >>= (λ bytes. through (mapped_blocks level sup stream.size) visited (pointers_from place (pointer_len sup.version) (signed_row sup.order (layout_of sup.version).pointer sup.nindir bytes))))))
      by_value counts laid at (pos zero) visited total inside used counted sum fits =
          counted_ends total (with_hole sup stream.size (span sup (suc level)) laid)
          (hole_laid image sup stream laid (span sup (suc level)) has.some_bytes (some_span sup has.some_pointers (suc level)) (not_past (block_count sup stream.size) laid.block inside) counted.placed
          (used_maps image sup stream shape (suc level) laid.block (record { at = at; value = pos zero }) used))
          counted.before (let many = counted.many in omega (arith, many, sum)) fits
      by_value counts laid at (pos (suc fragment)) visited total inside used counted sum fits =
          let place : ℕ = fragment_place sup (suc fragment) in
          let bytes : List ℕ = part image place (block_size sup) in
          let below : List Start = children image sup stream (visits image sup stream level) place laid.block (span sup level) sup.nindir 0 in
          check_ends total (lies_within sup (suc fragment) (block_size sup)) at _
          (λ out. record { level = suc level; first = laid.block; pointer = record { at = at; value = pos (suc fragment) }; used = used; out = out; stands = refl })
          (λ within.
          let all = tree_length (nat_le (block_count sup stream.size) laid.block) (lies_within sup (suc fragment) (block_size sup)) (AtPointers (suc level) laid.block) below inside within in
          let many = counted.many in
          bind_ends (visited + 1) total (counted_runs (with_visit laid)) _
          (counted_ends (visited + 1) (with_visit laid) counted.placed counted.before (omega (arith, many)) (omega (arith, sum, all, fits)))
          (λ seen is now.
          look_ends total place (block_size sup) (λ found. through (mapped_blocks level sup stream.size) seen (pointers_from place (pointer_len sup.version) (signed_row sup.order (layout_of sup.version).pointer sup.nindir found)))
          (children_count level counts laid.block fragment (record { at = at; value = pos (suc fragment) }) used refl within sup.nindir 0 place bytes seen (visited + 1) total (omega arith) (omega arith) (rows_of image sup has place)
          (same_block sup stream.size (laid.block + 0 * span sup level) (with_visit laid) seen (counted_gives image (with_visit laid) seen is) (record { fits = omega arith; come = inl (omega arith) }))
          now (omega (arith, sum, all)) fits)))
      by_value counts laid at (negsuc n) visited total inside used counted sum fits =
          stop_ends total at (record { level = suc level; first = laid.block; pointer = record { at = at; value = negsuc n }; used = used; out = tt; stands = refl })

  -- ---- over the pointers of the stream

  direct_count : (pointers : List Pointer) (number : ℕ) (laid : Laid) (visited : ℕ) → ((i : ℕ) (pointer : Pointer) → StandsAt pointers i pointer → StandsAt stream.direct (number + i) pointer)
      → HasComeTo sup stream.size number laid → HasCounted visited laid → visited ≤ limit → Ends visited (through (mapped_blocks 0 sup stream.size) laid pointers)
  direct_count [] number laid visited stand come counted fits = done_ends visited laid counted
  direct_count (pointer ∷ pointers) number laid visited stand come counted fits =
      bind_ends visited visited (mapped_blocks 0 sup stream.size laid pointer) _
      (counts_by 0 laid pointer.at pointer.value visited visited
      (λ below.
      let is_first : laid.block ≡ number + 0 = omega (arith, there sup stream.size number laid come below) in
      let P : ℕ → Type 0 = λ block. IsUsed image sup stream 0 block pointer in
      subst P (sym is_first) (Direct (number + 0) pointer (stand 0 pointer refl) (omega (arith, is_first, below))))
      counted (omega arith) fits)
      (λ step is now.
      let to : number + 1 ≡ suc number = omega arith in
      let Q : ℕ → Type 0 = λ block. HasComeTo sup stream.size block step in
      direct_count pointers (suc number) step visited
      (λ i p stands. let same : number + suc i ≡ suc number + i = omega arith in let R : ℕ → Type 0 = λ n. StandsAt stream.direct n p in subst R same (stand (suc i) p stands))
      (subst Q to (moves_on sup stream.size number 1 laid step come (moves_by 0 image sup stream.size laid step pointer is)))
      now fits)

  rising_count : (pointers : List Pointer) (number : ℕ) (laid : Laid) (visited total : ℕ) → ((i : ℕ) (pointer : Pointer) → StandsAt pointers i pointer → StandsAt stream.indirect (number + i) pointer)
      → HasComeTo sup stream.size (first_mapped sup stream number) laid → HasCounted visited laid → total ≡ visited + length (rising_visits image sup stream number pointers) → total ≤ limit
      → Ends total (rising_blocks (suc number) sup stream.size laid pointers)
  rising_count [] number laid visited total stand come counted sum fits = done_ends total laid (counted_more visited total laid (omega (arith, sum)) counted)
  rising_count (pointer ∷ pointers) number laid visited total stand come counted sum fits =
      let first : ℕ = first_mapped sup stream number in
      let here : List Start = visits image sup stream (suc number) first pointer.value in
      let rest : List Start = rising_visits image sup stream (suc number) pointers in
      let long : length (here ++ rest) ≡ length here + length rest = length-append here rest in
      let middle : ℕ = visited + length here in
      bind_ends middle total (mapped_blocks (suc number) sup stream.size laid pointer) _
      (counts_by (suc number) laid pointer.at pointer.value visited middle
      (λ below.
      let is_first : laid.block ≡ first = there sup stream.size first laid come below in
      let same : number + 0 ≡ number = omega arith in
      let R : ℕ → Type 0 = λ n. StandsAt stream.indirect n pointer in
      let P : ℕ → Type 0 = λ block. IsUsed image sup stream (suc number) block pointer in
      subst P (sym is_first) (Rising number pointer (subst R same (stand 0 pointer refl)) (omega (arith, is_first, below))))
      counted (ap (λ n. visited + n) (sym (same_visits (suc number) first laid pointer.value come))) (omega (arith, sum, long, fits)))
      (λ step is now.
      rising_count pointers (suc number) step middle total
      (λ i p stands. let same : number + suc i ≡ suc number + i = omega arith in let R : ℕ → Type 0 = λ n. StandsAt stream.indirect n p in subst R same (stand (suc i) p stands))
      (moves_on sup stream.size first (span sup (suc number)) laid step come (moves_by (suc number) image sup stream.size laid step pointer is))
      now (omega (arith, sum, long)) fits)

  pub stream_ends : runs ≤ most_runs → limit ≡ length (rising_visits image sup stream 0 stream.indirect) → Ends limit (stream_blocks sup stream runs)
  unfolding stream_blocks
  stream_ends few all =
      bind_ends 0 limit (through (mapped_blocks 0 sup stream.size) (none_laid runs) stream.direct) (λ direct. rising_blocks 1 sup stream.size direct stream.indirect)
      (direct_count stream.direct 0 (none_laid runs) 0 (λ i p stands. let D : ℕ → Type 0 = λ n. StandsAt stream.direct n p in subst D (sym (from_0 image sup stream has i)) stands) (start image sup stream has runs)
      (record { placed = none_is_laid image sup stream runs; before = refl; many = refl; few = omega (arith, few) }) (omega arith))
      (λ direct is now.
      rising_count stream.indirect 0 direct 0 limit (λ i p stands. let I : ℕ → Type 0 = λ n. StandsAt stream.indirect n p in subst I (sym (from_0 image sup stream has i)) stands)
      (direct_passed image sup stream has runs direct is) now (omega (arith, all)) (omega arith))

-- ---- a stream

module _ (image : List ℕ) (sup : Super) (stream : Stream) (has : HasPointers sup) (shape : HasShape stream) (runs : ℕ) (few : runs ≤ most_runs) where
  starts_long : length (stream_starts image sup stream) ≡ length (beginnings (byte_place image sup stream) 0 stream.size) + length (rising_visits image sup stream 0 stream.indirect)
  starts_long =
      let bytes : List ℕ = beginnings (byte_place image sup stream) 0 stream.size in
      length-append (map AtByte bytes) (rising_visits image sup stream 0 stream.indirect) ∙ ap (λ n. n + length (rising_visits image sup stream 0 stream.indirect)) (length-map bytes AtByte)

  -- where a walk ends, it has counted the runs of the stream
  pub stream_counted : (laid : Laid) → result_of image (stream_blocks sup stream runs) ≡ Ok laid → AreStreamPieces image sup stream laid.pieces → (runs_of laid ≡ runs + length (stream_starts image sup stream)) × (runs_of laid ≤ most_runs)
  stream_counted laid gives are =
      let limit : ℕ = length (rising_visits image sup stream 0 stream.indirect) in
      let counted = (stream_ends image sup stream has shape runs limit few refl).gives laid gives in
      let pieces = count_pieces (byte_place image sup stream) stream.size laid.pieces are in
      let before = counted.before in
      let many = counted.many in
      (omega (arith, pieces, before, many, starts_long), counted.few)

  -- where it stops, a pointer leads out, or they are too many
  pub stream_stops : (e : Refusal) → result_of image (stream_blocks sup stream runs) ≡ Err e → StopsStream image sup stream (runs + length (stream_starts image sup stream)) e
  stream_stops e stops =
      let limit : ℕ = length (rising_visits image sup stream 0 stream.indirect) in
      let P : ℕ → Type 0 = λ starts. StopsStream image sup stream (runs + starts) e in
      subst P (sym starts_long) ((stream_ends image sup stream has shape runs limit few refl).stops e stops)
