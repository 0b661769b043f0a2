-- The streams of an inode, at each exit of the reader.
use Rattle.std.specs.Prelude.{◌≡◌, ℕ, zero, suc, ◌+◌, ◌*◌, ◌<◌, ◌≤◌, min, ℤ, pos, true, IsErr, IsErrAnd, Option, Some, None, IfSome, Result, Ok, Err, List, [], ◌∷◌, length, drop, get_or, refl}
use Rattle.std.proofs.Common.{arith, ap, sym, ◌∙◌, subst, inl, inr, ⊎_elim, drop-cons, drop_of_length-le}
use Rattle.range_defs.specs.declared.Range.{Range}
use Rattle.image_defs.specs.Ask.{Ask, Done, result_of, ◌>>=◌}
use Rattle.image_reads.specs.Steps.{ReadsAs}
use Rattle.image_reads.proofs.Coming.{IsCome}
use Rattle.image_defs.specs.Through.{through}
use Rattle.image_reads.proofs.Steps.{begins, comes_to, comes_value, comes_fault, comes_done, ends_with}
use Rattle.piece_defs.specs.Covering.{covers_from}
use Rattle.rx_store.specs.declared.read_fault.ReadFault.{ReadFault}
use Rattle.fault_defs.specs.declared.Refusal.{Refusal}
use Rattle.ufs_inode_defs.specs.Superblock.{wrong_field, block_size}
use Rattle.ufs_inode_defs.specs.Inode.{sound_inode}
use Rattle.ufs_inode_defs.specs.Stream.{Pointer, pointers_from, span, block_count, content_stream, extended_stream}
use Rattle.ufs_inode_defs.specs.Blocks.{Laid, none_laid, mapped_blocks, rising_blocks, stream_blocks}
use Rattle.ufs_inode_defs.specs.BlockPlace.{AreStreamPieces, slack_of}
use Rattle.ufs_inode_defs.specs.declared.superblock.Super.{Super}
use Rattle.ufs_inode_defs.specs.declared.inode.Inode.{Inode}
use Rattle.ufs_inode_defs.proofs.BlockSteps.{blocks_hold}
use Rattle.ufs_inode_defs.proofs.InodeLaws.{IsSoundInode, sound_gives}
use Rattle.ufs_inode_defs.proofs.SoundSuper.{is_sound, has_pointers}
use Rattle.ufs_inode_defs.proofs.StreamLaws.{short_size, reached_blocks, content_is_laid, extended_reached, extended_is_laid}
use Rattle.ufs_blocks.specs.UnderWay.{IsUnderWay, HasGone, Settles}
use Rattle.ufs_super.proofs.SizeLaws.{block_bounds}
use Rattle.ufs_blocks.proofs.WayLaws.{settles_as}
use Rattle.ufs_blocks.proofs.DirectLaws.{fault_settles}
use Rattle.ufs_blocks.proofs.MappedLaws.{settles_first}

-- ---- the direct pointers

pub pointer_is : (pointer : Pointer) (at : ℕ) (value : ℤ) → pointer.at ≡ at → pointer.value ≡ value → pointer ≡ record { at = at; value = value }
pointer_is pointer at value here is = ap (λ n. record { at = n; value = pointer.value }) here ∙ ap (λ v. record { at = at; value = v }) is

pointers_from-length : (at len : ℕ) (values : List ℤ) → length (pointers_from at len values) ≡ length values
pointers_from-length at len [] = refl
pointers_from-length at len (value ∷ values) = ap suc (pointers_from-length (at + len) len values)

pointer_at : (at len : ℕ) (values : List ℤ) (i : ℕ) (d : Pointer) → i < length values → get_or (pointers_from at len values) i d ≡ record { at = at + i * len; value = get_or values i (pos 0) }
pointer_at at len [] i d inside = absurd (omega (arith, inside))
pointer_at at len (value ∷ values) zero d inside = let here : at ≡ at + 0 * len = omega arith in ap (λ n. record { at = n; value = value }) here
pointer_at at len (value ∷ values) (suc i) d inside =
    let on : at + len + i * len ≡ at + suc i * len = omega arith in
    pointer_at (at + len) len values i d (omega (arith, inside)) ∙ ap (λ n. record { at = n; value = get_or values i (pos 0) }) on

module _ (sup : Super) (size at len : ℕ) (values : List ℤ) (i : ℕ) (laid : Laid) (pointer : Pointer) (inside : i < length values) (is : pointer ≡ record { at = at + i * len; value = get_or values i (pos 0) }) where
  next_direct : through (mapped_blocks 0 sup size) laid (drop i (pointers_from at len values)) ≡ mapped_blocks 0 sup size laid pointer >>= (λ after. through (mapped_blocks 0 sup size) after (drop (i + 1) (pointers_from at len values)))
  next_direct =
      let here : i < length (pointers_from at len values) = omega (arith, inside, pointers_from-length at len values) in
      let one_more : suc i ≡ i + 1 = omega arith in
      ap (λ left. through (mapped_blocks 0 sup size) laid left) (drop-cons (pointers_from at len values) i pointer here)
      ∙ ap (λ item. mapped_blocks 0 sup size laid item >>= (λ after. through (mapped_blocks 0 sup size) after (drop (suc i) (pointers_from at len values)))) (pointer_at at len values i pointer inside ∙ sym is)
      ∙ ap (λ n. mapped_blocks 0 sup size laid pointer >>= (λ after. through (mapped_blocks 0 sup size) after (drop n (pointers_from at len values)))) one_more

  pub direct_goes_on : (whole : Ask Refusal Laid) (after : Laid) → whole ≡ through (mapped_blocks 0 sup size) laid (drop i (pointers_from at len values)) → mapped_blocks 0 sup size laid pointer ≡ Done after
      → whole ≡ through (mapped_blocks 0 sup size) after (drop (i + 1) (pointers_from at len values))
  direct_goes_on whole after so_far settles = so_far ∙ next_direct ∙ ap (λ ask. ask >>= (λ after. through (mapped_blocks 0 sup size) after (drop (i + 1) (pointers_from at len values)))) settles

  pub direct_stops : (whole : Ask Refusal Laid) (result : Result Laid ReadFault) (fault : ReadFault) → whole ≡ through (mapped_blocks 0 sup size) laid (drop i (pointers_from at len values)) → IsErr result → IsErrAnd result (λ other. other ≡ fault)
      → (let stops : Result Laid ReadFault = Err fault in Settles stops (mapped_blocks 0 sup size laid pointer)) → Settles result whole
  direct_stops whole result fault so_far fails passed settles =
      let stops : Result Laid ReadFault = Err fault in
      fault_settles result fault whole fails passed
      (settles_as stops whole _ (so_far ∙ next_direct) (settles_first fault (mapped_blocks 0 sup size laid pointer) (λ after. through (mapped_blocks 0 sup size) after (drop (i + 1) (pointers_from at len values))) settles))

pub direct_ends : (sup : Super) (size at len : ℕ) (values : List ℤ) (i : ℕ) (laid : Laid) (whole : Ask Refusal Laid) → length values ≤ i → whole ≡ through (mapped_blocks 0 sup size) laid (drop i (pointers_from at len values)) → whole ≡ Done laid
direct_ends sup size at len values i laid whole past so_far =
    so_far ∙ ap (λ left. through (mapped_blocks 0 sup size) laid left) (drop_of_length-le (pointers_from at len values) (omega (arith, past, pointers_from-length at len values)))

pub gone_one : (sup : Super) (size number : ℕ) (start laid after : Laid) → HasGone sup size number start laid → HasGone sup size 1 laid after → HasGone sup size (number + 1) start after
gone_one sup size number start laid after was is =
    ⊎_elim
    (λ on. ⊎_elim (λ here. inl (omega (arith, on, here))) (λ past. inr past) is)
    (λ past. ⊎_elim (λ here. inr (omega (arith, past, here))) (λ far. inr far) is)
    was

-- ---- three levels of blocks of pointers

three_values : (values : List ℤ) → length values ≡ 3 → values ≡ get_or values 0 (pos 0) ∷ get_or values 1 (pos 0) ∷ get_or values 2 (pos 0) ∷ []
three_values [] three = absurd (omega (arith, three))
three_values (a ∷ []) three = absurd (omega (arith, three))
three_values (a ∷ b ∷ []) three = absurd (omega (arith, three))
three_values (a ∷ b ∷ c ∷ []) three = refl
three_values (a ∷ b ∷ c ∷ d ∷ rest) three = absurd (omega (arith, three))

module _ (sup : Super) (size at len : ℕ) (values : List ℤ) (laid : Laid) (told : Option (List ℕ)) (before : List Range) (first second third : Pointer) (three : length values ≡ 3) (first_is : first ≡ record { at = at; value = get_or values 0 (pos 0) })
    (second_is : second ≡ record { at = at + len; value = get_or values 1 (pos 0) }) (third_is : third ≡ record { at = at + len + len; value = get_or values 2 (pos 0) }) where
  behind_second : Laid → Ask Refusal Laid
  behind_second b = mapped_blocks 3 sup size b third >>= (λ c. Done c)

  behind_first : Laid → Ask Refusal Laid
  behind_first a = mapped_blocks 2 sup size a second >>= behind_second

  all_three : rising_blocks 1 sup size laid (pointers_from at len values) ≡ mapped_blocks 1 sup size laid first >>= behind_first
  unfolding behind_first behind_second
  all_three =
      ap (λ list. rising_blocks 1 sup size laid (pointers_from at len list)) (three_values values three)
      ∙ ap (λ p. mapped_blocks 1 sup size laid p >>= (λ a. mapped_blocks 2 sup size a (record { at = at + len; value = get_or values 1 (pos 0) }) >>= (λ b. mapped_blocks 3 sup size b (record { at = at + len + len; value = get_or values 2 (pos 0) }) >>= (λ c. Done c)))) (sym first_is)
      ∙ ap (λ p. mapped_blocks 1 sup size laid first >>= (λ a. mapped_blocks 2 sup size a p >>= (λ b. mapped_blocks 3 sup size b (record { at = at + len + len; value = get_or values 2 (pos 0) }) >>= (λ c. Done c)))) (sym second_is)
      ∙ ap (λ p. mapped_blocks 1 sup size laid first >>= (λ a. mapped_blocks 2 sup size a second >>= (λ b. mapped_blocks 3 sup size b p >>= (λ c. Done c)))) (sym third_is)

  start : IsCome told (rising_blocks 1 sup size laid (pointers_from at len values)) before (mapped_blocks 1 sup size laid first >>= behind_first) before
  start = comes_to told _ before (rising_blocks 1 sup size laid (pointers_from at len values)) _ before all_three (begins told (rising_blocks 1 sup size laid (pointers_from at len values)) before)

  pub first_faults : (later : Option (List ℕ)) (looked : List Range) (result : Result Laid ReadFault) (fault : ReadFault) → later ≡ told → IsErr result → IsErrAnd result (λ other. other ≡ fault)
      → (let stops : Result Laid ReadFault = Err fault in ReadsAs later (mapped_blocks 1 sup size laid first) before looked stops) → ReadsAs told (rising_blocks 1 sup size laid (pointers_from at len values)) before looked result
  first_faults later looked result fault same fails passed read =
      ends_with told _ before looked result fault fails passed (comes_fault told _ before later (mapped_blocks 1 sup size laid first) behind_first before same start fault looked looked read)

  module _ (one_later : Option (List ℕ)) (one_same : one_later ≡ told) (one_looked : List Range) (one : Laid) (one_read : ReadsAs one_later (mapped_blocks 1 sup size laid first) before one_looked (Ok one)) where
    behind_one : IsCome told (rising_blocks 1 sup size laid (pointers_from at len values)) before (mapped_blocks 2 sup size one second >>= behind_second) one_looked
    unfolding behind_first
    behind_one = comes_value told _ before one_later (mapped_blocks 1 sup size laid first) behind_first before one_same start one one_looked one_read

    pub second_faults : (later : Option (List ℕ)) (looked : List Range) (result : Result Laid ReadFault) (fault : ReadFault) → later ≡ told → IsErr result → IsErrAnd result (λ other. other ≡ fault)
        → (let stops : Result Laid ReadFault = Err fault in ReadsAs later (mapped_blocks 2 sup size one second) one_looked looked stops) → ReadsAs told (rising_blocks 1 sup size laid (pointers_from at len values)) before looked result
    second_faults later looked result fault same fails passed read =
        ends_with told _ before looked result fault fails passed (comes_fault told _ before later (mapped_blocks 2 sup size one second) behind_second one_looked same behind_one fault looked looked read)

    module _ (two_later : Option (List ℕ)) (two_same : two_later ≡ told) (two_looked : List Range) (two : Laid) (two_read : ReadsAs two_later (mapped_blocks 2 sup size one second) one_looked two_looked (Ok two)) where
      behind_two : IsCome told (rising_blocks 1 sup size laid (pointers_from at len values)) before (mapped_blocks 3 sup size two third >>= (λ c. Done c)) two_looked
      unfolding behind_second
      behind_two = comes_value told _ before two_later (mapped_blocks 2 sup size one second) behind_second one_looked two_same behind_one two two_looked two_read

      pub third_faults : (later : Option (List ℕ)) (looked : List Range) (result : Result Laid ReadFault) (fault : ReadFault) → later ≡ told → IsErr result → IsErrAnd result (λ other. other ≡ fault)
          → (let stops : Result Laid ReadFault = Err fault in ReadsAs later (mapped_blocks 3 sup size two third) two_looked looked stops) → ReadsAs told (rising_blocks 1 sup size laid (pointers_from at len values)) before looked result
      third_faults later looked result fault same fails passed read =
          ends_with told _ before looked result fault fails passed (comes_fault told _ before later (mapped_blocks 3 sup size two third) (λ c. Done c) two_looked same behind_two fault looked looked read)

      pub third_ends : (later : Option (List ℕ)) (looked : List Range) (last : Laid) → later ≡ told → ReadsAs later (mapped_blocks 3 sup size two third) two_looked looked (Ok last) → ReadsAs told (rising_blocks 1 sup size laid (pointers_from at len values)) before looked (Ok last)
      third_ends later looked last same read = comes_done told _ before last looked (comes_value told _ before later (mapped_blocks 3 sup size two third) (λ c. Done c) two_looked same behind_two last looked read)

-- ---- a stream of direct pointers, and three to blocks of pointers

pub same_pointers : (at other len long : ℕ) (values list : List ℤ) → at ≡ other → len ≡ long → values ≡ list → pointers_from at len values ≡ pointers_from other long list
same_pointers at other len long values list places lens lists =
    ap (λ n. pointers_from n len values) places ∙ ap (λ n. pointers_from other n values) lens ∙ ap (λ xs. pointers_from other long xs) lists

module _ (sup : Super) (size : ℕ) (direct indirect found : List Pointer) (runs long : ℕ) (none : Laid) (same : found ≡ direct) (is_long : long ≡ size) (is_none : none ≡ none_laid runs) where
  stream_is : stream_blocks sup (record { size = size; direct = direct; indirect = indirect }) runs ≡ through (mapped_blocks 0 sup long) none found >>= (λ laid. rising_blocks 1 sup size laid indirect)
  unfolding stream_blocks
  stream_is =
      ap (λ list. through (mapped_blocks 0 sup size) (none_laid runs) list >>= (λ laid. rising_blocks 1 sup size laid indirect)) (sym same)
      ∙ ap (λ start. through (mapped_blocks 0 sup size) start found >>= (λ laid. rising_blocks 1 sup size laid indirect)) (sym is_none)
      ∙ ap (λ n. through (mapped_blocks 0 sup n) none found >>= (λ laid. rising_blocks 1 sup size laid indirect)) (sym is_long)

  pub direct_refused : (result : Result Laid ReadFault) (fault : ReadFault) → IsErr result → IsErrAnd result (λ other. other ≡ fault)
      → (let stops : Result Laid ReadFault = Err fault in Settles stops (through (mapped_blocks 0 sup long) none found)) → Settles result (stream_blocks sup (record { size = size; direct = direct; indirect = indirect }) runs)
  direct_refused result fault fails passed settles =
      let stops : Result Laid ReadFault = Err fault in
      fault_settles result fault _ fails passed (settles_as stops _ _ stream_is (settles_first fault (through (mapped_blocks 0 sup long) none found) (λ laid. rising_blocks 1 sup size laid indirect) settles))

  module _ (laid : Laid) (settled : through (mapped_blocks 0 sup long) none found ≡ Done laid) where
    behind_direct : stream_blocks sup (record { size = size; direct = direct; indirect = indirect }) runs ≡ rising_blocks 1 sup size laid indirect
    behind_direct = stream_is ∙ ap (λ ask. ask >>= (λ laid. rising_blocks 1 sup size laid indirect)) settled

    pub stream_reads : (told : Option (List ℕ)) (before looked : List Range) (result : Result Laid ReadFault) (pointers : List Pointer) → pointers ≡ indirect → ReadsAs told (rising_blocks 1 sup size laid pointers) before looked result
        → ReadsAs told (stream_blocks sup (record { size = size; direct = direct; indirect = indirect }) runs) before looked result
    stream_reads told before looked result pointers list read =
        let P : Ask Refusal Laid → Type 0 = λ ask. ReadsAs told ask before looked result in
        subst P (ap (λ xs. rising_blocks 1 sup size laid xs) list ∙ sym behind_direct) read

    pub stream_stops : (told : Option (List ℕ)) (before looked : List Range) (result : Result Laid ReadFault) (fault : ReadFault) (pointers : List Pointer) → pointers ≡ indirect → IsErr result → IsErrAnd result (λ other. other ≡ fault)
        → (let stops : Result Laid ReadFault = Err fault in ReadsAs told (rising_blocks 1 sup size laid pointers) before looked stops) → ReadsAs told (stream_blocks sup (record { size = size; direct = direct; indirect = indirect }) runs) before looked result
    stream_stops told before looked result fault pointers list fails passed read =
        ends_with told _ before looked result fault fails passed (stream_reads told before looked (Err fault) pointers list read)

-- a stream of direct pointers alone
pub short_stream : (sup : Super) (size : ℕ) (direct found : List Pointer) (runs long : ℕ) (none laid : Laid) → found ≡ direct → long ≡ size → none ≡ none_laid runs → through (mapped_blocks 0 sup long) none found ≡ Done laid
    → stream_blocks sup (record { size = size; direct = direct; indirect = [] }) runs ≡ Done laid
short_stream sup size direct found runs long none laid same is_long is_none settled = stream_is sup size direct [] found runs long none same is_long is_none ∙ ap (λ ask. ask >>= (λ laid. rising_blocks 1 sup size laid [])) settled

-- ---- a walk over a whole stream

pub all_covered : (sup : Super) (size : ℕ) (laid : Laid) → wrong_field sup ≡ None → IsUnderWay sup size laid → block_count sup size ≤ laid.block → covers_from 0 size laid.pieces ≡ true
all_covered sup size laid sound way past =
    let some = (block_bounds sup sound).0 in
    let end : min (laid.block * block_size sup) size ≡ size = omega (arith, blocks_hold size (block_size sup) laid.block (omega (arith, some)) past) in
    ap (λ n. covers_from 0 n laid.pieces) (sym end) ∙ way.covered

module _ (sup : Super) (inode : Inode) (sound : wrong_field sup ≡ None) (good : sound_inode sup inode ≡ Done tt) where
  passed : IsSoundInode sup inode
  passed = sound_gives [] sup inode tt (ap (λ ask. result_of [] ask) good)

  pub short_content : inode.size ≤ 4611686018427387904
  short_content = short_size sup inode passed.short

  reached : block_count sup inode.size ≤ 12 + span sup 1 + span sup 2 + span sup 3
  reached = reached_blocks sup inode passed.short (has_pointers sup (is_sound sup sound)).some_bytes

  pub content_covered : (runs count : ℕ) (none direct laid : Laid) → count ≡ 12 → none ≡ none_laid runs → HasGone sup inode.size count none direct → HasGone sup inode.size (span sup 1 + span sup 2 + span sup 3) direct laid → IsUnderWay sup inode.size laid → covers_from 0 inode.size laid.pieces ≡ true
  content_covered runs count none direct laid twelve is_none went rest way =
      let N : Laid → Type 0 = λ start. HasGone sup inode.size count start direct in
      let first : HasGone sup inode.size count (none_laid runs) direct = subst N is_none went in
      all_covered sup inode.size laid sound way
      (⊎_elim
      (λ on. ⊎_elim (λ was. omega (arith, on, was, twelve, reached)) (λ past. omega (arith, on, past)) first)
      (λ past. past)
      rest)

  pub extended_covered : (runs count long : ℕ) (none laid : Laid) → count ≡ 2 → long ≡ inode.extsize → none ≡ none_laid runs → HasGone sup long count none laid → IsUnderWay sup long laid → covers_from 0 inode.extsize laid.pieces ≡ true
  extended_covered runs count long none laid two is_long is_none went under =
      let G : ℕ → Type 0 = λ n. HasGone sup n count (none_laid runs) laid in
      let N : Laid → Type 0 = λ start. HasGone sup long count start laid in
      let gone : HasGone sup inode.extsize count (none_laid runs) laid = subst G is_long (subst N is_none went) in
      let way : IsUnderWay sup inode.extsize laid = let W : ℕ → Type 0 = λ n. IsUnderWay sup n laid in subst W is_long under in
      let few : block_count sup inode.extsize ≤ 2 = extended_reached [] sup inode sound passed in
      all_covered sup inode.extsize laid sound way (⊎_elim (λ on. omega (arith, on, two, few)) (λ past. past) gone)

  -- ---- where the bytes of the streams stand

  pub content_placed : (told : Option (List ℕ)) (runs : ℕ) (before looked : List Range) (laid : Laid) → length inode.direct ≡ 12 → length inode.indirect ≡ 3
      → (let found : Result Laid ReadFault = Ok laid in ReadsAs told (stream_blocks sup (content_stream sup inode) runs) before looked found)
      → IfSome told (λ image. AreStreamPieces image sup (content_stream sup inode) laid.pieces) × IfSome told (λ image. laid.slack ≡ slack_of image sup (content_stream sup inode))
  content_placed None runs before looked laid twelve three read = (tt, tt)
  content_placed (Some image) runs before looked laid twelve three read = content_is_laid image sup inode sound passed twelve three runs laid read.given

  pub extended_placed : (runs : ℕ) (laid : Laid) → length inode.ext ≡ 2 → stream_blocks sup (extended_stream inode) runs ≡ Done laid
      → (image : List ℕ) → AreStreamPieces image sup (extended_stream inode) laid.pieces × (laid.slack ≡ slack_of image sup (extended_stream inode))
  extended_placed runs laid two settled image = extended_is_laid image sup inode sound passed two runs laid (ap (λ ask. result_of image ask) settled)
