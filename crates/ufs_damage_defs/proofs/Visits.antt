-- The blocks of pointers of a stream that are visited, as one list.
use Rattle.std.specs.Prelude.{◌≡◌, ◌⊎◌, ℕ, zero, suc, ◌+◌, ◌*◌, ◌<◌, ◌≤◌, ℤ, pos, negsuc, Bool, true, false, nat_le, if◌then◌else◌, Option, List, [], ◌∷◌, ◌++◌, length, map, refl}
use Rattle.std.specs.List.{Contains}
use Rattle.std.proofs.Common.{sym, subst, inl, inr, arith, ⊎_elim}
use Rattle.std.proofs.Math.Nat.{mul-le-mul_right}
use Rattle.std.proofs.lemmas.Bool.{lt-leb, cases_eq}
use Rattle.std.proofs.lemmas.List.Elements.{Contains-append_left, Contains-append_right, Contains-append_cases}
use Rattle.ufs_inode_defs.specs.Layout.{pointer_len}
use Rattle.ufs_inode_defs.specs.Superblock.{block_size}
use Rattle.ufs_inode_defs.specs.Stream.{Pointer, Stream, span, block_count}
use Rattle.ufs_inode_defs.specs.Blocks.{fragment_place, lies_within}
use Rattle.ufs_inode_defs.specs.BlockPlace.{pointer_at, byte_place}
use Rattle.ufs_inode_defs.specs.Numbers.{numbers_from}
use Rattle.ufs_inode_defs.specs.declared.superblock.Super.{Super}
use Rattle.ufs_inode_defs.proofs.BlockSteps.{HasPointers}
use Rattle.ufs_inode_defs.proofs.BlockLaw.{not_past, some_span}
use Rattle.ufs_damage_defs.specs.StreamDamage.{StandsAt, first_mapped, IsUsed, Direct, Rising, Below, Start, AtByte, AtPointers, BeginsRun, FirstPiece, NextPiece, Visit}
use Rattle.ufs_damage_defs.proofs.NameFacts.{in_none, in_cases, in_head, in_tail, in_filter}
use Rattle.ufs_damage_defs.proofs.Distinct.{AreDistinct, distinct-append, in_map, of_map, distinct-map}
use Rattle.ufs_damage_defs.proofs.PieceStarts.{in_numbers, of_numbers, distinct_numbers, of_filter, distinct-filter, anew_differs, differs_anew, begins_at, beginnings}

-- ---- a block of pointers in front of the end, and those below it

abbrev pub tree : Bool → Bool → Start → List Start → List Start
tree past within head below = if past then [] else head ∷ (if within then below else [])

of_tree : (past within : Bool) (head : Start) (below : List Start) (start : Start) → Contains (tree past within head below) start → (past ≡ false) × ((head ≡ start) ⊎ ((within ≡ true) × Contains below start))
of_tree true within head below start has = absurd (in_none start has)
of_tree false true head below start has = (refl, ⊎_elim (λ same. inl same) (λ behind. inr (refl, behind)) (in_cases head start below has))
of_tree false false head below start has = (refl, ⊎_elim (λ same. inl same) (λ behind. absurd (in_none start behind)) (in_cases head start [] has))

tree_head : (past within : Bool) (head : Start) (below : List Start) → past ≡ false → Contains (tree past within head below) head
tree_head true within head below is = absurd cc
tree_head false within head below is = in_head head (if within then below else [])

tree_below : (past within : Bool) (head : Start) (below : List Start) (start : Start) → past ≡ false → within ≡ true → Contains below start → Contains (tree past within head below) start
tree_below true within head below start is in_volume has = absurd cc
tree_below false true head below start is in_volume has = in_tail head start below has
tree_below false false head below start is in_volume has = absurd cc

distinct_tree : (past within : Bool) (head : Start) (below : List Start) → (Contains below head → ⊥) → AreDistinct below → AreDistinct (tree past within head below)
distinct_tree true within head below never distinct = tt
distinct_tree false true head below never distinct = (never, distinct)
distinct_tree false false head below never distinct = ((λ has. in_none head has), tt)

pub tree_length : (past within : Bool) (head : Start) (below : List Start) → past ≡ false → within ≡ true → length (tree past within head below) ≡ suc (length below)
tree_length true within head below is in_volume = absurd cc
tree_length false true head below is in_volume = refl
tree_length false false head below is in_volume = absurd cc

-- a visit at a pointer of a level that maps blocks from one on, or below it
abbrev IsIn : Super → ℕ → ℕ → Start → Type 0
IsIn sup level first (AtByte byte) = ⊥
IsIn sup level first (AtPointers below block) = (below ≤ level) × (first ≤ block) × (block < first + span sup level)

module _ (image : List ℕ) (sup : Super) (stream : Stream) where
  -- at the pointers of a block of pointers from a number on
  abbrev pub children : (ℕ → ℤ → List Start) → ℕ → ℕ → ℕ → ℕ → ℕ → List Start
  children visit place first width zero number = []
  children visit place first width (suc more) number = visit (first + number * width) (pointer_at image sup place number) ++ children visit place first width more (number + 1)

  -- at a pointer of a level that maps blocks from one on
  abbrev pub visits : ℕ → ℕ → ℤ → List Start
  visits zero first value = []
  visits (suc level) first (pos zero) = []
  visits (suc level) first (pos (suc fragment)) =
      tree (nat_le (block_count sup stream.size) first) (lies_within sup (suc fragment) (block_size sup)) (AtPointers (suc level) first)
      (children (visits level) (fragment_place sup (suc fragment)) first (span sup level) sup.nindir 0)
  visits (suc level) first (negsuc n) = []

  -- at pointers of rising levels
  abbrev pub rising_visits : ℕ → List Pointer → List Start
  rising_visits number [] = []
  rising_visits number (pointer ∷ pointers) = visits (suc number) (first_mapped sup stream number) pointer.value ++ rising_visits (suc number) pointers

  -- past the end there are none
  pub past_none : (level first : ℕ) (value : ℤ) → nat_le (block_count sup stream.size) first ≡ true → visits level first value ≡ []
  past_none zero first value past = refl
  past_none (suc level) first (pos zero) past = refl
  past_none (suc level) first (negsuc n) past = refl
  past_none (suc level) first (pos (suc fragment)) past = rw past refl

  -- ---- the pointers of a block

  record IsAtChild (visit : ℕ → ℤ → List Start) (place first width more number : ℕ) (start : Start) : Type 0 where
    index : ℕ
    above : number ≤ index
    below : index < number + more
    has : Contains (visit (first + index * width) (pointer_at image sup place index)) start

  of_children : (visit : ℕ → ℤ → List Start) (place first width more number : ℕ) (start : Start) → Contains (children visit place first width more number) start → IsAtChild visit place first width more number start
  of_children visit place first width zero number start has = absurd (in_none start has)
  of_children visit place first width (suc more) number start has =
      ⊎_elim
      (λ here. record { index = number; above = omega arith; below = omega arith; has = here })
      (λ behind.
      let rest = of_children visit place first width more (number + 1) start behind in
      let above = rest.above in
      let below = rest.below in
      record { index = rest.index; above = omega (arith, above); below = omega (arith, below); has = rest.has })
      (Contains-append_cases (visit (first + number * width) (pointer_at image sup place number)) (children visit place first width more (number + 1)) start has)

  in_children : (visit : ℕ → ℤ → List Start) (place first width more number index : ℕ) (start : Start) → number ≤ index → index < number + more
      → Contains (visit (first + index * width) (pointer_at image sup place index)) start → Contains (children visit place first width more number) start
  in_children visit place first width zero number index start above below has = absurd (omega (arith, above, below))
  in_children visit place first width (suc more) number index start above below has =
      let here : List Start = visit (first + number * width) (pointer_at image sup place number) in
      let rest : List Start = children visit place first width more (number + 1) in
      ⊎_elim
      (λ same.
      let P : ℕ → Type 0 = λ n. Contains (visit (first + n * width) (pointer_at image sup place n)) start in
      Contains-append_left here rest start (subst P (sym same) has))
      (λ differ. Contains-append_right here rest start (in_children visit place first width more (number + 1) index start (omega (arith, above, differ)) (omega (arith, below)) has))
      (cases_eq number index)

  -- ---- where they lie

  wider_in : (level first index : ℕ) (start : Start) → index < sup.nindir → IsIn sup level (first + index * span sup level) start → IsIn sup (suc level) first start
  wider_in level first index (AtByte byte) below is = is
  wider_in level first index (AtPointers under block) below is =
      let next : suc index * span sup level ≤ sup.nindir * span sup level = mul-le-mul_right (span sup level) below in
      let a = is.0 in
      let b = is.1 in
      let c = is.2 in
      (omega (arith, a), omega (arith, b), omega (arith, c, next))

  apart_in : (level first number index : ℕ) (start : Start) → number < index → IsIn sup level (first + number * span sup level) start → IsIn sup level (first + index * span sup level) start → ⊥
  apart_in level first number index (AtByte byte) before one other = one
  apart_in level first number index (AtPointers under block) before one other =
      let next : suc number * span sup level ≤ index * span sup level = mul-le-mul_right (span sup level) before in
      let a = one.2 in
      let b = other.1 in
      omega (arith, a, b, next)

  module _ (has : HasPointers sup) where
    visits_in : (level first : ℕ) (value : ℤ) (start : Start) → Contains (visits level first value) start → IsIn sup level first start
    visits_in zero first value start among = absurd (in_none start among)
    visits_in (suc level) first (pos zero) start among = absurd (in_none start among)
    visits_in (suc level) first (negsuc n) start among = absurd (in_none start among)
    visits_in (suc level) first (pos (suc fragment)) start among =
        let width : ℕ = span sup level in
        let place : ℕ = fragment_place sup (suc fragment) in
        let below : List Start = children (visits level) place first width sup.nindir 0 in
        let some = some_span sup has.some_pointers (suc level) in
        ⊎_elim
        (λ same. subst (IsIn sup (suc level) first) same (omega arith, omega arith, omega (arith, some)))
        (λ behind.
        let child = of_children (visits level) place first width sup.nindir 0 start behind.1 in
        let inside = child.below in
        wider_in level first child.index start (omega (arith, inside)) (visits_in level (first + child.index * width) (pointer_at image sup place child.index) start child.has))
        (of_tree (nat_le (block_count sup stream.size) first) (lies_within sup (suc fragment) (block_size sup)) (AtPointers (suc level) first) below start among).1

    distinct_children : (level : ℕ) → ((first : ℕ) (value : ℤ) → AreDistinct (visits level first value)) → (place first more number : ℕ) → AreDistinct (children (visits level) place first (span sup level) more number)
    distinct_children level each place first zero number = tt
    distinct_children level each place first (suc more) number =
        let width : ℕ = span sup level in
        distinct-append (visits level (first + number * width) (pointer_at image sup place number)) (children (visits level) place first width more (number + 1))
        (each (first + number * width) (pointer_at image sup place number))
        (distinct_children level each place first more (number + 1))
        (λ start front back.
        let child = of_children (visits level) place first width more (number + 1) start back in
        let above = child.above in
        apart_in level first number child.index start (omega (arith, above)) (visits_in level (first + number * width) (pointer_at image sup place number) start front)
        (visits_in level (first + child.index * width) (pointer_at image sup place child.index) start child.has))

    distinct_visits : (level first : ℕ) (value : ℤ) → AreDistinct (visits level first value)
    distinct_visits zero first value = tt
    distinct_visits (suc level) first (pos zero) = tt
    distinct_visits (suc level) first (negsuc n) = tt
    distinct_visits (suc level) first (pos (suc fragment)) =
        let width : ℕ = span sup level in
        let place : ℕ = fragment_place sup (suc fragment) in
        distinct_tree (nat_le (block_count sup stream.size) first) (lies_within sup (suc fragment) (block_size sup)) (AtPointers (suc level) first) (children (visits level) place first width sup.nindir 0)
        (λ among.
        let child = of_children (visits level) place first width sup.nindir 0 (AtPointers (suc level) first) among in
        let low = (visits_in level (first + child.index * width) (pointer_at image sup place child.index) (AtPointers (suc level) first) child.has).0 in
        omega (arith, low))
        (distinct_children level (distinct_visits level) place first sup.nindir 0)

    -- those at pointers of rising levels lie behind what the pointers in front map
    abbrev IsBehind : ℕ → Start → Type 0
    IsBehind first (AtByte byte) = ⊥
    IsBehind first (AtPointers level block) = first ≤ block

    in_behind : (level first : ℕ) (start : Start) → IsIn sup level first start → IsBehind first start
    in_behind level first (AtByte byte) is = is
    in_behind level first (AtPointers under block) is = is.1

    farther : (first later : ℕ) (start : Start) → first ≤ later → IsBehind later start → IsBehind first start
    farther first later (AtByte byte) before is = is
    farther first later (AtPointers level block) before is = omega (arith, before, is)

    in_not_behind : (level first : ℕ) (start : Start) → IsIn sup level first start → IsBehind (first + span sup level) start → ⊥
    in_not_behind level first (AtByte byte) is behind = is
    in_not_behind level first (AtPointers under block) is behind = let b = is.2 in omega (arith, b, behind)

    rising_behind : (number : ℕ) (pointers : List Pointer) (start : Start) → Contains (rising_visits number pointers) start → IsBehind (first_mapped sup stream number) start
    rising_behind number [] start among = absurd (in_none start among)
    rising_behind number (pointer ∷ pointers) start among =
        let first : ℕ = first_mapped sup stream number in
        ⊎_elim
        (λ here. in_behind (suc number) first start (visits_in (suc number) first pointer.value start here))
        (λ later. farther first (first_mapped sup stream (suc number)) start (omega arith) (rising_behind (suc number) pointers start later))
        (Contains-append_cases (visits (suc number) first pointer.value) (rising_visits (suc number) pointers) start among)

    distinct_rising : (number : ℕ) (pointers : List Pointer) → AreDistinct (rising_visits number pointers)
    distinct_rising number [] = tt
    distinct_rising number (pointer ∷ pointers) =
        let first : ℕ = first_mapped sup stream number in
        distinct-append (visits (suc number) first pointer.value) (rising_visits (suc number) pointers) (distinct_visits (suc number) first pointer.value) (distinct_rising (suc number) pointers)
        (λ start front back. in_not_behind (suc number) first start (visits_in (suc number) first pointer.value start front) (rising_behind (suc number) pointers start back))

  -- ---- each is one, and each is there

  pub used_below : (level first : ℕ) (pointer : Pointer) → IsUsed image sup stream level first pointer → first < block_count sup stream.size
  used_below level first pointer (Direct block p stands below) = below
  used_below level first pointer (Rising number p stands below) = below
  used_below level first pointer (Below l f number fragment above used leads within inside below) = below

  visits_begin : (level first at : ℕ) (value : ℤ) (start : Start) → (first < block_count sup stream.size → IsUsed image sup stream level first (record { at = at; value = value })) → Contains (visits level first value) start
      → BeginsRun image sup stream start
  visits_begin zero first at value start used among = absurd (in_none start among)
  visits_begin (suc level) first at (pos zero) start used among = absurd (in_none start among)
  visits_begin (suc level) first at (negsuc n) start used among = absurd (in_none start among)
  visits_begin (suc level) first at (pos (suc fragment)) start used among =
      let width : ℕ = span sup level in
      let place : ℕ = fragment_place sup (suc fragment) in
      let above : Pointer = record { at = at; value = pos (suc fragment) } in
      let found = of_tree (nat_le (block_count sup stream.size) first) (lies_within sup (suc fragment) (block_size sup)) (AtPointers (suc level) first) (children (visits level) place first width sup.nindir 0) start among in
      let is_used : IsUsed image sup stream (suc level) first above = used (not_past (block_count sup stream.size) first found.0) in
      ⊎_elim
      (λ same. subst (BeginsRun image sup stream) same (Visit level first fragment above is_used refl))
      (λ behind.
      let child = of_children (visits level) place first width sup.nindir 0 start behind.1 in
      let inside = child.below in
      visits_begin level (first + child.index * width) (place + child.index * pointer_len sup.version) (pointer_at image sup place child.index) start
      (λ below. Below level first child.index fragment above is_used refl behind.0 (omega (arith, inside)) below) child.has)
      found.1

  rising_begin : (number : ℕ) (pointers : List Pointer) (start : Start) → ((i : ℕ) (pointer : Pointer) → StandsAt pointers i pointer → StandsAt stream.indirect (number + i) pointer) → Contains (rising_visits number pointers) start
      → BeginsRun image sup stream start
  rising_begin number [] start stand among = absurd (in_none start among)
  rising_begin number (pointer ∷ pointers) start stand among =
      let first : ℕ = first_mapped sup stream number in
      let same : number + 0 ≡ number = omega arith in
      let R : ℕ → Type 0 = λ n. StandsAt stream.indirect n pointer in
      ⊎_elim
      (λ here. visits_begin (suc number) first pointer.at pointer.value start (λ below. Rising number pointer (subst R same (stand 0 pointer refl)) below) here)
      (λ later. rising_begin (suc number) pointers start
      (λ i p stands. let next : number + suc i ≡ suc number + i = omega arith in let S : ℕ → Type 0 = λ n. StandsAt stream.indirect n p in subst S next (stand (suc i) p stands)) later)
      (Contains-append_cases (visits (suc number) first pointer.value) (rising_visits (suc number) pointers) start among)

  in_rising : (before number : ℕ) (pointers : List Pointer) (pointer : Pointer) (start : Start) → StandsAt pointers number pointer
      → Contains (visits (suc (before + number)) (first_mapped sup stream (before + number)) pointer.value) start → Contains (rising_visits before pointers) start
  in_rising before number [] pointer start stands among = absurd stands
  in_rising before zero (first ∷ pointers) pointer start stands among =
      let same : before + 0 ≡ before = omega arith in
      let P : ℕ → Type 0 = λ n. Contains (visits (suc n) (first_mapped sup stream n) pointer.value) start in
      let Q : Pointer → Type 0 = λ p. Contains (visits (suc before) (first_mapped sup stream before) p.value) start in
      Contains-append_left (visits (suc before) (first_mapped sup stream before) first.value) (rising_visits (suc before) pointers) start (subst Q (sym stands) (subst P same among))
  in_rising before (suc number) (first ∷ pointers) pointer start stands among =
      let same : before + suc number ≡ suc before + number = omega arith in
      let P : ℕ → Type 0 = λ n. Contains (visits (suc n) (first_mapped sup stream n) pointer.value) start in
      Contains-append_right (visits (suc before) (first_mapped sup stream before) first.value) (rising_visits (suc before) pointers) start
      (in_rising (suc before) number pointers pointer start stands (subst P same among))

  visits_among : (level first : ℕ) (pointer : Pointer) → IsUsed image sup stream level first pointer → (start : Start) → Contains (visits level first pointer.value) start → Contains (rising_visits 0 stream.indirect) start
  visits_among level first pointer (Direct block p stands below) start among = absurd (in_none start among)
  visits_among level first pointer (Rising number p stands below) start among =
      let same : number ≡ 0 + number = omega arith in
      let P : ℕ → Type 0 = λ n. Contains (visits (suc n) (first_mapped sup stream n) pointer.value) start in
      in_rising 0 number stream.indirect pointer start stands (subst P same among)
  visits_among level first pointer (Below l f number fragment above used leads within inside below) start among =
      let width : ℕ = span sup level in
      let place : ℕ = fragment_place sup (suc fragment) in
      let V : ℤ → Type 0 = λ value. Contains (visits (suc level) f value) start in
      visits_among (suc level) f above used start
      (subst V (sym leads)
      (tree_below (nat_le (block_count sup stream.size) f) (lies_within sup (suc fragment) (block_size sup)) (AtPointers (suc level) f) (children (visits level) place f width sup.nindir 0) start
      (lt-leb (block_count sup stream.size) f (used_below (suc level) f above used)) within
      (in_children (visits level) place f width sup.nindir 0 number start (omega arith) (omega (arith, inside)) among)))

  pub visits_found : (level first fragment : ℕ) (pointer : Pointer) → IsUsed image sup stream (suc level) first pointer → pointer.value ≡ pos (suc fragment) → Contains (rising_visits 0 stream.indirect) (AtPointers (suc level) first)
  visits_found level first fragment pointer used leads =
      let V : ℤ → Type 0 = λ value. Contains (visits (suc level) first value) (AtPointers (suc level) first) in
      visits_among (suc level) first pointer used (AtPointers (suc level) first)
      (subst V (sym leads)
      (tree_head (nat_le (block_count sup stream.size) first) (lies_within sup (suc fragment) (block_size sup)) (AtPointers (suc level) first)
      (children (visits level) (fragment_place sup (suc fragment)) first (span sup level) sup.nindir 0) (lt-leb (block_count sup stream.size) first (used_below (suc level) first pointer used))))

  -- ---- all runs of the stream

  abbrev pub stream_starts : List Start
  stream_starts = map AtByte (beginnings (byte_place image sup stream) 0 stream.size) ++ rising_visits 0 stream.indirect

  pub distinct_starts : HasPointers sup → AreDistinct stream_starts
  distinct_starts has =
      let bytes : List ℕ = beginnings (byte_place image sup stream) 0 stream.size in
      distinct-append (map AtByte bytes) (rising_visits 0 stream.indirect)
      (distinct-map AtByte bytes (λ a b same. cc) (distinct-filter (begins_at (byte_place image sup stream)) (numbers_from 0 stream.size) (distinct_numbers stream.size 0)))
      (distinct_rising has 0 stream.indirect)
      (λ start front back.
      let byte = of_map AtByte bytes start front in
      let P : Start → Type 0 = λ s. IsBehind has (first_mapped sup stream 0) s → ⊥ in
      subst P byte.2 (λ never. never) (rising_behind has 0 stream.indirect start back))

  pub starts_begin : (start : Start) → Contains stream_starts start → BeginsRun image sup stream start
  starts_begin start among =
      let place : ℕ → Option ℕ = byte_place image sup stream in
      let bytes : List ℕ = beginnings place 0 stream.size in
      ⊎_elim
      (λ front.
      let found = of_map AtByte bytes start front in
      let both = of_filter (begins_at place) (numbers_from 0 stream.size) found.0 found.1 in
      let below = (of_numbers stream.size 0 found.0 both.0).1 in
      subst (BeginsRun image sup stream) found.2 (at_byte found.0 (omega (arith, below)) both.1))
      (λ back. rising_begin 0 stream.indirect start (λ i p stands. let same : i ≡ 0 + i = omega arith in let S : ℕ → Type 0 = λ n. StandsAt stream.indirect n p in subst S same stands) back)
      (Contains-append_cases (map AtByte bytes) (rising_visits 0 stream.indirect) start among)
    where
      at_byte : (byte : ℕ) → byte < stream.size → begins_at (byte_place image sup stream) byte ≡ true → BeginsRun image sup stream (AtByte byte)
      at_byte zero below is = FirstPiece below
      at_byte (suc byte) below is = NextPiece byte below (anew_differs (byte_place image sup stream byte) (byte_place image sup stream (suc byte)) is)

  byte_found : (byte : ℕ) → byte < stream.size → begins_at (byte_place image sup stream) byte ≡ true → Contains stream_starts (AtByte byte)
  byte_found byte below is =
      let bytes : List ℕ = beginnings (byte_place image sup stream) 0 stream.size in
      Contains-append_left (map AtByte bytes) (rising_visits 0 stream.indirect) (AtByte byte)
      (in_map AtByte bytes byte (in_filter (begins_at (byte_place image sup stream)) byte (numbers_from 0 stream.size) (in_numbers stream.size 0 byte (omega arith) (omega (arith, below))) is))

  pub starts_found : (start : Start) → BeginsRun image sup stream start → Contains stream_starts start
  starts_found start (FirstPiece some) = byte_found 0 some refl
  starts_found start (NextPiece byte below differ) = byte_found (suc byte) below (differs_anew (byte_place image sup stream byte) (byte_place image sup stream (suc byte)) differ)
  starts_found start (Visit level first fragment pointer used leads) =
      Contains-append_right (map AtByte (beginnings (byte_place image sup stream) 0 stream.size)) (rising_visits 0 stream.indirect) (AtPointers (suc level) first) (visits_found level first fragment pointer used leads)
