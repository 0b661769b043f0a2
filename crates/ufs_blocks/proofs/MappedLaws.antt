-- What a pointer maps through blocks of pointers, at each exit of the reader and from pointer to pointer.
use Rattle.std.specs.Prelude.{◌≡◌, ℕ, zero, suc, ◌+◌, ◌-◌, ◌*◌, ◌<◌, ◌≤◌, pos, true, false, nat_le, IsErr, IsErrAnd, Option, Some, None, Result, Ok, Err, List, length, drop, get_or, refl}
use Rattle.std.specs.Int.{Width, cast_signed}
use Rattle.std.proofs.Common.{arith, ap, sym, ◌∙◌, subst, inl, inr, ⊎_elim}
use Rattle.std.proofs.lemmas.Bool.{lt-leb, le-leb}
use Rattle.std.proofs.lemmas.List.{take_all, drop-drop, length-drop}
use Rattle.std.proofs.Math.Nat.{mul-le-mul_right}
use Rattle.range_defs.specs.declared.Range.{Range}
use Rattle.bytes_defs.specs.Bytes.{part}
use Rattle.bytes_defs.specs.Numbers.{number_at, signed_at, bytes_of_width}
use Rattle.bytes_defs.specs.declared.order.Order.{Order}
use Rattle.bytes_defs.proofs.NumberLaws.{signed_at_number, number_at_part}
use Rattle.image_defs.specs.Ask.{Ask, Done, Stop, look, ◌>>=◌}
use Rattle.image_reads.specs.Steps.{ReadsAs, KeptWithin}
use Rattle.image_reads.proofs.Coming.{IsCome}
use Rattle.image_defs.specs.Through.{through}
use Rattle.image_reads.proofs.Steps.{begins, comes_to, comes_value, comes_done, comes_stop, nothing_says, through_value, through_fault, through_ends, ends_with}
use Rattle.rx_store.specs.Answers.{Answers}
use Rattle.rx_store.specs.declared.read_fault.ReadFault.{ReadFault}
use Rattle.rx_store.specs.declared.read_fault.ReadFault.TheVariants.{Device, NoMemory, NotThis, Damaged, Unsupported, Limit}
use Rattle.fault_defs.specs.declared.Refusal.{Refusal}
use Rattle.fault_defs.specs.declared.Refusal.TheVariants as refusal
use Rattle.ufs_inode_defs.specs.Layout.{layout_of, pointer_len}
use Rattle.ufs_inode_defs.specs.Numbers.{signed_row}
use Rattle.ufs_inode_defs.specs.Superblock.{wrong_field, block_size}
use Rattle.ufs_inode_defs.specs.Stream.{Pointer, pointers_from, span, block_count}
use Rattle.ufs_inode_defs.specs.Blocks.{Laid, runs_of, most_runs, with_hole, with_visit, counted_runs, mapped_blocks, led, pointers_in}
use Rattle.ufs_inode_defs.specs.declared.superblock.Super.{Super}
use Rattle.ufs_inode_defs.proofs.SoundSuper.{is_sound, has_pointers}
use Rattle.ufs_blocks.specs.UnderWay.{IsUnderWay, HasGone, Settles, led_to}
use Rattle.ufs_blocks.proofs.WayLaws.{settles_as, is_led}
use Rattle.ufs_blocks.proofs.DirectLaws.{fault_settles, led_faults}

-- a program that reads nothing was read
pub settled_reads : {X : Type 0} (told : Option (List ℕ)) (program : Ask Refusal X) (kept : List Range) (result : Result X ReadFault) → Settles result program → ReadsAs told program kept kept result
settled_reads {X = X} told program kept (Ok x) settles = comes_done told program kept x kept (comes_to told program kept program (Done x) kept settles (begins told program kept))
settled_reads told program kept (Err Device) settles = nothing_says told program kept kept Device tt
settled_reads told program kept (Err NoMemory) settles = nothing_says told program kept kept NoMemory tt
settled_reads told program kept (Err NotThis) settles = comes_stop told program kept refusal.NotThis kept kept (comes_to told program kept program (Stop refusal.NotThis) kept settles (begins told program kept))
settled_reads told program kept (Err (Damaged sort place)) settles =
    comes_stop told program kept (refusal.Damaged sort place) kept kept (comes_to told program kept program (Stop (refusal.Damaged sort place)) kept settles (begins told program kept))
settled_reads told program kept (Err (Unsupported what place)) settles =
    comes_stop told program kept (refusal.Unsupported what place) kept kept (comes_to told program kept program (Stop (refusal.Unsupported what place)) kept settles (begins told program kept))
settled_reads told program kept (Err (Limit bound number)) settles =
    comes_stop told program kept (refusal.Limit bound number) kept kept (comes_to told program kept program (Stop (refusal.Limit bound number)) kept settles (begins told program kept))

-- a refusal of what comes first is one of the whole
pub settles_first : {X Y : Type 0} (fault : ReadFault) (step : Ask Refusal X) (next : X → Ask Refusal Y) → (let first : Result X ReadFault = Err fault in Settles first step) → (let whole : Result Y ReadFault = Err fault in Settles whole (step >>= next))
settles_first Device step next settles = tt
settles_first NoMemory step next settles = tt
settles_first NotThis step next settles = ap (λ ask. ask >>= next) settles
settles_first (Damaged sort place) step next settles = ap (λ ask. ask >>= next) settles
settles_first (Unsupported what place) step next settles = ap (λ ask. ask >>= next) settles
settles_first (Limit bound number) step next settles = ap (λ ask. ask >>= next) settles

-- ---- a pointer to a block of pointers

module _ (sup : Super) (size level lower : ℕ) (is_level : level ≡ suc lower) (laid : Laid) (pointer : Pointer) (count : ℕ) (is : count ≡ block_count sup size) where
  behind_visit : ℕ → Laid → Ask Refusal Laid
  behind_visit place visited = look place (block_size sup) >>= (λ bytes. through (mapped_blocks lower sup size) visited (pointers_in sup place bytes))

  mapped_past : count ≤ laid.block → mapped_blocks level sup size laid pointer ≡ Done laid
  unfolding mapped_blocks
  mapped_past past =
      let all : nat_le (block_count sup size) laid.block ≡ true = le-leb (block_count sup size) laid.block (omega (arith, is, past)) in
      ap (λ n. mapped_blocks n sup size laid pointer) is_level ∙ rw all refl

  pub past_reads : (told : Option (List ℕ)) (kept : List Range) → count ≤ laid.block → ReadsAs told (mapped_blocks level sup size laid pointer) kept kept (Ok laid)
  past_reads told kept past = settled_reads told (mapped_blocks level sup size laid pointer) kept (Ok laid) (mapped_past past)

  module _ (on : laid.block < count) (len : ℕ) (same : len ≡ block_size sup) where
    mapped_on : mapped_blocks level sup size laid pointer ≡ led sup pointer len (counted_runs (with_hole sup size (span sup level) laid)) (λ place. counted_runs (with_visit laid) >>= behind_visit place)
    unfolding mapped_blocks behind_visit
    mapped_on =
        let some : nat_le (block_count sup size) laid.block ≡ false = lt-leb (block_count sup size) laid.block (omega (arith, is, on)) in
        let there : ℕ → Ask Refusal Laid = λ place. counted_runs (with_visit laid) >>= behind_visit place in
        let start : mapped_blocks (suc lower) sup size laid pointer ≡ led sup pointer (block_size sup) (counted_runs (with_hole sup size (span sup (suc lower)) laid)) there = rw some refl in
        ap (λ n. mapped_blocks n sup size laid pointer) is_level
        ∙ start
        ∙ ap (λ n. led sup pointer n (counted_runs (with_hole sup size (span sup (suc lower)) laid)) there) (sym same)
        ∙ ap (λ n. led sup pointer len (counted_runs (with_hole sup size (span sup n) laid)) there) (sym is_level)

    pub led_fault_reads : (told : Option (List ℕ)) (kept : List Range) (result : Result Laid ReadFault) (fault : ReadFault) → IsErr result → IsErrAnd result (λ other. other ≡ fault)
        → (let found : Result (Option ℕ) ReadFault = Err fault in Answers found (led_to sup pointer len)) → ReadsAs told (mapped_blocks level sup size laid pointer) kept kept result
    led_fault_reads told kept result fault fails passed answers =
        settled_reads told _ kept result
        (settles_as result _ _ mapped_on
        (fault_settles result fault _ fails passed (led_faults sup pointer len (counted_runs (with_hole sup size (span sup level) laid)) (λ place. counted_runs (with_visit laid) >>= behind_visit place) fault answers)))

    pub hole_reads : (told : Option (List ℕ)) (kept : List Range) (result : Result Laid ReadFault) (found : Option ℕ) (after : Laid) → found ≡ None → led_to sup pointer len ≡ Ok found → after ≡ with_hole sup size (span sup level) laid
        → Settles result (counted_runs after) → ReadsAs told (mapped_blocks level sup size laid pointer) kept kept result
    hole_reads told kept result found after none leads is_after settles =
        settled_reads told _ kept result
        (settles_as result _ _
        (mapped_on
        ∙ (is_led sup pointer len (counted_runs (with_hole sup size (span sup level) laid)) (λ place. counted_runs (with_visit laid) >>= behind_visit place) pointer.at pointer.value).0 (leads ∙ ap Ok none)
        ∙ ap counted_runs (sym is_after))
        settles)

    module _ (found : Option ℕ) (place : ℕ) (there : found ≡ Some place) (leads : led_to sup pointer len ≡ Ok found) where
      mapped_there : mapped_blocks level sup size laid pointer ≡ counted_runs (with_visit laid) >>= behind_visit place
      mapped_there =
          mapped_on
          ∙ (is_led sup pointer len (counted_runs (with_hole sup size (span sup level) laid)) (λ place. counted_runs (with_visit laid) >>= behind_visit place) pointer.at pointer.value).1 place (leads ∙ ap Ok there)

      pub visit_fault_reads : (told : Option (List ℕ)) (kept : List Range) (result : Result Laid ReadFault) (fault : ReadFault) → IsErr result → IsErrAnd result (λ other. other ≡ fault)
          → (let first : Result Laid ReadFault = Err fault in Settles first (counted_runs (with_visit laid))) → ReadsAs told (mapped_blocks level sup size laid pointer) kept kept result
      visit_fault_reads told kept result fault fails passed settles =
          settled_reads told _ kept result (settles_as result _ _ mapped_there (fault_settles result fault _ fails passed (settles_first fault (counted_runs (with_visit laid)) (behind_visit place) settles)))

      -- the block of pointers was read: its pointers are left
      pub pointers_come : (told later : Option (List ℕ)) (before now looked : List Range) (visited : Laid) (long : ℕ) (bytes : List ℕ) → counted_runs (with_visit laid) ≡ Done visited → long ≡ block_size sup → later ≡ told → now ≡ before → ReadsAs later (look place long) now looked (Ok bytes)
          → IsCome told (mapped_blocks level sup size laid pointer) before (through (mapped_blocks lower sup size) visited (pointers_in sup place bytes)) looked
      unfolding behind_visit
      pointers_come told later before now looked visited long bytes settled is_long untouched kept read =
          let whole : Ask Refusal Laid = mapped_blocks level sup size laid pointer in
          let next : List ℕ → Ask Refusal Laid = λ bytes. through (mapped_blocks lower sup size) visited (pointers_in sup place bytes) in
          let R : ℕ → Type 0 = λ n. ReadsAs later (look place n) now looked (Ok bytes) in
          let Q : List Range → Type 0 = λ ranges. IsCome told whole before (look place (block_size sup) >>= next) ranges in
          comes_value told whole before later (look place (block_size sup)) next now untouched
          (subst Q (sym kept) (comes_to told whole before whole (look place (block_size sup) >>= next) before (mapped_there ∙ ap (λ ask. ask >>= behind_visit place) settled) (begins told whole before)))
          bytes looked (subst R is_long read)

-- ---- the pointers of a block

pub pointers_in-length : (sup : Super) (place : ℕ) (bytes : List ℕ) → length (pointers_in sup place bytes) ≡ sup.nindir
pointers_in-length sup place bytes = by_count sup.nindir place bytes
  where
    by_count : (count at : ℕ) (bytes : List ℕ) → length (pointers_from at (pointer_len sup.version) (signed_row sup.order (layout_of sup.version).pointer count bytes)) ≡ count
    by_count zero at bytes = refl
    by_count (suc count) at bytes = ap suc (by_count count (at + pointer_len sup.version) (drop (pointer_len sup.version) bytes))

-- a number behind some bytes
number_behind : (order : Order) (width : Width) (bytes : List ℕ) (skip : ℕ) → skip + bytes_of_width width ≤ length bytes → signed_at order width (drop skip bytes) 0 ≡ signed_at order width bytes skip
unfolding part
number_behind order width bytes skip fits =
    let rest : ℕ = length bytes - skip in
    let whole : part bytes skip rest ≡ drop skip bytes = take_all rest (drop skip bytes) (omega (arith, length-drop skip bytes)) in
    let here : skip + 0 ≡ skip = omega arith in
    signed_at_number order width (drop skip bytes) 0
    ∙ ap (cast_signed width) (ap (λ list. number_at order (bytes_of_width width) list 0) (sym whole) ∙ number_at_part order (bytes_of_width width) bytes skip rest 0 (omega (arith, fits)) ∙ ap (number_at order (bytes_of_width width) bytes) here)
    ∙ sym (signed_at_number order width bytes skip)

row_at : (order : Order) (width : Width) (count i at : ℕ) (bytes : List ℕ) (d : Pointer) → i < count
    → get_or (pointers_from at (bytes_of_width width) (signed_row order width count bytes)) i d ≡ record { at = at + i * bytes_of_width width; value = signed_at order width (drop (i * bytes_of_width width) bytes) 0 }
row_at order width zero i at bytes d inside = absurd (omega (arith, inside))
row_at order width (suc count) zero at bytes d inside =
    let here : at ≡ at + 0 * bytes_of_width width = omega arith in
    let none : 0 ≡ 0 * bytes_of_width width = omega arith in
    ap (λ n. record { at = n; value = signed_at order width bytes 0 }) here
    ∙ ap (λ n. record { at = at + 0 * bytes_of_width width; value = signed_at order width (drop n bytes) 0 }) none
row_at order width (suc count) (suc i) at bytes d inside =
    let len : ℕ = bytes_of_width width in
    let on : at + len + i * len ≡ at + suc i * len = omega arith in
    let more : i * len + len ≡ suc i * len = omega arith in
    row_at order width count i (at + len) (drop len bytes) d (omega (arith, inside))
    ∙ ap (λ n. record { at = n; value = signed_at order width (drop (i * len) (drop len bytes)) 0 }) on
    ∙ ap (λ list. record { at = at + suc i * len; value = signed_at order width list 0 }) (drop-drop (i * len) len bytes ∙ ap (λ n. drop n bytes) (omega arith))

pub pointer_there : (sup : Super) (place number : ℕ) (bytes : List ℕ) (pointer d : Pointer) → number < sup.nindir → number * pointer_len sup.version + pointer_len sup.version ≤ length bytes → pointer.at ≡ place + number * pointer_len sup.version
    → pointer.value ≡ signed_at sup.order (layout_of sup.version).pointer bytes (number * pointer_len sup.version) → get_or (pointers_in sup place bytes) number d ≡ pointer
pointer_there sup place number bytes pointer d inside fits at value =
    row_at sup.order (layout_of sup.version).pointer sup.nindir number place bytes d inside
    ∙ ap (λ n. record { at = n; value = signed_at sup.order (layout_of sup.version).pointer (drop (number * pointer_len sup.version) bytes) 0 }) (sym at)
    ∙ ap (λ n. record { at = pointer.at; value = n }) (number_behind sup.order (layout_of sup.version).pointer bytes (number * pointer_len sup.version) fits ∙ sym value)

-- they lie in the block
pub pointer_fits : (sup : Super) (number len : ℕ) → wrong_field sup ≡ None → number < sup.nindir → len ≡ block_size sup → number * pointer_len sup.version + pointer_len sup.version ≤ len
pointer_fits sup number len sound inside same =
    let has = has_pointers sup (is_sound sup sound) in
    let next : suc number * pointer_len sup.version ≤ sup.nindir * pointer_len sup.version = mul-le-mul_right (pointer_len sup.version) inside in
    omega (arith, next, has.whole, same)

-- from pointer to pointer
module _ (sup : Super) (size lower : ℕ) (told : Option (List ℕ)) (whole : Ask Refusal Laid) (before : List Range) (place : ℕ) (bytes : List ℕ) (number : ℕ) (laid : Laid) (now : List Range)
    (come : IsCome told whole before (through (mapped_blocks lower sup size) laid (drop number (pointers_in sup place bytes))) now) where
  module _ (inside : number < sup.nindir) (fits : number * pointer_len sup.version + pointer_len sup.version ≤ length bytes) (pointer : Pointer) (at : pointer.at ≡ place + number * pointer_len sup.version)
      (value : pointer.value ≡ signed_at sup.order (layout_of sup.version).pointer bytes (number * pointer_len sup.version)) (later : Option (List ℕ)) (same : later ≡ told) (looked : List Range) where
    here : number < length (pointers_in sup place bytes)
    here = omega (arith, inside, pointers_in-length sup place bytes)

    item_reads : (result : Result Laid ReadFault) → ReadsAs later (mapped_blocks lower sup size laid pointer) now looked result → ReadsAs later (mapped_blocks lower sup size laid (get_or (pointers_in sup place bytes) number pointer)) now looked result
    item_reads result read =
        let P : Pointer → Type 0 = λ one. ReadsAs later (mapped_blocks lower sup size laid one) now looked result in
        subst P (sym (pointer_there sup place number bytes pointer pointer inside fits at value)) read

    pub pointer_goes_on : (after : Laid) → ReadsAs later (mapped_blocks lower sup size laid pointer) now looked (Ok after) → IsCome told whole before (through (mapped_blocks lower sup size) after (drop (number + 1) (pointers_in sup place bytes))) looked
    pointer_goes_on after read = through_value told whole before (mapped_blocks lower sup size) (pointers_in sup place bytes) number pointer laid now come later after looked here same (item_reads (Ok after) read)

    pub pointer_stops : (result : Result Laid ReadFault) (fault : ReadFault) → IsErr result → IsErrAnd result (λ other. other ≡ fault) → (let stops : Result Laid ReadFault = Err fault in ReadsAs later (mapped_blocks lower sup size laid pointer) now looked stops)
        → ReadsAs told whole before looked result
    pointer_stops result fault fails passed read =
        ends_with told whole before looked result fault fails passed
        (through_fault told whole before (mapped_blocks lower sup size) (pointers_in sup place bytes) number pointer laid now come later fault looked looked here same (item_reads (Err fault) read))

  pub pointers_end : sup.nindir ≤ number → ReadsAs told whole before now (Ok laid)
  pointers_end past =
      comes_done told whole before laid now
      (through_ends told whole before (mapped_blocks lower sup size) (pointers_in sup place bytes) number (record { at = 0; value = pos 0 }) laid now come (omega (arith, past, pointers_in-length sup place bytes)))

pub kept_wider : (last wider : ℕ) (before after : List Range) → last ≤ wider → KeptWithin last before after → KeptWithin wider before after
kept_wider last wider before after below kept = λ end enough ends. kept end (omega (arith, below, enough)) ends

-- ---- how far the walk has gone

pub gone_on : (sup : Super) (size number blocks : ℕ) (start laid after : Laid) → HasGone sup size (number * blocks) start laid → HasGone sup size blocks laid after → HasGone sup size ((number + 1) * blocks) start after
gone_on sup size number blocks start laid after was is =
    let more : (number + 1) * blocks ≡ number * blocks + blocks = omega arith in
    ⊎_elim
    (λ on. ⊎_elim (λ here. inl (omega (arith, on, here, more))) (λ past. inr past) is)
    (λ past. ⊎_elim (λ here. inr (omega (arith, past, here))) (λ far. inr far) is)
    was

pub gone_all : (sup : Super) (size number lower level : ℕ) (start visited laid : Laid) → level ≡ suc lower → visited ≡ with_visit start → sup.nindir ≤ number → number ≤ sup.nindir → HasGone sup size (number * span sup lower) visited laid
    → HasGone sup size (span sup level) start laid
gone_all sup size number lower level start visited laid is_level is_visited past most gone =
    let all : number ≡ sup.nindir = omega (arith, past, most) in
    let block : visited.block ≡ start.block = ap (λ one. one.block) is_visited in
    let whole : number * span sup lower ≡ span sup level = ap (λ n. n * span sup lower) all ∙ ap (span sup) (sym is_level) in
    ⊎_elim (λ here. inl (omega (arith, here, block, whole))) (λ far. inr far) gone

pub visit_way : (sup : Super) (size : ℕ) (laid visited : Laid) → IsUnderWay sup size laid → visited ≡ with_visit laid → runs_of visited ≤ most_runs → IsUnderWay sup size visited
visit_way sup size laid visited way is few =
    let runs : runs_of visited ≡ runs_of (with_visit laid) = ap (λ one. runs_of one) is in
    subst (IsUnderWay sup size) (sym is)
    (record {
      few = omega (arith, few, runs);
      covered = way.covered;
      plain = way.plain;
      within = way.within;
      blocks_lie_within = way.blocks_lie_within;
      slack_within = way.slack_within;
      ended = way.ended;
      kept = way.kept;
    })
