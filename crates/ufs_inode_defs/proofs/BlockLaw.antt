-- The walk over the pointers puts each byte of a stream where it stands.
use Rattle.std.specs.Prelude.{◌≡◌, ◌⊎◌, ℕ, zero, suc, ◌+◌, ◌-◌, ◌*◌, ◌<◌, ◌≤◌, min, ℤ, pos, negsuc, Bool, true, false, nat_le, if◌then◌else◌, Ok, List, [], ◌∷◌, take, drop, length, refl}
use Rattle.std.specs.Int.{cast_signed}
use Rattle.std.proofs.Common.{ap, sym, ◌∙◌, subst, arith, ⊎_elim, inl, inr}
use Rattle.std.proofs.Math.Nat.{mul-le-mul_right}
use Rattle.std.proofs.lemmas.Bool.{leb-true}
use Rattle.std.proofs.lemmas.Bool.Decides.{nat_tests}
use Rattle.std.proofs.lemmas.List.{drop-drop, drop-take}
use Rattle.std.proofs.lemmas.List.Elements.{All-nil}
use Rattle.std.proofs.lemmas.Bool.{le-leb}
use Rattle.bytes_defs.specs.Bytes.{part}
use Rattle.bytes_defs.specs.Numbers.{number_at, signed_at}
use Rattle.bytes_defs.proofs.NumberLaws.{number_at_part, signed_at_number}
use Rattle.image_defs.specs.Ask.{Ask, Done, result_of, look, ◌>>=◌}
use Rattle.image_defs.specs.Through.{through}
use Rattle.image_defs.proofs.Looks.{bind_gives, check_gives}
use Rattle.piece_defs.specs.Places.{IsPlaced, ArePiecesAt}
use Rattle.fault_defs.specs.declared.Refusal.{Refusal}
use Rattle.fault_defs.specs.declared.Refusal.TheVariants.{Damaged}
use Rattle.fault_defs.specs.declared.Sort.TheVariants.{BlockPointer}
use Rattle.ufs_inode_defs.specs.Layout.{layout_of, pointer_len}
use Rattle.ufs_inode_defs.specs.Numbers.{signed_row}
use Rattle.ufs_inode_defs.specs.Superblock.{block_size}
use Rattle.ufs_inode_defs.specs.Stream.{Pointer, Stream, span, block_count, allocated_len, pointers_from}
use Rattle.ufs_inode_defs.specs.Blocks.{Laid, with_hole, with_block, with_visit, counted_runs, fragment_place, lies_within, led, none_laid, mapped_blocks, stream_blocks}
use Rattle.ufs_inode_defs.specs.BlockPlace.{behind_last, slack_of, pointer_at, value_of, block_pointer, byte_place, AreStreamPieces}
use Rattle.ufs_inode_defs.specs.declared.superblock.Super.{Super}
use Rattle.ufs_inode_defs.proofs.Mapping.{direct_maps, maps_1, maps_2, maps_3, child_maps}
use Rattle.ufs_inode_defs.proofs.BlockSteps.{blocks_hold, IsLaid, AreMapped, HasCome, same_value, counted_gives, passed_of, hole_laid, block_laid, HasPointers, HasPassed}

-- a walk stands where it was behind the end, and else it goes on
pub past_or : (image : List ℕ) (past : Bool) (laid after : Laid) (more : Ask Refusal Laid) → result_of image (if past then Done laid else more) ≡ Ok after
    → ((past ≡ true) × (laid ≡ after)) ⊎ ((past ≡ false) × (result_of image more ≡ Ok after))
past_or image true laid after more gives = inl (refl, same_value laid after gives)
past_or image false laid after more gives = inr (refl, gives)

-- ---- what a pointer maps, through so many levels

-- a walk over what a pointer of a level maps passes its blocks
abbrev Passes : ℕ → List ℕ → Super → Stream → Type 0
Passes level image sup stream =
    (laid after : Laid) (at : ℕ) (value : ℤ) → IsLaid image sup stream laid → (laid.block < block_count sup stream.size → AreMapped level image sup stream laid.block value)
    → result_of image (mapped_blocks level sup stream.size laid (record { at = at; value = value })) ≡ Ok after → HasPassed image sup stream (laid.block + span sup level) after

block_passes : (image : List ℕ) (sup : Super) (stream : Stream) (laid after : Laid) (at : ℕ) (value : ℤ) → HasPointers sup → laid.block < block_count sup stream.size → IsLaid image sup stream laid
    → block_pointer image sup stream (laid.block + 0) ≡ value
    → result_of image (led sup (record { at = at; value = value }) (allocated_len sup stream.size laid.block) (counted_runs (with_hole sup stream.size 1 laid)) (λ place. counted_runs (with_block sup stream.size place laid))) ≡ Ok after
    → HasPassed image sup stream (laid.block + 1) after
block_passes image sup stream laid after at (pos zero) has below before is gives =
    passed_of image sup stream (laid.block + 1) (with_hole sup stream.size 1 laid) after (counted_gives image (with_hole sup stream.size 1 laid) after gives)
    (record {
      placed =
          hole_laid image sup stream laid 1 has.some_bytes (omega arith) below before
          (λ number first. let zero_th : laid.block + number ≡ laid.block + 0 = omega (arith, first) in ap (λ block. block_pointer image sup stream block) zero_th ∙ is);
      come = inl refl;
    })
block_passes image sup stream laid after at (pos (suc fragment)) has below before is gives =
    let there = check_gives image (lies_within sup (suc fragment) (allocated_len sup stream.size laid.block)) (Damaged BlockPointer at) (λ x. counted_runs (with_block sup stream.size (fragment_place sup (suc fragment)) laid)) after gives in
    let here : laid.block ≡ laid.block + 0 = omega arith in
    passed_of image sup stream (laid.block + 1) (with_block sup stream.size (fragment_place sup (suc fragment)) laid) after (counted_gives image (with_block sup stream.size (fragment_place sup (suc fragment)) laid) after there.1)
    (record {
      placed = block_laid image sup stream laid fragment has below before (ap (λ block. block_pointer image sup stream block) here ∙ is);
      come = inl refl;
    })
block_passes image sup stream laid after at (negsuc n) has below before is gives = absurd cc

pub not_past : (count block : ℕ) → nat_le count block ≡ false → block < count
not_past count block is = grind (arith, nat_tests)

passes_0 : (image : List ℕ) (sup : Super) (stream : Stream) → HasPointers sup → Passes 0 image sup stream
unfolding mapped_blocks
passes_0 image sup stream has = λ laid after at value before maps gives.
    ⊎_elim
    (λ past. passed_of image sup stream (laid.block + 1) laid after past.1 (record { placed = before; come = inr (leb-true (block_count sup stream.size) laid.block past.0) }))
    (λ inside.
    let below : laid.block < block_count sup stream.size = not_past (block_count sup stream.size) laid.block inside.0 in
    block_passes image sup stream laid after at value has below before (maps below 0 (omega arith)) inside.1)
    (past_or image (nat_le (block_count sup stream.size) laid.block) laid after _ gives)

-- ---- a block of pointers

-- some bytes hold the pointers of a block from a number on
abbrev pub IsRow : List ℕ → Super → ℕ → ℕ → ℕ → List ℕ → Type 0
IsRow image sup place zero number bytes = Unit {0}
IsRow image sup place (suc more) number bytes =
    (signed_at sup.order (layout_of sup.version).pointer bytes 0 ≡ pointer_at image sup place number)
    × IsRow image sup place more (number + 1) (drop (pointer_len sup.version) bytes)

children_pass : (level : ℕ) (image : List ℕ) (sup : Super) (stream : Stream) (first fragment : ℕ) → Passes level image sup stream → AreMapped (suc level) image sup stream first (pos (suc fragment))
    → (more number at : ℕ) (bytes : List ℕ) (laid after : Laid) → number + more ≡ sup.nindir → IsRow image sup (fragment_place sup (suc fragment)) more number bytes
    → HasPassed image sup stream (first + number * span sup level) laid
    → result_of image (through (mapped_blocks level sup stream.size) laid (pointers_from at (pointer_len sup.version) (signed_row sup.order (layout_of sup.version).pointer more bytes))) ≡ Ok after
    → HasPassed image sup stream (first + sup.nindir * span sup level) after
children_pass level image sup stream first fragment passes maps zero number at bytes laid after total row before gives =
    let all : first + number * span sup level ≡ first + sup.nindir * span sup level = ap (λ n. first + n * span sup level) (omega (arith, total)) in
    let P : ℕ → Type 0 = λ block. HasPassed image sup stream block after in
    subst P all (passed_of image sup stream (first + number * span sup level) laid after (same_value laid after gives) before)
children_pass level image sup stream first fragment passes maps (suc more) number at bytes laid after total row before gives =
    let value : ℤ = signed_at sup.order (layout_of sup.version).pointer bytes 0 in
    let step = bind_gives image (mapped_blocks level sup stream.size laid (record { at = at; value = value })) _ after gives in
    let V : ℤ → Type 0 = λ v. AreMapped level image sup stream (first + number * span sup level) v in
    let here : AreMapped level image sup stream (first + number * span sup level) value = subst V (sym row.0) (child_maps image sup stream level first fragment number (omega (arith, total)) maps) in
    let B : ℕ → Type 0 = λ block. AreMapped level image sup stream block value in
    let mapped : laid.block < block_count sup stream.size → AreMapped level image sup stream laid.block value =
    λ below. ⊎_elim (λ is. subst B (sym is) here) (λ past. absurd (omega (arith, below, past))) before.come in
    let passed : HasPassed image sup stream (laid.block + span sup level) step.0 = passes laid step.0 at value before.placed mapped step.1 in
    let next : first + (number + 1) * span sup level ≡ first + number * span sup level + span sup level = omega arith in
    children_pass level image sup stream first fragment passes maps more (number + 1) (at + pointer_len sup.version) (drop (pointer_len sup.version) bytes) step.0 after (omega (arith, total)) row.1
    (record {
      placed = passed.placed;
      come =
          ⊎_elim
          (λ is.
          ⊎_elim
          (λ was. inl (is ∙ ap (λ block. block + span sup level) was ∙ sym next))
          (λ past. inr (omega (arith, past, is)))
          before.come)
          (λ past. inr past)
          passed.come;
    })
    step.2

pub some_span : (sup : Super) → 0 < sup.nindir → (level : ℕ) → 0 < span sup level
some_span sup some zero = omega arith
some_span sup some (suc level) =
    let one : 1 * span sup level ≤ sup.nindir * span sup level = mul-le-mul_right (span sup level) some in
    omega (arith, one, some_span sup some level)

tree_goes_on : (level : ℕ) (image : List ℕ) (sup : Super) (stream : Stream) → HasPointers sup → ((place : ℕ) → IsRow image sup place sup.nindir 0 (part image place (block_size sup))) → Passes level image sup stream
    → (laid after : Laid) (at : ℕ) (value : ℤ) → laid.block < block_count sup stream.size → IsLaid image sup stream laid → AreMapped (suc level) image sup stream laid.block value
    → result_of image (led sup (record { at = at; value = value }) (block_size sup) (counted_runs (with_hole sup stream.size (span sup (suc level)) laid))
    (λ place. counted_runs (with_visit laid) >>= (λ visited. look place (block_size sup) >>= (λ bytes. through (mapped_blocks level sup stream.size) visited (pointers_from place (pointer_len sup.version) (signed_row sup.order (layout_of sup.version).pointer sup.nindir bytes)))))) ≡ Ok after
    → HasPassed image sup stream (laid.block + span sup (suc level)) after
tree_goes_on level image sup stream has rows passes laid after at (pos zero) below before maps gives =
    passed_of image sup stream (laid.block + span sup (suc level)) (with_hole sup stream.size (span sup (suc level)) laid) after (counted_gives image (with_hole sup stream.size (span sup (suc level)) laid) after gives)
    (record { placed = hole_laid image sup stream laid (span sup (suc level)) has.some_bytes (some_span sup has.some_pointers (suc level)) below before maps; come = inl refl })
tree_goes_on level image sup stream has rows passes laid after at (pos (suc fragment)) below before maps gives =
    let there = check_gives image (lies_within sup (suc fragment) (block_size sup)) (Damaged BlockPointer at) _ after gives in
    let visited = bind_gives image (counted_runs (with_visit laid)) _ after there.1 in
    let first : laid.block ≡ laid.block + 0 * span sup level = omega arith in
    children_pass level image sup stream laid.block fragment passes maps sup.nindir 0 (fragment_place sup (suc fragment)) (part image (fragment_place sup (suc fragment)) (block_size sup)) visited.0 after (omega arith)
    (rows (fragment_place sup (suc fragment)))
    (passed_of image sup stream (laid.block + 0 * span sup level) (with_visit laid) visited.0 (counted_gives image (with_visit laid) visited.0 visited.1) (record { placed = before; come = inl first }))
    visited.2
tree_goes_on level image sup stream has rows passes laid after at (negsuc n) below before maps gives = absurd cc

passes_next : (level : ℕ) (image : List ℕ) (sup : Super) (stream : Stream) → HasPointers sup → ((place : ℕ) → IsRow image sup place sup.nindir 0 (part image place (block_size sup))) → Passes level image sup stream
    → Passes (suc level) image sup stream
unfolding mapped_blocks
passes_next level image sup stream has rows passes = λ laid after at value before maps gives.
    ⊎_elim
    (λ past. passed_of image sup stream (laid.block + span sup (suc level)) laid after past.1 (record { placed = before; come = inr (leb-true (block_count sup stream.size) laid.block past.0) }))
    (λ inside.
    let below : laid.block < block_count sup stream.size = not_past (block_count sup stream.size) laid.block inside.0 in
    tree_goes_on level image sup stream has rows passes laid after at value below before (maps below) inside.1)
    (past_or image (nat_le (block_count sup stream.size) laid.block) laid after _ gives)

-- ---- the pointers of a block are those that stand there

dropped_part : (image : List ℕ) (place len more : ℕ) → drop len (part image place (len + more)) ≡ part image (place + len) more
unfolding part
dropped_part image place len more = drop-take len more (drop place image) ∙ ap (take more) (drop-drop len place image)

row_from : (image : List ℕ) (sup : Super) (place more number rest : ℕ) → more * pointer_len sup.version ≤ rest
    → IsRow image sup place more number (part image (place + number * pointer_len sup.version) rest)
row_from image sup place zero number rest fits = tt
row_from image sup place (suc more) number rest fits =
    let len : ℕ = pointer_len sup.version in
    let at : ℕ = place + number * len in
    let first : len + more * len ≡ suc more * len = omega arith in
    let whole : len + (rest - len) ≡ rest = omega (arith, first, fits) in
    let next : at + len ≡ place + (number + 1) * len = omega arith in
    let here : at + 0 ≡ at = omega arith in
    let P : List ℕ → Type 0 = λ list. IsRow image sup place more (number + 1) list in
    let split : drop len (part image at rest) ≡ part image (place + (number + 1) * len) (rest - len) =
    ap (λ n. drop len (part image at n)) (sym whole) ∙ dropped_part image at len (rest - len) ∙ ap (λ n. part image n (rest - len)) next in (
      signed_at_number sup.order (layout_of sup.version).pointer (part image at rest) 0
          ∙ ap (cast_signed (layout_of sup.version).pointer) (number_at_part sup.order len image at rest 0 (omega (arith, first, fits)) ∙ ap (number_at sup.order len image) here)
          ∙ sym (signed_at_number sup.order (layout_of sup.version).pointer image at),
      subst P (sym split) (row_from image sup place more (number + 1) (rest - len) (omega (arith, first, fits))),
    )

pub rows_of : (image : List ℕ) (sup : Super) → HasPointers sup → (place : ℕ) → IsRow image sup place sup.nindir 0 (part image place (block_size sup))
rows_of image sup has place =
    let none : place + 0 * pointer_len sup.version ≡ place = omega arith in
    let P : ℕ → Type 0 = λ n. IsRow image sup place sup.nindir 0 (part image n (block_size sup)) in
    subst P none (row_from image sup place sup.nindir 0 (block_size sup) has.whole)

-- so what a pointer of any level maps is passed
passes : (level : ℕ) (image : List ℕ) (sup : Super) (stream : Stream) → HasPointers sup → Passes level image sup stream
passes zero image sup stream has = passes_0 image sup stream has
passes (suc level) image sup stream has = passes_next level image sup stream has (rows_of image sup has) (passes level image sup stream has)

-- ---- a stream

-- where a walk has come to the blocks that a pointer maps
come_to : (level : ℕ) (image : List ℕ) (sup : Super) (stream : Stream) (block : ℕ) (laid : Laid) (value : ℤ) → HasCome sup stream block laid → AreMapped level image sup stream block value
    → laid.block < block_count sup stream.size → AreMapped level image sup stream laid.block value
come_to level image sup stream block laid value come maps below =
    let B : ℕ → Type 0 = λ b. AreMapped level image sup stream b value in
    ⊎_elim (λ is. subst B (sym is) maps) (λ past. absurd (omega (arith, below, past))) come

-- and then to those behind them
come_on : (sup : Super) (stream : Stream) (block blocks : ℕ) (laid after : Laid) → HasCome sup stream block laid → HasCome sup stream (laid.block + blocks) after → HasCome sup stream (block + blocks) after
come_on sup stream block blocks laid after was is =
    ⊎_elim
    (λ on. ⊎_elim (λ here. inl (omega (arith, on, here))) (λ past. inr (omega (arith, on, past))) was)
    (λ past. inr past)
    is

pub direct_pass : (image : List ℕ) (sup : Super) (stream : Stream) → HasPointers sup → (pointers : List Pointer) (number : ℕ) (laid after : Laid) → number + length pointers ≤ 12
    → ((i : ℕ) → i < length pointers → value_of pointers i ≡ value_of stream.direct (number + i)) → HasPassed image sup stream number laid
    → result_of image (through (mapped_blocks 0 sup stream.size) laid pointers) ≡ Ok after → HasPassed image sup stream (number + length pointers) after
direct_pass image sup stream has [] number laid after few are before gives =
    let none : number ≡ number + 0 = omega arith in
    let P : ℕ → Type 0 = λ block. HasPassed image sup stream block after in
    subst P none (passed_of image sup stream number laid after (same_value laid after gives) before)
direct_pass image sup stream has (pointer ∷ pointers) number laid after few are before gives =
    let step = bind_gives image (mapped_blocks 0 sup stream.size laid pointer) _ after gives in
    let start : number ≡ number + 0 = omega arith in
    let V : ℤ → Type 0 = λ value. AreMapped 0 image sup stream number value in
    let here : AreMapped 0 image sup stream number pointer.value = subst V (ap (λ n. value_of stream.direct n) start ∙ sym (are 0 (omega arith))) (direct_maps image sup stream number (omega (arith, few))) in
    let passed = passes 0 image sup stream has laid step.0 pointer.at pointer.value before.placed (come_to 0 image sup stream number laid pointer.value before.come here) step.1 in
    let total : number + 1 + length pointers ≡ number + suc (length pointers) = omega arith in
    let P : ℕ → Type 0 = λ block. HasPassed image sup stream block after in
    subst P total
    (direct_pass image sup stream has pointers (number + 1) step.0 after (omega (arith, few))
    (λ i below. are (suc i) (omega (arith, below)) ∙ ap (λ n. value_of stream.direct n) (omega arith))
    (record { placed = passed.placed; come = come_on sup stream number 1 laid step.0 before.come passed.come })
    step.2)

-- nothing is laid yet
pub none_is_laid : (image : List ℕ) (sup : Super) (stream : Stream) (runs : ℕ) → IsLaid image sup stream (none_laid runs)
unfolding slack_of
none_is_laid image sup stream runs =
    let none : min (0 * block_size sup) stream.size ≡ 0 = omega arith in
    let N : ℕ → Type 0 = λ end. ArePiecesAt (byte_place image sup stream) end [] in
    (subst N (sym none) (record { covered = refl; placed = All-nil (IsPlaced (byte_place image sup stream)) }), either (nat_le (block_count sup stream.size) 0) refl)
  where
    either : (past : Bool) → nat_le (block_count sup stream.size) 0 ≡ past → [] ≡ (if past then behind_last image sup stream (block_count sup stream.size) else [])
    either true is = let none : block_count sup stream.size ≡ 0 = let few = leb-true (block_count sup stream.size) 0 is in omega (arith, few) in sym (ap (λ count. behind_last image sup stream count) none)
    either false is = refl

-- a walk that passed all blocks has the pieces of the stream, and its slack
pub all_passed : (image : List ℕ) (sup : Super) (stream : Stream) (block : ℕ) (laid : Laid) → 0 < block_size sup → block_count sup stream.size ≤ block → HasPassed image sup stream block laid
    → AreStreamPieces image sup stream laid.pieces × (laid.slack ≡ slack_of image sup stream)
all_passed image sup stream block laid some enough passed =
    let count : block_count sup stream.size ≤ laid.block = ⊎_elim (λ is. omega (arith, is, enough)) (λ past. past) passed.come in
    let end : min (laid.block * block_size sup) stream.size ≡ stream.size = omega (arith, blocks_hold stream.size (block_size sup) laid.block some count) in
    let P : ℕ → Type 0 = λ size. ArePiecesAt (byte_place image sup stream) size laid.pieces in
    let all : nat_le (block_count sup stream.size) laid.block ≡ true = le-leb (block_count sup stream.size) laid.block count in
    (subst P end passed.placed.0, passed.placed.1 ∙ rw all refl)

-- the content of an inode: twelve direct pointers, and three of rising levels
pub content_law : (image : List ℕ) (sup : Super) (size : ℕ) (direct : List Pointer) (one two three : Pointer) (runs : ℕ) (after : Laid) → HasPointers sup → length direct ≡ 12
    → block_count sup size ≤ 12 + span sup 1 + span sup 2 + span sup 3
    → result_of image (stream_blocks sup (record { size = size; direct = direct; indirect = one ∷ two ∷ three ∷ [] }) runs) ≡ Ok after
    → AreStreamPieces image sup (record { size = size; direct = direct; indirect = one ∷ two ∷ three ∷ [] }) after.pieces
    × (after.slack ≡ slack_of image sup (record { size = size; direct = direct; indirect = one ∷ two ∷ three ∷ [] }))
unfolding stream_blocks
content_law image sup size direct one two three runs after has twelve reached gives =
    let stream : Stream = record { size = size; direct = direct; indirect = one ∷ two ∷ three ∷ [] } in
    let start : HasPassed image sup stream 0 (none_laid runs) = record { placed = none_is_laid image sup stream runs; come = inl refl } in
    let a = bind_gives image (through (mapped_blocks 0 sup stream.size) (none_laid runs) direct) _ after gives in
    let b = bind_gives image (mapped_blocks 1 sup stream.size a.0 one) _ after a.2 in
    let c = bind_gives image (mapped_blocks 2 sup stream.size b.0 two) _ after b.2 in
    let d = bind_gives image (mapped_blocks 3 sup stream.size c.0 three) _ after c.2 in
    let all : ℕ → Type 0 = λ block. HasPassed image sup stream block a.0 in
    let passed_a : HasPassed image sup stream 12 a.0 =
    subst all (omega (arith, twelve)) (direct_pass image sup stream has direct 0 (none_laid runs) a.0 (omega (arith, twelve)) (λ i below. ap (λ n. value_of direct n) (omega arith)) start a.1) in
    let on_b = passes 1 image sup stream has a.0 b.0 one.at one.value passed_a.placed (come_to 1 image sup stream 12 a.0 one.value passed_a.come (maps_1 image sup stream)) b.1 in
    let passed_b : HasPassed image sup stream (12 + span sup 1) b.0 = record { placed = on_b.placed; come = come_on sup stream 12 (span sup 1) a.0 b.0 passed_a.come on_b.come } in
    let on_c = passes 2 image sup stream has b.0 c.0 two.at two.value passed_b.placed (come_to 2 image sup stream (12 + span sup 1) b.0 two.value passed_b.come (maps_2 image sup stream)) c.1 in
    let passed_c : HasPassed image sup stream (12 + span sup 1 + span sup 2) c.0 = record { placed = on_c.placed; come = come_on sup stream (12 + span sup 1) (span sup 2) b.0 c.0 passed_b.come on_c.come } in
    let on_d = passes 3 image sup stream has c.0 d.0 three.at three.value passed_c.placed (come_to 3 image sup stream (12 + span sup 1 + span sup 2) c.0 three.value passed_c.come (maps_3 image sup stream)) d.1 in
    let passed_d : HasPassed image sup stream (12 + span sup 1 + span sup 2 + span sup 3) d.0 = record { placed = on_d.placed; come = come_on sup stream (12 + span sup 1 + span sup 2) (span sup 3) c.0 d.0 passed_c.come on_d.come } in
    let E : Laid → Type 0 = λ laid. AreStreamPieces image sup stream laid.pieces × (laid.slack ≡ slack_of image sup stream) in
    subst E (same_value d.0 after d.2) (all_passed image sup stream (12 + span sup 1 + span sup 2 + span sup 3) d.0 has.some_bytes reached passed_d)
