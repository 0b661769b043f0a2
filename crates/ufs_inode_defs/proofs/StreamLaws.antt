-- The pieces of an inode's streams are those of its bytes.
use Rattle.std.specs.Prelude.{◌≡◌, ℕ, suc, ◌+◌, ◌*◌, ◌<◌, ◌≤◌, Bool, true, false, ◌||◌, nat_lt, None, Result, Ok, List, [], ◌∷◌, length, refl}
use Rattle.std.specs.Int.{div_ceil}
use Rattle.std.proofs.Common.{ap, ◌∙◌, subst, arith, inl, ⊎_elim}
use Rattle.std.proofs.Math.Nat.{mul-le-mul_right, mul_comm}
use Rattle.std.proofs.lemmas.Bool.{cases_lt, ltb-false}
use Rattle.std.proofs.lemmas.Grind.{div_ceil_times}
use Rattle.image_defs.specs.Ask.{result_of}
use Rattle.image_defs.specs.Through.{through}
use Rattle.image_defs.proofs.Looks.{bind_gives}
use Rattle.fault_defs.specs.declared.Refusal.{Refusal}
use Rattle.ufs_inode_defs.specs.Layout.{layout_of, pointer_len}
use Rattle.ufs_inode_defs.specs.Superblock.{block_size, inode_place, wrong_field}
use Rattle.ufs_inode_defs.specs.Inode.{reach, is_too_long}
use Rattle.ufs_inode_defs.specs.Stream.{Pointer, Stream, pointers_from, span, block_count, content_stream, extended_stream}
use Rattle.ufs_inode_defs.specs.Blocks.{Laid, none_laid, mapped_blocks, rising_blocks, stream_blocks}
use Rattle.ufs_inode_defs.specs.BlockPlace.{slack_of, value_of, AreStreamPieces}
use Rattle.ufs_inode_defs.specs.StreamLaws.{IsLaidOut, StreamLaw}
use Rattle.ufs_inode_defs.proofs.BlockSteps.{HasPointers, HasPassed}
use Rattle.ufs_inode_defs.proofs.BlockLaw.{none_is_laid, direct_pass, all_passed, content_law}
use Rattle.ufs_inode_defs.proofs.InodeLaws.{IsSoundInode, HasRows, has_rows, pointers_from-length, inode_read}
use Rattle.ufs_inode_defs.proofs.SoundSuper.{is_sound, has_pointers}
use Rattle.ufs_inode_defs.specs.declared.superblock.Super.{Super}
use Rattle.ufs_inode_defs.specs.declared.inode.Inode.{Inode}

-- so many blocks hold the bytes
pub few_blocks : (size unit count : ℕ) → 0 < unit → size ≤ count * unit → div_ceil size unit ≤ count
few_blocks size unit count some fits =
    ⊎_elim
    (λ more.
    let next : suc count * unit ≤ div_ceil size unit * unit = mul-le-mul_right unit more in
    absurd (omega (arith, fits, next, (div_ceil_times size unit some).1)))
    (λ enough. enough)
    (cases_lt count (div_ceil size unit))

-- a stream of no more blocks than it has direct pointers
direct_law : (image : List ℕ) (sup : Super) (size : ℕ) (direct : List Pointer) (runs : ℕ) (laid : Laid) → HasPointers sup → length direct ≤ 12 → block_count sup size ≤ length direct
    → result_of image (stream_blocks sup (record { size = size; direct = direct; indirect = [] }) runs) ≡ Ok laid → AreStreamPieces image sup (record { size = size; direct = direct; indirect = [] }) laid.pieces
    × (laid.slack ≡ slack_of image sup (record { size = size; direct = direct; indirect = [] }))
unfolding stream_blocks
direct_law image sup size direct runs laid has few reached gives =
    let stream : Stream = record { size = size; direct = direct; indirect = [] } in
    let first = bind_gives image (through (mapped_blocks 0 sup size) (none_laid runs) direct) (λ found. rising_blocks 1 sup size found []) laid gives in
    let start : HasPassed image sup stream 0 (none_laid runs) = record { placed = none_is_laid image sup stream runs; come = inl refl } in
    let passed : HasPassed image sup stream (0 + length direct) first.0 =
    direct_pass image sup stream has direct 0 (none_laid runs) first.0 (omega (arith, few)) (λ i below. ap (λ n. value_of direct n) (omega arith)) start first.1 in
    let E : Laid → Type 0 = λ found. AreStreamPieces image sup stream found.pieces × (found.slack ≡ slack_of image sup stream) in
    subst E (same_value first.0 laid first.2) (all_passed image sup stream (0 + length direct) first.0 has.some_bytes (omega (arith, reached)) passed)
  where
    same_value : (one other : Laid) → (let a : Result Laid Refusal = Ok one in let b : Result Laid Refusal = Ok other in a ≡ b) → one ≡ other
    same_value one other same = cc

-- a stream of twelve direct pointers and three to blocks of pointers
three_law : (image : List ℕ) (sup : Super) (size : ℕ) (direct indirect : List Pointer) (runs : ℕ) (laid : Laid) → HasPointers sup → length direct ≡ 12 → length indirect ≡ 3
    → block_count sup size ≤ 12 + span sup 1 + span sup 2 + span sup 3
    → result_of image (stream_blocks sup (record { size = size; direct = direct; indirect = indirect }) runs) ≡ Ok laid → AreStreamPieces image sup (record { size = size; direct = direct; indirect = indirect }) laid.pieces
    × (laid.slack ≡ slack_of image sup (record { size = size; direct = direct; indirect = indirect }))
three_law image sup size direct [] runs laid has twelve three reached gives = absurd (omega (arith, three))
three_law image sup size direct (one ∷ []) runs laid has twelve three reached gives = absurd (omega (arith, three))
three_law image sup size direct (one ∷ two ∷ []) runs laid has twelve three reached gives = absurd (omega (arith, three))
three_law image sup size direct (one ∷ two ∷ last ∷ []) runs laid has twelve three reached gives = content_law image sup size direct one two last runs laid has twelve reached gives
three_law image sup size direct (one ∷ two ∷ last ∷ more ∷ rest) runs laid has twelve three reached gives = absurd (omega (arith, three))

either_false : (a b : Bool) → (a || b) ≡ false → (a ≡ false) × (b ≡ false)
either_false true b none = absurd cc
either_false false b none = (refl, none)

-- the size of an inode that isn't too long
module _ (sup : Super) (inode : Inode) (short : is_too_long sup inode ≡ false) where
  pub short_size : inode.size ≤ 4611686018427387904
  short_size = ltb-false 4611686018427387904 inode.size (either_false (nat_lt 4611686018427387904 inode.size) (nat_lt (reach sup) inode.size) short).0

  -- what the pointers reach, in blocks
  pub reached_blocks : 0 < block_size sup → block_count sup inode.size ≤ 12 + span sup 1 + span sup 2 + span sup 3
  reached_blocks some =
      let n : ℕ = sup.nindir in
      let blocks : ℕ = 12 + n + n * n + n * (n * n) in
      let within : inode.size ≤ reach sup = ltb-false (reach sup) inode.size (either_false (nat_lt 4611686018427387904 inode.size) (nat_lt (reach sup) inode.size) short).1 in
      let turned : reach sup ≡ blocks * block_size sup = mul_comm (block_size sup) blocks in
      let one : span sup 1 ≡ n = omega arith in
      let two : span sup 2 ≡ n * n = ap (λ m. n * m) one in
      let three : span sup 3 ≡ n * (n * n) = ap (λ m. n * m) two in
      let few : div_ceil inode.size (block_size sup) ≤ blocks = few_blocks inode.size (block_size sup) blocks some (omega (arith, within, turned)) in
      omega (arith, few, one, two, three)

-- the streams of a sound inode
module _ (image : List ℕ) (sup : Super) (inode : Inode) (sound : wrong_field sup ≡ None) (good : IsSoundInode sup inode) where
  pub content_is_laid : length inode.direct ≡ 12 → length inode.indirect ≡ 3 → IsLaidOut image sup (content_stream sup inode)
  content_is_laid twelve three = λ runs laid.
      let has = has_pointers sup (is_sound sup sound) in
      three_law image sup inode.size
      (pointers_from (inode.at + (layout_of sup.version).direct_at) (pointer_len sup.version) inode.direct)
      (pointers_from (inode.at + (layout_of sup.version).indirect_at) (pointer_len sup.version) inode.indirect)
      runs laid has
      (pointers_from-length (inode.at + (layout_of sup.version).direct_at) (pointer_len sup.version) inode.direct ∙ twelve)
      (pointers_from-length (inode.at + (layout_of sup.version).indirect_at) (pointer_len sup.version) inode.indirect ∙ three)
      (reached_blocks sup inode good.short has.some_bytes)

  pub extended_reached : block_count sup inode.extsize ≤ 2
  extended_reached =
      let fits : inode.extsize ≤ 2 * block_size sup = ltb-false (2 * block_size sup) inode.extsize good.ext_short in
      few_blocks inode.extsize (block_size sup) 2 (has_pointers sup (is_sound sup sound)).some_bytes fits

  pub extended_is_laid : length inode.ext ≡ 2 → IsLaidOut image sup (extended_stream inode)
  extended_is_laid ext = λ runs laid.
      let two : length (pointers_from (inode.at + 96) 8 inode.ext) ≡ 2 = pointers_from-length (inode.at + 96) 8 inode.ext ∙ ext in
      direct_law image sup inode.extsize (pointers_from (inode.at + 96) 8 inode.ext) runs laid (has_pointers sup (is_sound sup sound)) (omega (arith, two)) (omega (arith, two, extended_reached))

pub stream_law : StreamLaw
stream_law image sup number inode sound gives =
    let read = inode_read image sup number inode gives in
    let rows : HasRows inode = subst HasRows read.is (has_rows sup (inode_place sup number) _) in
    record {
      content = content_is_laid image sup inode sound read.sound rows.direct rows.indirect;
      extended = extended_is_laid image sup inode sound read.sound rows.ext;
    }
