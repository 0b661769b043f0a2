use Rattle.std.specs.Prelude.{◌≡◌, ℕ, ◌+◌, ◌-◌, ◌<◌, ◌≤◌, min, IfSome, List, length, take, drop, get_or}
use Rattle.std.proofs.Common.{ap, sym, ◌∙◌, subst, arith}
use Rattle.std.proofs.lemmas.List.{length-take, length-drop}
use borrow.Rule.Slice.PartMut.{put_mid, same_len_mid}
use Rattle.disk_defs.specs.Disk.{State, size_of, told_image}
use Rattle.disk_defs.specs.declared.Area.TheVariants.{Image}
use Rattle.rx_ranges.specs.declared.pieces.Piece.{Piece}
use Rattle.rx_ranges.specs.declared.pieces.PieceKind.TheVariants.{Disk}
use Rattle.piece_defs.specs.Places.{IsWithin, AreWithin}
use Rattle.piece_reads.proofs.Reading.{within_at, skips_told, fills_told, ends_told, all_told}
use Rattle.piece_reads.proofs.read_pieces.Goals as goal

within_in : (state other : State) (pieces : List Piece) (i : ℕ) (d : Piece) → state ≡ other → i < length pieces → AreWithin (size_of Image other) pieces
    → IsWithin (size_of Image state) (get_or pieces i d).kind (get_or pieces i d).at (get_or pieces i d).len
within_in state other pieces i d same inside within =
    let P : State → Type 0 = λ s. IsWithin (size_of Image s) (get_or pieces i d).kind (get_or pieces i d).at (get_or pieces i d).len in
    subst P (sym same) (within_at (size_of Image other) pieces i d inside within)

pub loop-passed-preserved : goal.loop-passed-preserved
loop-passed-preserved g c = record {
  few = omega arith;
  bytes = skips_told _ _ c.args.pieces.now _ _ 0 c.loop-passed.skip c.loop-passed.passed _ (g.met.S.Store.tells_its_sizes c.args.store.now Image) c.loop-passed-test.true c.requires.within c.if-skip-pieces.true c.loop-passed.invariant.bytes;
}

pub overflow_sub-piece : goal.overflow_sub-piece
overflow_sub-piece g c = c.reading.invariant.begun _ c.reading-test.true

pub read_piece-requires-clause-within : goal.read_piece-requires-clause-within
read_piece-requires-clause-within g c = within_in _ _ c.args.pieces.now c.reading.passed _ c.reading.invariant.same c.reading-test.true c.requires.within

abbrev none : Piece
none = record { from = 0; len = 0; kind = Disk; at = 0 }

-- what is read fits the piece and the buffer
few_enough : (skip len done total count : ℕ) (buf : List ℕ) → skip ≤ len → done ≤ length buf → count ≡ min (len - skip) (length buf - done) → skip + length (take (done + count - done) (drop done buf)) ≤ len
few_enough skip len done total count buf begun few is = omega (arith, begun, few, is, length-take (done + count - done) (drop done buf), length-drop done buf)

pub read_piece-requires-clause-inside : goal.read_piece-requires-clause-inside
read_piece-requires-clause-inside g c =
    few_enough _ (get_or c.args.pieces.now c.reading.passed none).len _ 0 c.min-count.result c.reading.buf (c.reading.invariant.begun none c.reading-test.true) c.reading.invariant.few c.min-count.ensures

told_in : (state other : State) (P : List ℕ → Type 0) → state ≡ other → IfSome (told_image state) P → IfSome (told_image other) P
told_in state other P same holds = let Q : State → Type 0 = λ s. IfSome (told_image s) P in subst Q same holds

pub reading-preserved : goal.reading-preserved
reading-preserved g c =
    let piece : Piece = get_or c.args.pieces.now c.reading.passed none in
    let count : ℕ = c.min-count.result in
    let k : c.reading.done + count - c.reading.done ≡ count = omega arith in
    let many : length c.read_piece.new.buf ≡ count = omega (arith, c.read_piece.auto.buf, c.min-count.ensures, c.reading.invariant.few, length-take (c.reading.done + count - c.reading.done) (drop c.reading.done c.reading.buf), length-drop c.reading.done c.reading.buf) in
    let mid : length (put_mid c.reading.done (c.reading.done + count - c.reading.done) c.reading.buf c.read_piece.new.buf) ≡ length c.reading.buf = same_len_mid c.reading.done (c.reading.done + count - c.reading.done) c.reading.buf c.read_piece.new.buf c.read_piece.auto.buf in
    let mid_of_count : length (put_mid c.reading.done count c.reading.buf c.read_piece.new.buf) ≡ length c.reading.buf = ap (λ n. length (put_mid c.reading.done n c.reading.buf c.read_piece.new.buf)) (sym k) ∙ mid in
    record {
      few = omega (arith, mid, c.min-count.ensures, c.reading.invariant.few);
      begun = λ d inside. omega arith;
      long = mid ∙ c.reading.invariant.long;
      same = c.in_ok-read_piece.ensures.same ∙ c.reading.invariant.same;
      calm = c.in_ok-read_piece.ensures.counted ∙ c.reading.invariant.calm;
      bytes = rw k (fills_told _ _ c.args.pieces.now _ c.reading.buf c.read_piece.new.buf c.reading.done c.reading.skip c.reading.passed count none (g.met.S.Store.tells_its_sizes c.args.store.now Image) c.reading-test.true c.requires.within
          (c.reading.invariant.begun none c.reading-test.true) c.reading.invariant.few c.min-count.ensures many mid_of_count
          (told_in _ _ _ c.reading.invariant.same c.in_ok-read_piece.ensures.bytes) c.reading.invariant.bytes);
    }

pub returns-else-done-buf-clause-bytes : goal.returns-else-done-buf-clause-bytes
returns-else-done-buf-clause-bytes g c = all_told _ c.args.pieces.now _ _ _ _ _ c.if-done-buf.false c.reading.invariant.bytes

pub returns-after-reading-clause-bytes : goal.returns-after-reading-clause-bytes
returns-after-reading-clause-bytes g c =
    ends_told _ _ c.args.pieces.now _ _ _ _ _ _ (g.met.S.Store.tells_its_sizes c.args.store.now Image) c.reading-test.false c.reading.invariant.few c.requires.covered c.requires.within (omega (arith, c.requires.inside, c.reading.invariant.long)) c.reading.invariant.bytes
