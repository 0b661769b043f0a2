-- The records of a node, one by one.
use Rattle.std.specs.Prelude.{◌≡◌, ℕ, suc, ◌+◌, ◌-◌, ◌*◌, ◌^◌, ◌<◌, ◌≤◌, Bool, true, false, nat_le, ◌&&◌, List, [], ◌++◌, length, take, drop}
use Rattle.std.proofs.Common.{ap, sym, subst, ◌∙◌, arith}
use Rattle.std.proofs.lemmas.Bool.{and_parts, true≢false}
use Rattle.std.proofs.lemmas.Bool.Decides.{nat_tests}
use Rattle.std.proofs.lemmas.List.{drop_all, take_all, append-nil}
use Rattle.std.proofs.lemmas.Nat.{mul-le}
use Rattle.rx_ranges.specs.declared.pieces.Piece.{Piece}
use Rattle.hfs_defs.specs.Nodes.{record_count, record_offset, table_start, is_record, are_records, is_sound_node}
use Rattle.hfs_btree.specs.Kept.{IsKept}

-- where a record is sound, those from it on are where those behind it are
pub records_more : (node : List ℕ) (count i : ℕ) → i < count → is_record node i ≡ true → are_records (count - i) node i ≡ are_records (count - (i + 1)) node (i + 1)
records_more node count i more sound =
    let one : count - i ≡ suc (count - (i + 1)) = omega arith in
    ap (λ k. are_records k node i) one ∙ ap (λ b. b && are_records (count - (i + 1)) node (i + 1)) sound

-- what a sound node has
pub sound_room : (node : List ℕ) → is_sound_node node ≡ true → 14 + 2 * (record_count node + 1) ≤ length node
unfolding is_sound_node
sound_room node sound = grind (arith, nat_tests, (and_parts (nat_le (14 + 2 * (record_count node + 1)) (length node)) _ sound).0)

pub sound_records : (node : List ℕ) → is_sound_node node ≡ true → are_records (record_count node) node 0 ≡ true
unfolding is_sound_node
sound_records node sound =
    let behind = (and_parts (nat_le (14 + 2 * (record_count node + 1)) (length node)) _ sound).1 in
    let table = (and_parts (nat_le 14 (record_offset node (record_count node))) _ behind).1 in
    (and_parts (nat_le (record_offset node (record_count node)) (table_start node)) _ table).1

pub entered_kept : (pieces : List Piece) (len : ℕ) (old node bytes : List ℕ) (count index first : ℕ) (stood : Bool) → IsKept pieces len old count index stood → length node ≡ length old → bytes ≡ node
    → is_sound_node node ≡ true → first ≡ record_count node → IsKept pieces len bytes first 0 false
entered_kept pieces len old node bytes count index first stood kept same is sound all =
    let P : ℕ → Type 0 = λ k. IsKept pieces len node k 0 false in
    let Q : List ℕ → Type 0 = λ b. IsKept pieces len b first 0 false in
    let none : record_count node - 0 ≡ record_count node = omega arith in
    let there : IsKept pieces len node (record_count node) 0 false = record {
      covered = kept.covered;
      reach = kept.reach;
      long = omega (arith, kept.long, same);
      short = omega (arith, kept.short, same);
      few = omega arith;
      room = sound_room node sound;
      records = ap (λ k. are_records k node 0) none ∙ sound_records node sound;
      stands_behind = λ stands. absurd (true≢false (sym stands));
      record_before = λ stands. absurd (true≢false (sym stands));
    } in
    subst Q (sym is) (subst P (sym all) there)

-- the first bytes of a buffer that was written whole
pub written : (node old : List ℕ) (n : ℕ) → length node ≡ length old → n ≡ length old → take n (node ++ drop (length node) old) ≡ node
written node old n same all =
    let none : drop (length node) old ≡ [] = drop_all (length node) old (omega (arith, same)) in
    ap (λ rest. take n (node ++ rest)) none ∙ ap (take n) (append-nil node) ∙ take_all n node (omega (arith, same, all))

-- the place of a record in its file fits 64 bits
pub place_fits : (number size offset : ℕ) → number < 2 ^ 32 → size ≤ 65535 → offset < 65536 → number * size + offset < 2 ^ 64
place_fits number size offset few short small = omega (arith, mul-le number size 4294967295 65535 (omega (arith, few)) short, small)
