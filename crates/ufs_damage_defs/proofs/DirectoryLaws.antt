-- The blocks of a directory and the entries in them stand in order.
use Rattle.std.specs.Prelude.{◌≡◌, ℕ, zero, suc, ◌+◌, ◌*◌, ◌<◌, ◌≤◌, Bool, true, false, nat_le, if◌then◌else◌, Option, Some, None, Result, Ok, Err, List, [], ◌∷◌, length, refl}
use Rattle.std.specs.List.{Contains, filter}
use Rattle.std.proofs.Common.{ap, sym, ◌∙◌, subst, arith}
use Rattle.std.proofs.lemmas.Bool.{leb-true, leb-false}
use Rattle.std.proofs.lemmas.Bool.Decides.{nat_tests}
use Rattle.bytes_defs.specs.declared.order.Order.{Order}
use Rattle.image_defs.specs.Results.{with_value, in_front_of, each_result}
use Rattle.fault_defs.specs.declared.Refusal.{Refusal}
use Rattle.fault_defs.specs.declared.Refusal.TheVariants.{Damaged}
use Rattle.fault_defs.specs.declared.Sort.TheVariants.{DirSize}
use Rattle.rx_ranges.specs.declared.pieces.Piece.{Piece}
use Rattle.piece_defs.specs.Places.{place_through}
use Rattle.ufs_inode_defs.specs.Numbers.{numbers_from}
use Rattle.ufs_inode_defs.specs.Superblock.{block_size}
use Rattle.ufs_inode_defs.specs.Inode.{size_place}
use Rattle.ufs_inode_defs.specs.Stream.{block_count}
use Rattle.ufs_inode_defs.specs.declared.superblock.Super.{Super}
use Rattle.ufs_inode_defs.specs.declared.inode.Inode.{Inode}
use Rattle.ufs_volume_defs.specs.Directory.{Entry, is_entry, record_length, entry_of, entries_within, entries_of, leads_on, leading_entries}
use Rattle.ufs_volume_defs.specs.Names.{Block, placed_block, directory_blocks}
use Rattle.ufs_damage_defs.proofs.Walks.{same_value, same_error}

-- ---- entries

-- entries stand from a byte on, each behind the other, in front of an end
abbrev pub AreRising : ℕ → ℕ → List Entry → Type 0
AreRising end from [] = Unit {0}
AreRising end from (entry ∷ entries) = (from ≤ entry.at) × (entry.at < end) × AreRising end (suc entry.at) entries

sooner : (end from later : ℕ) (entries : List Entry) → from ≤ later → AreRising end later entries → AreRising end from entries
sooner end from later [] before rise = tt
sooner end from later (entry ∷ entries) before rise = (omega (arith, before, rise.0), rise.1, rise.2)

entry_len : (order : Order) (bytes : List ℕ) (at : ℕ) → is_entry order bytes at ≡ true → 8 ≤ record_length order bytes at
unfolding is_entry
entry_len order bytes at is = grind (arith, nat_tests)

within_rise : (count : ℕ) (order : Order) (bytes : List ℕ) (at : ℕ) (entries : List Entry) → entries_within count order bytes at ≡ Ok entries → AreRising (length bytes) at entries
unfolding entries_within
within_rise zero order bytes at entries is = subst (AreRising (length bytes) at) (same_value {E = ℕ} [] entries is) tt
within_rise (suc count) order bytes at entries is =
    either (nat_le (length bytes) at) (is_entry order bytes at) (entries_within count order bytes (at + record_length order bytes at)) refl refl (λ found gives. within_rise count order bytes (at + record_length order bytes at) found gives) is
  where
    either : (past good : Bool) (behind : Result (List Entry) ℕ) → nat_le (length bytes) at ≡ past → is_entry order bytes at ≡ good
        → ((found : List Entry) → behind ≡ Ok found → AreRising (length bytes) (at + record_length order bytes at) found)
        → (if past then Ok [] else (if good then with_value (λ rest. entry_of order bytes at ∷ rest) behind else Err at)) ≡ Ok entries → AreRising (length bytes) at entries
    either true good behind inside sound rise same = subst (AreRising (length bytes) at) (same_value {E = ℕ} [] entries same) tt
    either false false behind inside sound rise same = absurd cc
    either false true (Err place) inside sound rise same = absurd cc
    either false true (Ok found) inside sound rise same =
        let long : 8 ≤ record_length order bytes at = entry_len order bytes at sound in
        let below : at < length bytes = leb-false (length bytes) at inside in
        subst (AreRising (length bytes) at) (same_value {E = ℕ} (entry_of order bytes at ∷ found) entries same)
        (omega arith, below, sooner (length bytes) (suc at) (at + record_length order bytes at) found (omega (arith, long)) (rise found refl))

-- those of a block that lead on do
filter_rises : (end from : ℕ) (entries : List Entry) → AreRising end from entries → AreRising end from (filter leads_on entries)
filter_rises end from [] rise = tt
filter_rises end from (entry ∷ entries) rise = either (leads_on entry) (filter_rises end (suc entry.at) entries rise.2)
  where
    either : (leads : Bool) → AreRising end (suc entry.at) (filter leads_on entries) → AreRising end from (if leads then entry ∷ filter leads_on entries else filter leads_on entries)
    either true rest = (rise.0, rise.1, rest)
    either false rest = let before = rise.0 in sooner end from (suc entry.at) (filter leads_on entries) (omega (arith, before)) rest

pub leading_rise : (order : Order) (bytes : List ℕ) (entries : List Entry) → entries_of order bytes ≡ Ok entries → AreRising (length bytes) 0 (leading_entries entries)
leading_rise order bytes entries is = filter_rises (length bytes) 0 entries (within_rise (length bytes) order bytes 0 entries is)

-- ---- blocks

-- blocks of numbers from one on, each at the place where pieces put it
abbrev pub AreBlocks : Super → List Piece → ℕ → List Block → Type 0
AreBlocks sup pieces first [] = Unit {0}
AreBlocks sup pieces first (block ∷ blocks) = (block.index ≡ first) × (place_through pieces (first * block_size sup) ≡ Some block.at) × AreBlocks sup pieces (suc first) blocks

module _ (sup : Super) (inode : Inode) (pieces : List Piece) where
  abbrev placed : ℕ → Result Block Refusal
  placed index = placed_block sup inode index (place_through pieces (index * block_size sup))

  -- blocks that are all on the disk are as many as were asked for
  record AreAll (first count : ℕ) (blocks : List Block) : Type 0 where
    are : AreBlocks sup pieces first blocks
    many : length blocks ≡ count

  blocks_from : (count first : ℕ) (blocks : List Block) → each_result placed (numbers_from first count) ≡ Ok blocks → AreAll first count blocks
  blocks_from zero first blocks is = subst (AreAll first 0) (same_value {E = Refusal} [] blocks is) (record { are = tt; many = refl })
  blocks_from (suc count) first blocks is =
      either (place_through pieces (first * block_size sup)) (each_result placed (numbers_from (suc first) count)) refl (λ found gives. blocks_from count (suc first) found gives) is
    where
      either : (place : Option ℕ) (behind : Result (List Block) Refusal) → place_through pieces (first * block_size sup) ≡ place
          → ((found : List Block) → behind ≡ Ok found → AreAll (suc first) count found) → in_front_of (placed_block sup inode first place) behind ≡ Ok blocks → AreAll first (suc count) blocks
      either None behind there rest same = absurd cc
      either (Some at) (Err e) there rest same = absurd cc
      either (Some at) (Ok found) there rest same =
          let behind = rest found refl in
          subst (AreAll first (suc count)) (same_value {E = Refusal} (record { index = first; at = at } ∷ found) blocks same)
          (record { are = (refl, there, behind.are); many = ap suc behind.many })

  pub blocks_are : (blocks : List Block) → directory_blocks sup inode pieces ≡ Ok blocks → AreBlocks sup pieces 0 blocks × (length blocks ≡ block_count sup inode.size)
  unfolding directory_blocks
  blocks_are blocks is = let all = blocks_from (block_count sup inode.size) 0 blocks is in (all.are, all.many)

  -- else one is in a hole
  hole_from : (count first : ℕ) (e : Refusal) → each_result placed (numbers_from first count) ≡ Err e
      → (index : ℕ) × (index < first + count) × (place_through pieces (index * block_size sup) ≡ None) × (Damaged DirSize (size_place sup inode) ≡ e)
  hole_from zero first e is = absurd cc
  hole_from (suc count) first e is =
      either (place_through pieces (first * block_size sup)) (each_result placed (numbers_from (suc first) count)) refl (λ gives. hole_from count (suc first) e gives) is
    where
      either : (place : Option ℕ) (behind : Result (List Block) Refusal) → place_through pieces (first * block_size sup) ≡ place
          → (behind ≡ Err e → (index : ℕ) × (index < suc first + count) × (place_through pieces (index * block_size sup) ≡ None) × (Damaged DirSize (size_place sup inode) ≡ e))
          → in_front_of (placed_block sup inode first place) behind ≡ Err e
          → (index : ℕ) × (index < first + suc count) × (place_through pieces (index * block_size sup) ≡ None) × (Damaged DirSize (size_place sup inode) ≡ e)
      either None behind there rest same = (first, omega arith, there, same_error {X = List Block} (Damaged DirSize (size_place sup inode)) e same)
      either (Some at) (Ok found) there rest same = absurd cc
      either (Some at) (Err f) there rest same =
          let later = rest (ap Err (same_error {X = List Block} f e same)) in
          let below = later.1 in
          (later.0, omega (arith, below), later.2, later.3)

  pub hole_of : (e : Refusal) → directory_blocks sup inode pieces ≡ Err e
      → (index : ℕ) × (index < block_count sup inode.size) × (place_through pieces (index * block_size sup) ≡ None) × (Damaged DirSize (size_place sup inode) ≡ e)
  unfolding directory_blocks
  hole_of e is = let found = hole_from (block_count sup inode.size) 0 e is in let below = found.1 in (found.0, omega (arith, below), found.2, found.3)

  -- each block is among them
  pub block_among : (blocks : List Block) (first index at : ℕ) → AreBlocks sup pieces first blocks → first ≤ index → index < first + length blocks → place_through pieces (index * block_size sup) ≡ Some at
      → Contains blocks (record { index = index; at = at })
  block_among [] first index at are from below there = absurd (omega (arith, from, below))
  block_among (block ∷ blocks) first index at are from below there = by_order (nat_le index first) refl (λ behind. block_among blocks (suc first) index at are.2 behind (omega (arith, below)) there)
    where
      some_same : (a b : ℕ) → Some a ≡ Some b → a ≡ b
      some_same a b same = cc

      by_order : (is_first : Bool) → nat_le index first ≡ is_first → (suc first ≤ index → Contains blocks (record { index = index; at = at })) → Contains (block ∷ blocks) (record { index = index; at = at })
      by_order true is later =
          let same : first ≡ index = let before = leb-true index first is in omega (arith, from, before) in
          let P : ℕ → Type 0 = λ n. place_through pieces (n * block_size sup) ≡ Some block.at in
          let placed_at : block.at ≡ at = some_same block.at at (sym (subst P same are.1) ∙ there) in
          let number : block.index ≡ index = are.0 ∙ same in
          (0, omega arith, same_block block.index block.at number placed_at)
        where
          same_block : (a b : ℕ) → a ≡ index → b ≡ at → (let one : Block = record { index = a; at = b } in let two : Block = record { index = index; at = at } in one ≡ two)
          same_block a b one two = cc
      by_order false is later =
          let behind : first < index = leb-false index first is in
          let rest = later (omega (arith, behind)) in
          (suc rest.0, (let inside = rest.1 in omega (arith, inside)), rest.2)
