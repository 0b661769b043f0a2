-- Overflow records that are sorted by their first block.
use Rattle.std.specs.Prelude.{◌≡◌, ℕ, List, [], refl}
use Rattle.std.specs.Borrow.{Bor}
use Rattle.std.specs.Cmp.{IsTotalOrder}
use Rattle.std.specs.Fn.{Mut, Called, ComputesKey}
use Rattle.std.specs.List.{filter}
use Rattle.std.specs.List.Sorted.{IsSortedByKey, IsStableByKey}
use Rattle.std.specs.Ordering.{nat_cmp}
use Rattle.std.proofs.Common.{ap, sym, ◌∙◌}
use Rattle.std.proofs.lemmas.Bool.Decides.{Decides-eqb}
use Rattle.std.proofs.lemmas.Cmp.{nat_cmp_total}
use Rattle.std.proofs.lemmas.Fn.{always_returns_same}
use Rattle.order_defs.specs.Sorted.{sorted_by}
use Rattle.order_defs.proofs.SortedLaws.{sorted_law}
use Rattle.hfs_defs.specs.Forks.{is_of, records_of}
use Rattle.hfs_defs.specs.declared.forks.OverflowRecord.{OverflowRecord}
use Rattle.hfs_extents.proofs.ReadLaws.{eqb_apart}

pub by_key_total : {X : Type 0} (key : X → ℕ) → IsTotalOrder (λ (x y : X). nat_cmp (key x) (key y))
by_key_total key = record {
  antisymm = λ x y. nat_cmp_total.antisymm (key x) (key y);
  trans = λ x y z. nat_cmp_total.trans (key x) (key y) (key z);
  congr = λ x y z. nat_cmp_total.congr (key x) (key y) (key z);
}

-- a stable sort by a number gives the one sorted list
pub stable_sort : {X : Type 0} (key : X → ℕ) (xs list : List X) → IsSortedByKey key nat_cmp list → IsStableByKey key nat_cmp xs list → list ≡ sorted_by key xs
stable_sort {X} key xs list sorted stable = (sorted_law (λ (x y : X). nat_cmp (key x) (key y)) (by_key_total key) xs).one list (record { sorted = sorted; stable = stable })

-- what `sort_by_key` ensures, where each call of its closure gives the number
pub sorted_by_clauses : {X : Type 0} (key : X → ℕ) {F : Type 0} {g : Mut F (Bor X × Unit {0}) ℕ} {f : F} (xs list : List X)
    → ((by : X → ℕ) → ComputesKey g by f → IsSortedByKey by nat_cmp list) → ((by : X → ℕ) → ComputesKey g by f → IsStableByKey by nat_cmp xs list)
    → ((a : Bor X × Unit {0}) (r : ℕ) (f' : F) → Called g f a r f' → (r ≡ key a.0.now) × (f' ≡ f)) → list ≡ sorted_by key xs
sorted_by_clauses key {F} {g} {f} xs list sorted stable gives =
    let computes : ComputesKey g key f = always_returns_same g (λ a r. r ≡ key a.0.now) f gives in
    stable_sort key xs list (sorted key computes) (stable key computes)

-- the overflow records of a fork that isn't the extents file's own
pub other_file : (records found list : List OverflowRecord) (file fork_type : ℕ) → (file ≡ 3 → ⊥) → filter (is_of file fork_type) records ≡ found
    → list ≡ sorted_by (λ (overflow : OverflowRecord). overflow.start) found → list ≡ records_of records file fork_type
unfolding records_of
other_file records found list file fork_type other is sorted =
    sorted ∙ ap (sorted_by (λ overflow. overflow.start)) (sym is) ∙ sym (rw (eqb_apart file 3 other) refl)

-- the extents file's own fork has none
pub own_file : (records : List OverflowRecord) (file fork_type : ℕ) → file ≡ 3 → [] ≡ records_of records file fork_type
unfolding records_of
own_file records file fork_type same = sym (rw ((Decides-eqb file 3).1 same) refl)
