-- The order in which the parts of a file stand.
use Rattle.std.specs.Prelude.{ℕ, IsSorted, List}
use Rattle.std.specs.Cmp.Lexicographic.{slice_cmp}
use Rattle.std.specs.Ordering.{nat_cmp, match_ordering}
use Rattle.std.specs.declared.cmp.Ordering.{Ordering}
use Rattle.std.specs.declared.cmp.Ordering.TheVariants.{Less, Greater}
use Rattle.rx_tree.specs.PartValue.{PartValue}
use Rattle.rx_tree.specs.declared.part.Role.{Role}
use Rattle.rx_tree.specs.declared.part.Role.TheVariants.{Content, Other}

-- Content stands in front of Other
abbrev pub rank_of : Role → ℕ
rank_of Content = 0
rank_of Other = 1

-- parts are compared by role, and then by the bytes of their names
abbrev pub part_cmp : PartValue → PartValue → Ordering
part_cmp a b = match_ordering (nat_cmp (rank_of a.role) (rank_of b.role)) Less (slice_cmp nat_cmp a.name b.name) Greater

abbrev pub ArePartsSorted : List PartValue → Type 0
ArePartsSorted parts = IsSorted part_cmp parts
