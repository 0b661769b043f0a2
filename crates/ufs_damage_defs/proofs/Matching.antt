-- Names that are given by one entry each are no more than those among which each has its match.
use Rattle.std.specs.Prelude.{◌≡◌, ℕ, suc, ◌+◌, ◌≤◌, List, [], ◌∷◌, ◌++◌, length}
use Rattle.std.specs.List.{All, AllPairs, Contains}
use Rattle.std.proofs.Common.{ap, sym, ◌∙◌, subst, arith, ⊎_elim, length-append}
use Rattle.std.proofs.lemmas.List.Sums.{sum_by-append, sum_by-cons}
use Rattle.std.proofs.lemmas.List.Elements.{All-head, All-tail, All-cons, All-nil, Contains-append_left, Contains-append_right, Contains-append_cases}
use Rattle.ufs_volume_defs.specs.Names.{Named, path_bytes}
use Rattle.ufs_damage_defs.specs.Damage.{AreApart}
use Rattle.ufs_damage_defs.proofs.NameFacts.{in_cases}
use Rattle.ufs_damage_defs.proofs.Distinct.{IsSplit, split_at}

-- a name of a list is given by the same entry, and has the same path
pub record HasMatch (names : List Named) (name : Named) : Type 0 where
  pub other : Named
  pub among : Contains names other
  pub directory : other.directory ≡ name.directory
  pub offset : other.offset ≡ name.offset
  pub path : other.path ≡ name.path

without : (names : List Named) (taken : Named) (split : IsSplit names taken) (name : Named) → HasMatch names name → (taken.directory ≡ name.directory → taken.offset ≡ name.offset → ⊥) → HasMatch (split.front ++ split.back) name
without names taken split name has apart =
    let P : List Named → Type 0 = λ list. Contains list has.other in
    let kept : Contains (split.front ++ split.back) has.other → HasMatch (split.front ++ split.back) name =
    λ among. record { other = has.other; among = among; directory = has.directory; offset = has.offset; path = has.path } in
    ⊎_elim
    (λ front. kept (Contains-append_left split.front split.back has.other front))
    (λ behind. ⊎_elim
    (λ same. absurd (apart (ap (λ n. n.directory) same ∙ has.directory) (ap (λ n. n.offset) same ∙ has.offset)))
    (λ back. kept (Contains-append_right split.front split.back has.other back))
    (in_cases taken has.other split.back behind))
    (Contains-append_cases split.front (taken ∷ split.back) has.other (subst P split.whole has.among))

-- those that are apart from one have their matches elsewhere
others_match : (name : Named) (others : List Named) (taken : Named) (split : IsSplit others taken) → taken.directory ≡ name.directory → taken.offset ≡ name.offset → (left : List Named) → All (HasMatch others) left
    → All (AreApart name) left → All (HasMatch (split.front ++ split.back)) left
others_match name others taken split directory offset [] matched apart = All-nil (HasMatch (split.front ++ split.back))
others_match name others taken split directory offset (one ∷ left) matched apart =
    let differ = All-head (AreApart name) one left apart in
    All-cons (HasMatch (split.front ++ split.back)) one left
    (without others taken split one (All-head (HasMatch others) one left matched) (λ a b. differ (sym directory ∙ a) (sym offset ∙ b)))
    (others_match name others taken split directory offset left (All-tail (HasMatch others) one left matched) (All-tail (AreApart name) one left apart))

abbrev pub bytes_of : Named → ℕ
bytes_of name = length name.path

pub fits : (names others : List Named) → AllPairs AreApart names → All (HasMatch others) names → (length names ≤ length others) × (path_bytes names ≤ path_bytes others)
fits [] others apart matched = (omega arith, omega arith)
fits (name ∷ names) others apart matched =
    let first = All-head (HasMatch others) name names matched in
    let split = split_at others first.other first.among in
    let rest : List Named = split.front ++ split.back in
    let apart_from : All (AreApart name) names = λ k d inside. apart 0 (suc k) d (omega arith) (omega (arith, inside)) in
    let apart_rest : AllPairs AreApart names = λ i j d before inside. apart (suc i) (suc j) d (omega (arith, before)) (omega (arith, inside)) in
    let next = fits names rest apart_rest (others_match name others first.other split first.directory first.offset names (All-tail (HasMatch others) name names matched) apart_from) in
    let few = next.0 in
    let brief = next.1 in
    let long : length others ≡ length split.front + length (first.other ∷ split.back) = ap length split.whole ∙ length-append split.front (first.other ∷ split.back) in
    let short : length rest ≡ length split.front + length split.back = length-append split.front split.back in
    let all : path_bytes others ≡ path_bytes split.front + path_bytes (first.other ∷ split.back) = ap path_bytes split.whole ∙ sum_by-append bytes_of split.front (first.other ∷ split.back) in
    let one : path_bytes (first.other ∷ split.back) ≡ length first.other.path + path_bytes split.back = sum_by-cons bytes_of first.other split.back in
    let kept : path_bytes rest ≡ path_bytes split.front + path_bytes split.back = sum_by-append bytes_of split.front split.back in
    let mine : path_bytes (name ∷ names) ≡ length name.path + path_bytes names = sum_by-cons bytes_of name names in
    let same : length first.other.path ≡ length name.path = ap length first.path in
    (omega (arith, few, long, short), omega (arith, brief, all, one, kept, mine, same))
