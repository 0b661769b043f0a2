-- The leaf records of a tree file are those of its chain.
use Rattle.std.specs.Prelude.{◌≡◌, ℕ, zero, suc, ◌<◌, ◌≤◌, ◌⊎◌, Bool, true, false, ◌==◌, if◌then◌else◌, Option, Some, None, List, [], ◌∷◌, ◌++◌, length, refl}
use Rattle.std.specs.List.{flat_map}
use Rattle.std.proofs.Common.{ap, sym, ◌∙◌, subst, arith, inl, inr, ⊎_elim}
use Rattle.std.proofs.lemmas.Bool.{true≢false}
use Rattle.std.proofs.lemmas.Bool.Decides.{Decides-eqb, nat_tests}
use Rattle.hfs_defs.specs.Nodes.{first_leaf, is_tree, next_node, is_sound_node}
use Rattle.hfs_defs.specs.Leaves.{TreeFile, Leaf, LeafList, place_of, whole_nodes, node_in, node_place, is_leaf_in, leaves_in, ended, stopped, followed_by, chain_step, chain_end, chain_within, chain_of, leaves_where, leaves_of}
use Rattle.hfs_defs.specs.Damage.{IsDamage}
use Rattle.hfs_defs.specs.Chain.{IsGoodNode, LeadsTo, IsReached, IsChain, IsFalseInTree, NoTree, NoLeaf, TooMany, Unsound, LeavesLaw}
use Rattle.fault_defs.specs.declared.Refusal.{Refusal}
use Rattle.fault_defs.specs.declared.Refusal.TheVariants.{Damaged}
use Rattle.fault_defs.specs.declared.Sort.{Sort}
use Rattle.fault_defs.specs.declared.Sort.TheVariants.{TreeHeader, NodeLink, NodeRecord}

-- ---- steps

no_more : (file : TreeFile) (link n : ℕ) (behind : LeafList) → n ≡ 0 → chain_step file link n behind ≡ ended
no_more file link n behind is = rw (eqb_zero n is) refl
  where
    eqb_zero : (n : ℕ) → n ≡ 0 → (n == 0) ≡ true
    eqb_zero n is = (Decides-eqb n 0).1 is

pub is_contiguous : (file : TreeFile) (link n : ℕ) (behind : LeafList) → IsGoodNode file n → chain_step file link n behind ≡ followed_by (leaves_in file n) behind
is_contiguous file link n behind good =
    let some : 0 < n = good.some in
    let other : (n == 0) ≡ false = grind (arith, nat_tests) in
    rw (other, good.leaf, good.sound) refl

pub too_long : (file : TreeFile) (n : ℕ) → 0 < n → chain_end file n ≡ stopped (Damaged NodeLink file.fork_data)
too_long file n some =
    let other : (n == 0) ≡ false = grind (arith, nat_tests) in
    rw other refl

-- ---- a chain that ends gives its records

ended_by : (file : TreeFile) (left link n : ℕ) → n ≡ 0 → chain_within left file link n ≡ ended
unfolding chain_within
ended_by file zero link n is = rw ((Decides-eqb n 0).1 is) refl
ended_by file (suc left) link n is = no_more file link n (chain_within left file (node_place file n) (next_node (node_in file n))) is

next_step : (file : TreeFile) (left link n : ℕ) → IsGoodNode file n
    → chain_within (suc left) file link n ≡ followed_by (leaves_in file n) (chain_within left file (node_place file n) (next_node (node_in file n)))
unfolding chain_within
next_step file left link n good = is_contiguous file link n (chain_within left file (node_place file n) (next_node (node_in file n))) good

chain_gives : (file : TreeFile) (left link n : ℕ) (nodes : List ℕ) (last : ℕ) → LeadsTo file link n nodes last 0 → length nodes ≤ left
    → chain_within left file link n ≡ record { records = flat_map (leaves_in file) nodes; stop = None }
chain_gives file left link n [] last leads few = ended_by file left link n leads.1
chain_gives file zero link n (first ∷ nodes) last leads few = absurd (omega (arith, few))
chain_gives file (suc left) link n (first ∷ nodes) last leads few =
    let P : ℕ → Type 0 = λ m. chain_within (suc left) file link m ≡ record { records = flat_map (leaves_in file) (first ∷ nodes); stop = None } in
    subst P (sym leads.0)
    (next_step file left link first leads.1
    ∙ ap (followed_by (leaves_in file first)) (chain_gives file left (node_place file first) (next_node (node_in file first)) nodes last leads.2 (omega (arith, few))))

-- ---- what a walk along the chain comes to

-- how a walk of so many nodes at most ends behind so many, with the link at `last` to node `to`
abbrev pub StopsWith : TreeFile → ℕ → ℕ → ℕ → ℕ → Option Refusal → Type 0
StopsWith file left count last to None = (to ≡ 0) × (count ≤ left)
StopsWith file left count last to (Some fault) =
    (0 < to)
    × (((fault ≡ Damaged NodeLink last) × (is_leaf_in file to ≡ false))
    ⊎ (((fault ≡ Damaged NodeLink file.fork_data) × (left ≤ count))
    ⊎ ((fault ≡ Damaged NodeRecord (node_place file to)) × (is_leaf_in file to ≡ true) × (is_sound_node (node_in file to) ≡ false))))

-- the good nodes from a node on, with their records, and how that ends
record IsWalk (file : TreeFile) (left link n : ℕ) (found : LeafList) : Type 0 where
  nodes : List ℕ
  last : ℕ
  to : ℕ
  leads : LeadsTo file link n nodes last to
  all : found.records ≡ flat_map (leaves_in file) nodes
  stops : StopsWith file left (length nodes) last to found.stop

-- a walk that ends at once
at_once : (file : TreeFile) (left link n : ℕ) (stop : Option Refusal) → StopsWith file left 0 link n stop → IsWalk file left link n (record { records = []; stop = stop })
at_once file left link n stop stops = record {
  nodes = [];
  last = link;
  to = n;
  leads = (refl, refl);
  all = refl;
  stops = stops;
}

-- one more node in front
one_more_stops : (file : TreeFile) (left count last to : ℕ) (stop : Option Refusal) → StopsWith file left count last to stop → StopsWith file (suc left) (suc count) last to stop
one_more_stops file left count last to None stops = (stops.0, omega (arith, stops.1))
one_more_stops file left count last to (Some fault) stops = (
  stops.0,
  ⊎_elim (λ bad. inl bad) (λ other. inr (⊎_elim (λ long. inl (long.0, omega (arith, long.1))) (λ unsound. inr unsound) other)) stops.1,
)

one_more : (file : TreeFile) (left link n : ℕ) (rest : LeafList) → IsGoodNode file n → IsWalk file left (node_place file n) (next_node (node_in file n)) rest
    → IsWalk file (suc left) link n (followed_by (leaves_in file n) rest)
one_more file left link n rest good walk = record {
  nodes = n ∷ walk.nodes;
  last = walk.last;
  to = walk.to;
  leads = (refl, good, walk.leads);
  all = ap (λ records. leaves_in file n ++ records) walk.all;
  stops = one_more_stops file left (length walk.nodes) walk.last walk.to rest.stop walk.stops;
}

walk_end : (file : TreeFile) (link n : ℕ) → IsWalk file 0 link n (chain_end file n)
walk_end file link n = either (n == 0) refl
  where
    either : (none : Bool) → (n == 0) ≡ none → IsWalk file 0 link n (if none then ended else stopped (Damaged NodeLink file.fork_data))
    either true is = at_once file 0 link n None ((Decides-eqb n 0).0 is, omega arith)
    either false is = let some : 0 < n = grind (arith, nat_tests) in at_once file 0 link n (Some (Damaged NodeLink file.fork_data)) (some, inr (inl (refl, omega arith)))

walk_step : (file : TreeFile) (left link n : ℕ) (rest : LeafList) → IsWalk file left (node_place file n) (next_node (node_in file n)) rest
    → IsWalk file (suc left) link n (chain_step file link n rest)
walk_step file left link n rest walk = either (n == 0) (is_leaf_in file n) (is_sound_node (node_in file n)) refl refl refl
  where
    either : (none leaf sound : Bool) → (n == 0) ≡ none → is_leaf_in file n ≡ leaf → is_sound_node (node_in file n) ≡ sound
        → IsWalk file (suc left) link n (if none then ended else (if leaf then (if sound then followed_by (leaves_in file n) rest else stopped (Damaged NodeRecord (node_place file n))) else stopped (Damaged NodeLink link)))
    either true leaf sound is its this = at_once file (suc left) link n None ((Decides-eqb n 0).0 is, omega arith)
    either false true true is its this =
        let some : 0 < n = grind (arith, nat_tests) in
        one_more file left link n rest (record { some = some; leaf = its; sound = this }) walk
    either false true false is its this =
        let some : 0 < n = grind (arith, nat_tests) in
        at_once file (suc left) link n (Some (Damaged NodeRecord (node_place file n))) (some, inr (inr (refl, its, this)))
    either false false sound is its this =
        let some : 0 < n = grind (arith, nat_tests) in
        at_once file (suc left) link n (Some (Damaged NodeLink link)) (some, inl (refl, its))

walk_within : (left : ℕ) (file : TreeFile) (link n : ℕ) → IsWalk file left link n (chain_within left file link n)
unfolding chain_within
walk_within zero file link n = walk_end file link n
walk_within (suc left) file link n = walk_step file left link n (chain_within left file (node_place file n) (next_node (node_in file n))) (walk_within left file (node_place file n) (next_node (node_in file n)))

-- ---- the law

-- where nothing stops them, the records are those of the chain
gives_chain : (file : TreeFile) (found : LeafList) → is_tree file.bytes ≡ true → IsWalk file (whole_nodes file) (place_of file 24) (first_leaf file.bytes) found → found.stop ≡ None → IsChain file found.records
gives_chain file found tree walk none =
    let P : Option Refusal → Type 0 = λ stop. StopsWith file (whole_nodes file) (length walk.nodes) walk.last walk.to stop in
    let stops : (walk.to ≡ 0) × (length walk.nodes ≤ whole_nodes file) = subst P none walk.stops in
    let Q : ℕ → Type 0 = λ to. LeadsTo file (place_of file 24) (first_leaf file.bytes) walk.nodes walk.last to in
    record {
      nodes = walk.nodes;
      link = walk.last;
      ends = (tree, subst Q stops.0 walk.leads);
      few = stops.1;
      all = walk.all;
    }

-- a fault is a false clause
gives_false : (file : TreeFile) (found : LeafList) (fault : Refusal) → is_tree file.bytes ≡ true → IsWalk file (whole_nodes file) (place_of file 24) (first_leaf file.bytes) found
    → found.stop ≡ Some fault → IsDamage (IsFalseInTree file) fault
gives_false file found fault tree walk is =
    let P : Option Refusal → Type 0 = λ stop. StopsWith file (whole_nodes file) (length walk.nodes) walk.last walk.to stop in
    let stops = subst P is walk.stops in
    let reached : IsReached file walk.nodes walk.last walk.to = (tree, walk.leads) in
    let Q : Refusal → Type 0 = IsDamage (IsFalseInTree file) in
    ⊎_elim
    (λ bad. subst Q (sym bad.0) (NoLeaf walk.nodes walk.last walk.to reached stops.0 bad.1))
    (λ other. ⊎_elim
    (λ long. subst Q (sym long.0) (TooMany walk.nodes walk.last walk.to reached stops.0 long.1))
    (λ unsound. subst Q (sym unsound.0) (Unsound walk.nodes walk.last walk.to reached stops.0 unsound.1 unsound.2))
    other)
    stops.1

-- a node of a chain that ends is good, and stands in front of the end
on_the_way : (file : TreeFile) (link from : ℕ) (nodes part : List ℕ) (last other n : ℕ) → LeadsTo file link from nodes last 0 → LeadsTo file link from part other n → 0 < n
    → IsGoodNode file n × (length part < length nodes)
on_the_way file link from [] [] last other n whole leads some = absurd (omega (arith, whole.1, leads.1, some))
on_the_way file link from (m ∷ nodes) [] last other n whole leads some =
    let P : ℕ → Type 0 = λ k. IsGoodNode file k in
    (subst P (sym whole.0 ∙ leads.1) whole.1, omega arith)
on_the_way file link from [] (k ∷ part) last other n whole leads some = absurd (omega (arith, whole.1, leads.0, leads.1.some))
on_the_way file link from (m ∷ nodes) (k ∷ part) last other n whole leads some =
    let P : ℕ → Type 0 = λ j. LeadsTo file (node_place file j) (next_node (node_in file j)) nodes last 0 in
    let rest = on_the_way file (node_place file k) (next_node (node_in file k)) nodes part last other n (subst P (sym whole.0 ∙ leads.0) whole.2) leads.2 some in
    (rest.0, omega (arith, rest.1))

-- no clause is false of a tree file with a whole chain
chain_is_true : (file : TreeFile) (records : List Leaf) (sort : Sort) (place : ℕ) → IsChain file records → IsFalseInTree file sort place → ⊥
chain_is_true file records sort place chain (NoTree none) = absurd (true≢false (sym chain.ends.0 ∙ none))
chain_is_true file records sort place chain (NoLeaf nodes link n reached some none) =
    let good = on_the_way file (place_of file 24) (first_leaf file.bytes) chain.nodes nodes chain.link link n chain.ends.1 reached.1 some in
    absurd (true≢false (sym good.0.leaf ∙ none))
chain_is_true file records sort place chain (TooMany nodes link n reached some long) =
    let good = on_the_way file (place_of file 24) (first_leaf file.bytes) chain.nodes nodes chain.link link n chain.ends.1 reached.1 some in
    absurd (omega (arith, good.1, long, chain.few))
chain_is_true file records sort place chain (Unsound nodes link n reached some leaf none) =
    let good = on_the_way file (place_of file 24) (first_leaf file.bytes) chain.nodes nodes chain.link link n chain.ends.1 reached.1 some in
    absurd (true≢false (sym good.0.sound ∙ none))

leaves_are_chain : (file : TreeFile) → (leaves_of file).stop ≡ None → IsChain file (leaves_of file).records
unfolding leaves_of
leaves_are_chain file none = either (is_tree file.bytes) refl none
  where
    either : (tree : Bool) → is_tree file.bytes ≡ tree → (leaves_where file tree).stop ≡ None → IsChain file (leaves_where file tree).records
    either true is none = gives_chain file (chain_of file) is (walk_within (whole_nodes file) file (place_of file 24) (first_leaf file.bytes)) none
    either false is none = absurd cc

chain_is_leaves : (file : TreeFile) (records : List Leaf) → IsChain file records → leaves_of file ≡ record { records = records; stop = None }
unfolding leaves_of
chain_is_leaves file records chain =
    let all : flat_map (leaves_in file) chain.nodes ≡ records = sym chain.all in
    rw chain.ends.0
    (chain_gives file (whole_nodes file) (place_of file 24) (first_leaf file.bytes) chain.nodes chain.link chain.ends.1 chain.few
    ∙ ap (λ found. record { records = found; stop = None }) all)

leaves_stop : (file : TreeFile) (fault : Refusal) → (leaves_of file).stop ≡ Some fault → IsDamage (IsFalseInTree file) fault
unfolding leaves_of
leaves_stop file fault is = either (is_tree file.bytes) refl is
  where
    same_fault : (one other : Refusal) → Some one ≡ Some other → one ≡ other
    same_fault one other same = cc

    either : (tree : Bool) → is_tree file.bytes ≡ tree → (leaves_where file tree).stop ≡ Some fault → IsDamage (IsFalseInTree file) fault
    either true tree is = gives_false file (chain_of file) fault tree (walk_within (whole_nodes file) file (place_of file 24) (first_leaf file.bytes)) is
    either false tree is = subst (IsDamage (IsFalseInTree file)) (same_fault (Damaged TreeHeader file.fork_data) fault is) (NoTree tree)

pub leaves_law : LeavesLaw
leaves_law file = record {
  are_chain = leaves_are_chain file;
  chain_is = chain_is_leaves file;
  stops = leaves_stop file;
  ends = λ records sort place chain false'. chain_is_true file records sort place chain false';
}
