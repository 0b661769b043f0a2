-- Lists of names in which no directory has a number that stands in front.
use Rattle.std.specs.Prelude.{◌≡◌, ◌⊎◌, ℕ, suc, ◌==◌, Bool, true, false, if◌then◌else◌, List, [], ◌∷◌, ◌++◌, length, drop, refl}
use Rattle.std.specs.List.{Contains, filter}
use Rattle.std.proofs.Common.{ap, sym, ◌∙◌, subst, arith, inl, inr, ⊎_elim}
use Rattle.std.proofs.lemmas.Bool.{or_cases, or_left, or_right}
use Rattle.std.proofs.lemmas.Bool.Decides.{Decides-eqb}
use Rattle.std.proofs.lemmas.List.Elements.{Contains-append_left, Contains-append_cases, Contains-push_cases}
use Rattle.ufs_volume_defs.specs.Names.{Named, is_known, names_directory}

-- ---- items of a list

pub in_head : {X : Type 0} (x : X) (xs : List X) → Contains (x ∷ xs) x
in_head x xs = (0, omega arith, refl)

pub in_tail : {X : Type 0} (x y : X) (xs : List X) → Contains xs y → Contains (x ∷ xs) y
in_tail x y xs has = (suc has.0, (let inside = has.1 in omega (arith, inside)), has.2)

pub in_none : {X : Type 0} (x : X) → Contains [] x → ⊥
in_none x has = let inside = has.1 in omega (arith, inside)

pub in_cases : {X : Type 0} (x y : X) (xs : List X) → Contains (x ∷ xs) y → (x ≡ y) ⊎ Contains xs y
in_cases x y xs has =
    ⊎_elim
    (λ one. ⊎_elim (λ none. absurd (in_none y none)) (λ same. inl same) (Contains-push_cases [] x y one))
    (λ behind. inr behind)
    (Contains-append_cases (x ∷ []) xs y has)

-- an item of those that pass a test
pub in_filter : {X : Type 0} (test : X → Bool) (x : X) (xs : List X) → Contains xs x → test x ≡ true → Contains (filter test xs) x
in_filter test x [] has passes = absurd (in_none x has)
in_filter {X = X} test x (y ∷ xs) has passes =
    ⊎_elim
    (λ same. let P : X → Type 0 = λ z. Contains (if test z then z ∷ filter test xs else filter test xs) x in subst P (sym same) (first (test x) passes))
    (λ behind. later (test y) (in_filter test x xs behind passes))
    (in_cases y x xs has)
  where
    first : (is : Bool) → is ≡ true → Contains (if is then x ∷ filter test xs else filter test xs) x
    first true is = in_head x (filter test xs)
    first false is = absurd cc

    later : (is : Bool) → Contains (filter test xs) x → Contains (if is then y ∷ filter test xs else filter test xs) x
    later true rest = in_tail y x (filter test xs) rest
    later false rest = rest

-- ---- numbers that have names

-- a name of a list is given to an inode of a number
pub record IsKnown (number : ℕ) (names : List Named) : Type 0 where
  pub name : Named
  pub among : Contains names name
  pub is : name.number ≡ number

pub known_is : (number : ℕ) (names : List Named) → is_known number names ≡ true → IsKnown number names
known_is number [] known = absurd cc
known_is number (name ∷ names) known =
    ⊎_elim
    (λ here. record { name = name; among = in_head name names; is = (Decides-eqb name.number number).0 here })
    (λ later. let found = known_is number names later in record { name = found.name; among = in_tail name found.name names found.among; is = found.is })
    (or_cases (name.number == number) (is_known number names) known)

pub is_known-true : (number : ℕ) (names : List Named) → IsKnown number names → is_known number names ≡ true
is_known-true number [] known = absurd (in_none known.name known.among)
is_known-true number (name ∷ names) known =
    ⊎_elim
    (λ same. or_left (name.number == number) (is_known number names) ((Decides-eqb name.number number).1 (ap (λ n. n.number) same ∙ known.is)))
    (λ behind. or_right (name.number == number) (is_known number names) (is_known-true number names (record { name = known.name; among = behind; is = known.is })))
    (in_cases name known.name names known.among)

pub known_more : (number : ℕ) (names more : List Named) → IsKnown number names → IsKnown number (names ++ more)
known_more number names more known = record { name = known.name; among = Contains-append_left names more known.name known.among; is = known.is }

known_tail : (number : ℕ) (name : Named) (names : List Named) → IsKnown number names → IsKnown number (name ∷ names)
known_tail number name names known = record { name = known.name; among = in_tail name known.name names known.among; is = known.is }

-- ---- directories whose numbers stand nowhere in front

abbrev pub AreOnce : (ℕ → Type 0) → List Named → Type 0
AreOnce Seen [] = Unit {0}
AreOnce Seen (name ∷ names) = (names_directory name ≡ true → Seen name.number → ⊥) × AreOnce (λ n. Seen n ⊎ (name.number ≡ n)) names

once_weaker : (Seen Less : ℕ → Type 0) (names : List Named) → ((n : ℕ) → Less n → Seen n) → AreOnce Seen names → AreOnce Less names
once_weaker Seen Less [] into once = tt
once_weaker Seen Less (name ∷ names) into once = (
  λ is less. once.0 is (into name.number less),
  once_weaker (λ n. Seen n ⊎ (name.number ≡ n)) (λ n. Less n ⊎ (name.number ≡ n)) names (λ n either. ⊎_elim (λ less. inl (into n less)) (λ same. inr same) either) once.1,
)

pub once_push : (Seen : ℕ → Type 0) (names : List Named) (name : Named) → AreOnce Seen names → (names_directory name ≡ true → Seen name.number ⊎ IsKnown name.number names → ⊥) → AreOnce Seen (names ++ name ∷ [])
once_push Seen [] name once none = (λ is seen. none is (inl seen), tt)
once_push Seen (first ∷ names) name once none = (
  once.0,
  once_push (λ n. Seen n ⊎ (first.number ≡ n)) names name once.1
      (λ is either. ⊎_elim
      (λ seen. ⊎_elim (λ front. none is (inl front)) (λ same. none is (inr (record { name = first; among = in_head first names; is = same }))) seen)
      (λ known. none is (inr (known_tail name.number first names known)))
      either),
)

-- those behind some names have none of their numbers
pub once_behind : (Seen : ℕ → Type 0) (names more : List Named) → AreOnce Seen (names ++ more) → AreOnce (λ n. Seen n ⊎ IsKnown n names) more
once_behind Seen [] more once = once_weaker Seen (λ n. Seen n ⊎ IsKnown n []) more (λ n either. ⊎_elim (λ seen. seen) (λ known. absurd (in_none known.name known.among)) either) once
once_behind Seen (name ∷ names) more once =
    once_weaker (λ n. (Seen n ⊎ (name.number ≡ n)) ⊎ IsKnown n names) (λ n. Seen n ⊎ IsKnown n (name ∷ names)) more
    (λ n either. ⊎_elim
    (λ seen. inl (inl seen))
    (λ known. ⊎_elim (λ same. inl (inr (ap (λ one. one.number) same ∙ known.is))) (λ behind. inr (record { name = known.name; among = behind; is = known.is })) (in_cases name known.name names known.among))
    either)
    (once_behind (λ n. Seen n ⊎ (name.number ≡ n)) names more once.1)

-- two names of one directory are one name
pub once_same : (Seen : ℕ → Type 0) (names : List Named) (a b : Named) → AreOnce Seen names → Contains names a → Contains names b → names_directory a ≡ true → names_directory b ≡ true → a.number ≡ b.number → a ≡ b
once_same Seen [] a b once in_a in_b is_a is_b same = absurd (in_none a in_a)
once_same Seen (name ∷ names) a b once in_a in_b is_a is_b same =
    ⊎_elim
    (λ first_a. ⊎_elim
    (λ first_b. sym first_a ∙ first_b)
    (λ later_b. absurd (later (λ n. Seen n ⊎ (name.number ≡ n)) names b once.1 later_b is_b (inr (ap (λ one. one.number) first_a ∙ same))))
    (in_cases name b names in_b))
    (λ later_a. ⊎_elim
    (λ first_b. absurd (later (λ n. Seen n ⊎ (name.number ≡ n)) names a once.1 later_a is_a (inr (ap (λ one. one.number) first_b ∙ sym same))))
    (λ later_b. once_same (λ n. Seen n ⊎ (name.number ≡ n)) names a b once.1 later_a later_b is_a is_b same)
    (in_cases name b names in_b))
    (in_cases name a names in_a)
  where
    later : (Before : ℕ → Type 0) (names : List Named) (c : Named) → AreOnce Before names → Contains names c → names_directory c ≡ true → Before c.number → ⊥
    later Before [] c once has is before = in_none c has
    later Before (name ∷ names) c once has is before =
        ⊎_elim
        (λ same. let P : Named → Type 0 = λ n. names_directory n ≡ true → Before n.number → ⊥ in subst P same once.0 is before)
        (λ behind. later (λ n. Before n ⊎ (name.number ≡ n)) names c once.1 behind is (inl before))
        (in_cases name c names has)

-- directories whose numbers weren't walked, and differ
abbrev pub AreFresh : List ℕ → List Named → Type 0
AreFresh walked [] = Unit {0}
AreFresh walked (name ∷ names) = (Contains walked name.number → ⊥) × AreFresh (name.number ∷ walked) names

pub fresh_of : (Seen : ℕ → Type 0) (walked : List ℕ) (names : List Named) → AreOnce Seen names → ((n : ℕ) → Contains walked n → Seen n) → AreFresh walked (filter names_directory names)
fresh_of Seen walked [] once into = tt
fresh_of Seen walked (name ∷ names) once into =
    either (names_directory name) refl
    (fresh_of (λ n. Seen n ⊎ (name.number ≡ n)) (name.number ∷ walked) names once.1 (λ n has. ⊎_elim (λ same. inr same) (λ behind. inl (into n behind)) (in_cases name.number n walked has)))
    (fresh_of (λ n. Seen n ⊎ (name.number ≡ n)) walked names once.1 (λ n has. inl (into n has)))
  where
    either : (is : Bool) → names_directory name ≡ is → AreFresh (name.number ∷ walked) (filter names_directory names) → AreFresh walked (filter names_directory names)
        → AreFresh walked (if is then name ∷ filter names_directory names else filter names_directory names)
    either true is with_it without = ((λ has. once.0 is (into name.number has)), with_it)
    either false is with_it without = without

-- the names behind as many as stand in front
pub dropped : {X : Type 0} (xs ys : List X) → drop (length xs) (xs ++ ys) ≡ ys
dropped [] ys = refl
dropped (x ∷ xs) ys = dropped xs ys
