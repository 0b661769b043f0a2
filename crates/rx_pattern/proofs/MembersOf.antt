-- The members of a class, one by one.
use Rattle.std.proofs.Common.{◌≡◌, ℕ, zero, suc, Some, None, drop, List, [], ◌∷◌, ◌++◌, refl, sym, ◌∙◌, ap, append_assoc}
use Rattle.std.proofs.lemmas.Bool.{ne_eqb}
use Rattle.rx_pattern.specs.declared.class.Member.{Member}
use Rattle.rx_pattern.specs.declared.class.Member.TheVariants.{Single, Between}
use Rattle.rx_pattern.specs.Reading.{range_end, member_from, member_width, members_past, members_of}

members_past-drop : (passed : ℕ) (cs : List ℕ) → members_past passed cs ≡ members_of (drop passed cs)
unfolding members_past
members_past-drop zero cs = refl
members_past-drop (suc passed) [] = refl
members_past-drop (suc passed) (c ∷ cs) = members_past-drop passed cs

members_of-first : (c : ℕ) (cs : List ℕ) → members_of (c ∷ cs) ≡ member_from c (range_end cs) ∷ members_of (drop (member_width (range_end cs)) cs)
unfolding members_past
members_of-first c cs = ap (λ members. member_from c (range_end cs) ∷ members) (members_past-drop (member_width (range_end cs)) cs)

-- the members so far, and those of what is left
more_members : (whole so_far : List Member) (member : Member) (members : List Member) → whole ≡ so_far ++ member ∷ members → whole ≡ (so_far ++ member ∷ []) ++ members
more_members whole so_far member members all = all ∙ sym (append_assoc so_far (member ∷ []) members)

pub members_of-range : (whole so_far : List Member) (text : List ℕ) (first : ℕ) (cs : List ℕ) (last : ℕ) → whole ≡ so_far ++ members_of text → text ≡ first ∷ cs
    → range_end cs ≡ Some last → whole ≡ (so_far ++ Between first last ∷ []) ++ members_of (drop 2 cs)
members_of-range whole so_far text first cs last all begins range =
    more_members whole so_far (Between first last) (members_of (drop 2 cs))
    (all ∙ ap (λ members. so_far ++ members) (ap members_of begins ∙ members_of-first first cs
    ∙ ap (λ end. member_from first end ∷ members_of (drop (member_width end) cs)) range))

pub members_of-single : (whole so_far : List Member) (text : List ℕ) (first : ℕ) (cs : List ℕ) → whole ≡ so_far ++ members_of text → text ≡ first ∷ cs
    → range_end cs ≡ None → whole ≡ (so_far ++ Single first ∷ []) ++ members_of cs
members_of-single whole so_far text first cs all begins single =
    more_members whole so_far (Single first) (members_of cs)
    (all ∙ ap (λ members. so_far ++ members) (ap members_of begins ∙ members_of-first first cs
    ∙ ap (λ end. member_from first end ∷ members_of (drop (member_width end) cs)) single))

pub members_of-end : (text : List ℕ) → text ≡ [] → members_of text ≡ []
unfolding members_past
members_of-end text ended = ap members_of ended

-- the members of a class, step by step
pub no_members : members_of [] ≡ []
no_members = members_of-end [] refl

pub range_member : (first last : ℕ) (inside : List ℕ) → members_of (first ∷ 45 ∷ last ∷ inside) ≡ Between first last ∷ members_of inside
range_member first last inside = members_of-first first (45 ∷ last ∷ inside)

pub last_member : (c : ℕ) → members_of (c ∷ []) ≡ Single c ∷ []
unfolding members_past
last_member c = refl

pub last_dash : (c : ℕ) → members_of (c ∷ 45 ∷ []) ≡ Single c ∷ Single 45 ∷ []
unfolding members_past
last_dash c = refl

no_range : (next : ℕ) (inside : List ℕ) → (next ≡ 45 → ⊥) → range_end (next ∷ inside) ≡ None
no_range next [] other = refl
no_range next (last ∷ inside) other = rw (ne_eqb next 45 other) refl

pub single_member : (c next : ℕ) (inside : List ℕ) → (next ≡ 45 → ⊥) → members_of (c ∷ next ∷ inside) ≡ Single c ∷ members_of (next ∷ inside)
single_member c next inside other =
    members_of-first c (next ∷ inside)
    ∙ ap (λ end. member_from c end ∷ members_of (drop (member_width end) (next ∷ inside))) (no_range next inside other)
