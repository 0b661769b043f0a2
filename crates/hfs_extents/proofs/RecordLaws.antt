-- The overflow records that leaf records are, one leaf record on.
use Rattle.std.specs.Prelude.{◌≡◌, ℕ, Option, Some, None, IfSome, IsErr, IsErrAnd, Result, Ok, Err, List, [], ◌∷◌, ◌++◌, refl}
use Rattle.std.specs.List.{All}
use Rattle.std.proofs.Common.{ap, sym, ◌∙◌, subst, append_assoc}
use Rattle.std.proofs.lemmas.Bool.{false≢true}
use Rattle.std.proofs.lemmas.List.Elements.{All-head, All-tail}
use Rattle.image_defs.specs.Results.{in_front_of, each_result}
use Rattle.hfs_defs.specs.Leaves.{Leaf, LeafList, followed_by}
use Rattle.hfs_defs.specs.Overflow.{checked_overflow, then_stop, overflow_records}
use Rattle.fault_defs.specs.declared.Refusal.{Refusal}
use Rattle.fault_defs.specs.declared.Refusal.TheVariants.{Damaged}
use Rattle.fault_defs.specs.declared.Sort.{Sort}
use Rattle.fault_defs.specs.declared.Sort.TheVariants.{ExtentsRecord}
use Rattle.hfs_defs.specs.declared.forks.OverflowRecord.{OverflowRecord}
use Rattle.rx_store.specs.Answers.{Answers}
use Rattle.rx_store.specs.ReadFaults.{fault_of}
use Rattle.rx_store.specs.declared.read_fault.ReadFault.{ReadFault}
use Rattle.hfs_btree.specs.Cursor.{Cursor, rest_of}
use Rattle.hfs_btree.specs.Lent.{leaf, IsBehind}
use Rattle.hfs_btree.specs.declared.leaves.LeafRecord.{LeafRecord}
use Rattle.hfs_extents.specs.Overflow.{IsNear}

-- values in front of what a result has
abbrev pub in_front : {X : Type 0} → List X → Result (List X) Refusal → Result (List X) Refusal
in_front xs (Ok ys) = Ok (xs ++ ys)
in_front xs (Err e) = Err e

pub in_front-more : {X : Type 0} (xs : List X) (x : X) (rest : Result (List X) Refusal) → in_front xs (in_front (x ∷ []) rest) ≡ in_front (xs ++ x ∷ []) rest
in_front-more xs x (Ok ys) = ap Ok (sym (append_assoc xs (x ∷ []) ys))
in_front-more xs x (Err e) = refl

stop_behind : {X : Type 0} (stop : Option Refusal) (x : X) (rest : Result (List X) Refusal) → then_stop stop (in_front_of (Ok x) rest) ≡ in_front (x ∷ []) (then_stop stop rest)
stop_behind None x (Ok ys) = refl
stop_behind None x (Err e) = refl
stop_behind (Some fault) x (Ok ys) = refl
stop_behind (Some fault) x (Err e) = refl

stop_first : {X : Type 0} (stop : Option Refusal) (e : Refusal) (rest : Result (List X) Refusal) → (let first : Result X Refusal = Err e in then_stop stop (in_front_of first rest)) ≡ Err e
stop_first None e rest = refl
stop_first (Some fault) e rest = refl

-- a record in front of others, one that is none, and the end
pub records-more : (leaf : Leaf) (rest : LeafList) (overflow : OverflowRecord) → checked_overflow leaf ≡ Ok overflow → overflow_records (followed_by (leaf ∷ []) rest) ≡ in_front (overflow ∷ []) (overflow_records rest)
records-more leaf rest overflow is =
    ap (λ first. then_stop rest.stop (in_front_of first (each_result checked_overflow rest.records))) is ∙ stop_behind rest.stop overflow (each_result checked_overflow rest.records)

pub records-refused : (leaf : Leaf) (rest : LeafList) (fault : Refusal) → checked_overflow leaf ≡ Err fault → overflow_records (followed_by (leaf ∷ []) rest) ≡ Err fault
records-refused leaf rest fault is =
    ap (λ first. then_stop rest.stop (in_front_of first (each_result checked_overflow rest.records))) is ∙ stop_first rest.stop fault (each_result checked_overflow rest.records)

-- ---- the same, where a store tells its bytes

first_near : (found : Leaf) (old new : LeafList) → All IsNear old.records → old ≡ followed_by (found ∷ []) new → IsNear found
first_near found old new near steps = let P : LeafList → Type 0 = λ list. All IsNear list.records in All-head IsNear found new.records (subst P steps near)

pub more_told : (told : Option (List ℕ)) (all : List ℕ → Result (List OverflowRecord) Refusal) (old new : List ℕ → LeafList) (xs ys : List OverflowRecord) (found : Leaf) (overflow : OverflowRecord)
    → IfSome told (λ image. all image ≡ in_front xs (overflow_records (old image))) → IfSome told (λ image. All IsNear (old image).records)
    → IfSome told (λ image. old image ≡ followed_by (found ∷ []) (new image)) → (IsNear found → checked_overflow found ≡ Ok overflow) → ys ≡ xs ++ overflow ∷ []
    → IfSome told (λ image. all image ≡ in_front ys (overflow_records (new image)))
more_told None all old new xs ys found overflow so_far near steps is pushed = tt
more_told (Some image) all old new xs ys found overflow so_far near steps is pushed =
    so_far
    ∙ ap (λ list. in_front xs (overflow_records list)) steps
    ∙ ap (in_front xs) (records-more found (new image) overflow (is (first_near found (old image) (new image) near steps)))
    ∙ in_front-more xs overflow (overflow_records (new image))
    ∙ ap (λ list. in_front list (overflow_records (new image))) (sym pushed)

pub near_told : (told : Option (List ℕ)) (old new : List ℕ → LeafList) (found : Leaf) → IfSome told (λ image. All IsNear (old image).records)
    → IfSome told (λ image. old image ≡ followed_by (found ∷ []) (new image)) → IfSome told (λ image. All IsNear (new image).records)
near_told None old new found near steps = tt
near_told (Some image) old new found near steps = let P : LeafList → Type 0 = λ list. All IsNear list.records in All-tail IsNear found (new image).records (subst P steps near)

pub refused_told : (told : Option (List ℕ)) (all : List ℕ → Result (List OverflowRecord) Refusal) (old new : List ℕ → LeafList) (xs : List OverflowRecord) (found : Leaf) (sort : Sort) (place : ℕ)
    → IfSome told (λ image. all image ≡ in_front xs (overflow_records (old image))) → IfSome told (λ image. All IsNear (old image).records)
    → IfSome told (λ image. old image ≡ followed_by (found ∷ []) (new image)) → (IsNear found → checked_overflow found ≡ Err (Damaged sort place))
    → IfSome told (λ image. all image ≡ Err (Damaged sort place))
refused_told None all old new xs found sort place so_far near steps is = tt
refused_told (Some image) all old new xs found sort place so_far near steps is =
    so_far
    ∙ ap (λ list. in_front xs (overflow_records list)) steps
    ∙ ap (in_front xs) (records-refused found (new image) (Damaged sort place) (is (first_near found (old image) (new image) near steps)))

-- what is to come behind a record that was lent
pub behind_told : (told : Option (List ℕ)) (old new : Cursor) (result : Result (Option LeafRecord) ReadFault) (lent : LeafRecord) → result ≡ Ok (Some lent)
    → IfSome told (λ image. IsBehind (rest_of image old) result (rest_of image new)) → IfSome told (λ image. rest_of image old ≡ followed_by (leaf lent ∷ []) (rest_of image new))
behind_told told old new result lent is behind =
    let P : Result (Option LeafRecord) ReadFault → Type 0 = λ r. IfSome told (λ image. IsBehind (rest_of image old) r (rest_of image new)) in
    subst P is behind

-- the fault of a record that is none is handed on
pub refused_answers : (told : Option (List ℕ)) (all : List ℕ → Result (List OverflowRecord) Refusal) (old new : List ℕ → LeafList) (xs : List OverflowRecord) (found : Leaf) (place : ℕ)
    (result : Result (List OverflowRecord) ReadFault) (fault : ReadFault) → IsErr result → IsErrAnd result (λ other. other ≡ fault) → fault ≡ fault_of (Damaged ExtentsRecord place)
    → IfSome told (λ image. all image ≡ in_front xs (overflow_records (old image))) → IfSome told (λ image. All IsNear (old image).records)
    → IfSome told (λ image. old image ≡ followed_by (found ∷ []) (new image)) → (IsNear found → (let one : Result OverflowRecord ReadFault = Err fault in Answers one (checked_overflow found)))
    → IfSome told (λ image. Answers result (all image))
refused_answers told all old new xs found place (Ok list) fault is same sort so_far near steps refused = absurd (false≢true is)
refused_answers told all old new xs found place (Err other) fault is same sort so_far near steps refused =
    let A : ReadFault → Type 0 = λ f. let one : Result OverflowRecord ReadFault = Err f in Answers one (checked_overflow found) in
    let P : ReadFault → Type 0 = λ f. IfSome told (λ image. let result : Result (List OverflowRecord) ReadFault = Err f in Answers result (all image)) in
    subst P (sym (same ∙ sort)) (refused_told told all old new xs found ExtentsRecord place so_far near steps (λ near. subst A sort (refused near)))
