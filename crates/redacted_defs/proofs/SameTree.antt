-- A filled image has the same tree: no byte of the guard is planned, so that the two agree there. The same holds of the bytes of a
-- file that touches no planned byte.
use Rattle.std.proofs.Common.{◌≡◌, ℕ, Bool, true, false, ◌&&◌, Some, None, Option, is_some, List, refl, ap, sym, ◌∙◌, ⊎_elim}
use Rattle.std.proofs.lemmas.Bool.{cases_lt, false≢true}
use Rattle.range_defs.specs.declared.Range.{Range}
use Rattle.range_defs.specs.Places.{covers, least_below}
use Rattle.range_defs.specs.Claims.{painted, longest_claims}
use Rattle.range_defs.proofs.AnyByte.{some_below}
use Rattle.range_defs.proofs.ClaimLaws.{painted-past, longest_claims_claim, longest_claims_ends}
use Rattle.image_defs.specs.Agreement.{AgreeOn}
use Rattle.rx_tree.specs.TreeValue.{TreeValue}
use Rattle.rule_defs.specs.declared.Rule.{Rule}
use Rattle.plan_defs.specs.Plan.{planned_at, is_planned, plan_of, guarded_byte, touched_ranges}
use Rattle.session_defs.specs.Outcome.{filled}
use Rattle.session_defs.proofs.Filled.{untouched_law}
use Rattle.tree_defs.specs.ImageTree.{image_guard}
use Rattle.tree_defs.proofs.Footprint.{image_footprint_law}
use Rattle.tree_defs.proofs.ImageLaws.{tree-guard}
use Rattle.redacted_defs.specs.SameTree.{SameTreeLaw, SameFilesLaw}

-- ---- no byte of the guard is planned

none_of : (paint : Option (ℕ × ℕ)) (planned guarded : Bool) (least : Option ℕ) → is_some paint ≡ planned → guarded ≡ true → least ≡ None
    → (planned && guarded ≡ true → is_some least ≡ true) → paint ≡ None
none_of None planned guarded least same guard none some = refl
none_of (Some paint) planned guarded least same guard none some =
    absurd (false≢true (sym (ap is_some none) ∙ some (ap (λ p. p && guarded) (sym same) ∙ guard)))

unplanned : (tree : TreeValue) (rules : List Rule) (ranges : List Range) (byte : ℕ)
    → least_below (λ b. is_planned rules tree.files b && covers ranges b) tree.image_len ≡ None → covers ranges byte ≡ true
    → painted (plan_of tree rules).ranges byte ≡ None
unfolding plan_of
unplanned tree rules ranges byte none inside =
    let paint : ℕ → Option (ℕ × ℕ) = planned_at rules tree.files in
    let test : ℕ → Bool = λ b. is_planned rules tree.files b && covers ranges b in
    ⊎_elim
    (λ below. none_of (painted (longest_claims paint 0 tree.image_len) byte) (is_planned rules tree.files byte) (covers ranges byte)
    (least_below test tree.image_len) (longest_claims_claim paint tree.image_len byte below) inside none
    (λ passes. some_below test tree.image_len byte passes below))
    (λ above. painted-past (longest_claims paint 0 tree.image_len) tree.image_len byte (longest_claims_ends paint tree.image_len) above)
    (cases_lt byte tree.image_len)

unguarded : (tree : TreeValue) (rules : List Rule) (byte : ℕ) → guarded_byte tree rules ≡ None → covers tree.guard byte ≡ true
    → painted (plan_of tree rules).ranges byte ≡ None
unfolding guarded_byte
unguarded tree rules byte none inside = unplanned tree rules tree.guard byte none inside

-- ---- the laws

agree-back : (ranges : List Range) (a b : List ℕ) → AgreeOn ranges a b → AgreeOn ranges b a
agree-back ranges a b same = record { same_length = sym same.same_length; same_bytes = λ byte covered. sym (same.same_bytes byte covered) }

pub same_tree_law : SameTreeLaw
same_tree_law image tree rules is_tree none =
    let claims = (plan_of tree rules).ranges in
    let agree = agree-back (image_guard image) (filled claims image) image (untouched_law claims image (image_guard image)
    (λ byte covered. unguarded tree rules byte none (ap (λ guard. covers guard byte) (tree-guard image tree is_tree) ∙ covered))) in
    let same = image_footprint_law image (filled claims image) agree in
    (same.tree ∙ is_tree, same.guard, same.kind)

no_least : (least : Option ℕ) → is_some least ≡ false → least ≡ None
no_least None none = refl
no_least (Some least) none = absurd cc

pub same_files_law : SameFilesLaw
same_files_law image tree rules file apart =
    untouched_law (plan_of tree rules).ranges image (touched_ranges file)
    (λ byte covered. unplanned tree rules (touched_ranges file) byte (no_least (least_below (λ b. is_planned rules tree.files b && covers (touched_ranges file) b) tree.image_len) apart) covered)
