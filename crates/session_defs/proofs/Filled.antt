-- Laws of filled images.
use Rattle.std.proofs.Common.{◌≡◌, ℕ, zero, suc, ◌+◌, ◌-◌, ◌<◌, ◌≤◌, ⊎_elim, Option, Some, None, List, [], ◌∷◌, ◌++◌, length, take, drop, replicate, refl, sym, ◌∙◌, ap, subst, arith}
use Rattle.std.specs.Prelude.{slice_get, slice_index_or}
use Rattle.std.specs.List.{All}
use Rattle.std.specs.Option.{option_map}
use Rattle.std.proofs.lemmas.Bool.{cases_lt}
use Rattle.std.proofs.lemmas.List.{ext_get_or, get_or-append_right, get_or-drop, get_or-replicate, get_or-take, get_or_append_left, length-replicate, length-take}
use Rattle.std.proofs.lemmas.List.Elements.{All-head, All-tail}
use Rattle.disk_defs.specs.Story.{overwritten}
use Rattle.disk_defs.proofs.StoryLaws.{length-overwritten}
use Rattle.range_defs.specs.declared.Claim.{Claim}
use Rattle.range_defs.specs.Claims.{IsFillMap, lesser_paint, paint_of, painted}
use Rattle.range_defs.proofs.ClaimLaws.{paint_before, paint_behind, paint_inside}
use Rattle.rx_ranges.specs.PlanChecks.{IsClaimIn}
use Rattle.session_defs.specs.Outcome.{filled_byte, filled_from, filled, FilledLengthLaw, FilledBytesLaw, UntouchedLaw}

-- ---- each byte of a filled image

pub length_filled : (claims : List Claim) (at : ℕ) (image : List ℕ) → length (filled_from claims at image) ≡ length image
unfolding filled_from
length_filled claims at [] = refl
length_filled claims at (byte ∷ bytes) = ap suc (length_filled claims (at + 1) bytes)

filled_at : (claims : List Claim) (at : ℕ) (image : List ℕ) (i d : ℕ) → i < length image
    → slice_index_or (filled_from claims at image) i d ≡ filled_byte (painted claims (at + i)) (slice_index_or image i d)
unfolding filled_from
filled_at claims at [] i d within = absurd (omega (arith, within))
filled_at claims at (byte ∷ bytes) zero d within = ap (λ place. filled_byte (painted claims place) byte) (omega arith)
filled_at claims at (byte ∷ bytes) (suc i) d within =
    filled_at claims (at + 1) bytes i d (omega (arith, within))
    ∙ ap (λ place. filled_byte (painted claims place) (slice_index_or bytes i d)) (omega arith)

got : (claims : List Claim) (at : ℕ) (image : List ℕ) (i : ℕ)
    → slice_get (filled_from claims at image) i ≡ option_map (filled_byte (painted claims (at + i))) (slice_get image i)
unfolding filled_from
got claims at [] i = refl
got claims at (byte ∷ bytes) zero = ap (λ place. Some (filled_byte (painted claims place) byte)) (omega arith)
got claims at (byte ∷ bytes) (suc i) =
    got claims (at + 1) bytes i ∙ ap (λ place. option_map (filled_byte (painted claims place)) (slice_get bytes i)) (omega arith)

pub filled_length_law : FilledLengthLaw
filled_length_law claims image = length_filled claims 0 image

pub filled_bytes_law : FilledBytesLaw
filled_bytes_law claims image byte = got claims 0 image byte ∙ ap (λ place. option_map (filled_byte (painted claims place)) (slice_get image byte)) (omega arith)

kept : (byte : Option ℕ) → option_map (filled_byte None) byte ≡ byte
kept None = refl
kept (Some byte) = refl

pub untouched_law : UntouchedLaw
untouched_law claims image ranges apart = record {
  same_length = length_filled claims 0 image;
  same_bytes = λ byte covered. filled_bytes_law claims image byte ∙ ap (λ paint. option_map (filled_byte paint) (slice_get image byte)) (apart byte covered) ∙ kept (slice_get image byte);
}

pub filled_with_nothing : (at : ℕ) (image : List ℕ) → filled_from [] at image ≡ image
unfolding filled_from
filled_with_nothing at [] = refl
filled_with_nothing at (byte ∷ bytes) = ap (λ rest. byte ∷ rest) (filled_with_nothing (at + 1) bytes)

-- ---- claims that are filled one after the other

-- claims stand in their order between two places, none over another
abbrev pub AreInOrder : ℕ → ℕ → List Claim → Type 0
AreInOrder from end [] = from ≤ end
AreInOrder from end (claim ∷ claims) = (from ≤ claim.range.at) × AreInOrder (claim.range.at + claim.range.len) end claims

pub in_order_spans : (from end : ℕ) (claims : List Claim) → AreInOrder from end claims → from ≤ end
in_order_spans from end [] ordered = ordered
in_order_spans from end (claim ∷ claims) ordered =
    let rest = in_order_spans (claim.range.at + claim.range.len) end claims ordered.1 in
    omega (arith, ordered.0, rest)

-- none has a byte in front of them
unpainted_before : (from end : ℕ) (claims : List Claim) (byte : ℕ) → AreInOrder from end claims → byte < from → painted claims byte ≡ None
unpainted_before from end [] byte ordered before = refl
unpainted_before from end (claim ∷ claims) byte ordered before =
    rw (paint_before claim byte (omega (arith, ordered.0, before)))
    (unpainted_before (claim.range.at + claim.range.len) end claims byte ordered.1 (omega (arith, ordered.0, before)))

-- some of the first claims, and claims that are in order wherever the others are
pub in_order_more : (n from end : ℕ) (claims more : List Claim) → AreInOrder from end claims
    → ((to : ℕ) → AreInOrder to end (drop n claims) → AreInOrder to end more) → AreInOrder from end (take n claims ++ more)
in_order_more zero from end claims more ordered rest = rest from ordered
in_order_more (suc n) from end [] more ordered rest = rest from ordered
in_order_more (suc n) from end (claim ∷ claims) more ordered rest =
    (ordered.0, in_order_more n (claim.range.at + claim.range.len) end claims more ordered.1 rest)

-- the first claims are left out
pub in_order_drop : (n from end : ℕ) (claims : List Claim) → AreInOrder from end claims → AreInOrder from end (drop n claims)
in_order_drop zero from end claims ordered = ordered
in_order_drop (suc n) from end [] ordered = ordered
in_order_drop (suc n) from end (claim ∷ claims) ordered = in_order_drop n from end claims (sooner from end claim claims ordered)
  where
    sooner : (from end : ℕ) (claim : Claim) (claims : List Claim) → AreInOrder from end (claim ∷ claims) → AreInOrder from end claims
    sooner from end claim [] ordered = omega (arith, ordered.0, ordered.1)
    sooner from end claim (next ∷ claims) ordered = (omega (arith, ordered.0, ordered.1.0), ordered.1.1)

behind_first : (len : ℕ) (claim : Claim) (claims : List Claim) → IsFillMap (claim ∷ claims) → All (IsClaimIn len) (claim ∷ claims)
    → AreInOrder (claim.range.at + claim.range.len) len claims
behind_first len claim [] kept within = (All-head (IsClaimIn len) claim [] within).0
behind_first len claim (next ∷ claims) kept within =
    (kept.1.0, behind_first len next claims kept.2 (All-tail (IsClaimIn len) claim (next ∷ claims) within))

-- the canonical list of claims in an image
pub fill_map_in_order : (len : ℕ) (claims : List Claim) → IsFillMap claims → All (IsClaimIn len) claims → AreInOrder 0 len claims
fill_map_in_order len [] kept within = omega arith
fill_map_in_order len (claim ∷ claims) kept within = (omega arith, behind_first len claim claims kept within)

-- the image after each claim was written, one after the other
abbrev pub filled_each : List Claim → List ℕ → List ℕ
filled_each [] image = image
filled_each (claim ∷ claims) image = filled_each claims (overwritten image claim.range.at (replicate claim.range.len claim.fill))

-- a byte that one claim fills, and then the others
byte_twice : (claim : Claim) (claims : List Claim) (end byte old : ℕ) → AreInOrder (claim.range.at + claim.range.len) end claims
    → filled_byte (painted claims byte) (filled_byte (painted (claim ∷ []) byte) old) ≡ filled_byte (painted (claim ∷ claims) byte) old
byte_twice claim claims end byte old ordered =
    ⊎_elim
    (λ before. rw (unpainted_before (claim.range.at + claim.range.len) end claims byte ordered before) refl)
    (λ behind. rw (paint_behind claim byte behind) refl)
    (cases_lt byte (claim.range.at + claim.range.len))

filled_twice : (claim : Claim) (claims : List Claim) (end at : ℕ) (image : List ℕ) → AreInOrder (claim.range.at + claim.range.len) end claims
    → filled_from claims at (filled_from (claim ∷ []) at image) ≡ filled_from (claim ∷ claims) at image
unfolding filled_from
filled_twice claim claims end at [] ordered = refl
filled_twice claim claims end at (byte ∷ bytes) ordered =
    ap (λ first. first ∷ filled_from claims (at + 1) (filled_from (claim ∷ []) (at + 1) bytes)) (byte_twice claim claims end at byte ordered)
    ∙ ap (λ rest. filled_byte (painted (claim ∷ claims) at) byte ∷ rest) (filled_twice claim claims end (at + 1) bytes ordered)

-- a byte of a claim's bytes is its fill, and each other one is that of the image
one_byte_filled : (claim : Claim) (image : List ℕ) (i : ℕ) → claim.range.at + claim.range.len ≤ length image → i < length image
    → slice_index_or (overwritten image claim.range.at (replicate claim.range.len claim.fill)) i 0 ≡ filled_byte (painted (claim ∷ []) i) (slice_index_or image i 0)
unfolding overwritten
one_byte_filled claim image i within inside =
    let at = claim.range.at in
    let len = claim.range.len in
    let fills = replicate len claim.fill in
    let front : length (take at image) ≡ at = omega (arith, within, length-take at image) in
    let long : length fills ≡ len = length-replicate len claim.fill in
    let behind = drop (at + length fills) image in
    let by_paint = λ (paint : Option (ℕ × ℕ)) (is : paint_of claim i ≡ paint). ap (λ paint. filled_byte (lesser_paint paint None) (slice_index_or image i 0)) is in
    ⊎_elim
    (λ before. get_or_append_left (take at image) (fills ++ behind) 0 i (omega (arith, before, front))
    ∙ get_or-take at image i 0 before ∙ sym (by_paint None (paint_before claim i before)))
    (λ begun. get_or-append_right (take at image) (fills ++ behind) at i 0 front begun
    ∙ ⊎_elim
    (λ in_it. get_or_append_left fills behind 0 (i - at) (omega (arith, in_it, begun, long))
    ∙ get_or-replicate len (i - at) claim.fill 0 (omega (arith, in_it, begun))
    ∙ sym (by_paint (Some (claim.rule, claim.fill)) (paint_inside claim i begun in_it)))
    (λ past. get_or-append_right fills behind len (i - at) 0 long (omega (arith, past))
    ∙ get_or-drop (at + length fills) image (i - at - len) 0
    ∙ ap (λ place. slice_index_or image place 0) (omega (arith, past, begun, long))
    ∙ sym (by_paint None (paint_behind claim i past)))
    (cases_lt i (at + len)))
    (cases_lt i at)

length_over : (claim : Claim) (image : List ℕ) → claim.range.at + claim.range.len ≤ length image
    → length (overwritten image claim.range.at (replicate claim.range.len claim.fill)) ≡ length image
length_over claim image within = length-overwritten image (replicate claim.range.len claim.fill) claim.range.at (omega (arith, within)) ∙ omega (arith, within, length-replicate claim.range.len claim.fill)

one_filled : (claim : Claim) (image : List ℕ) → claim.range.at + claim.range.len ≤ length image
    → overwritten image claim.range.at (replicate claim.range.len claim.fill) ≡ filled (claim ∷ []) image
one_filled claim image within =
    let over = overwritten image claim.range.at (replicate claim.range.len claim.fill) in
    let long = length_over claim image within in
    ext_get_or 0 over (filled (claim ∷ []) image) (long ∙ sym (length_filled (claim ∷ []) 0 image))
    (λ i inside. let inside : i < length image = omega (arith, inside, long) in
    one_byte_filled claim image i within inside
    ∙ sym (filled_at (claim ∷ []) 0 image i 0 inside ∙ ap (λ place. filled_byte (painted (claim ∷ []) place) (slice_index_or image i 0)) (omega arith)))

-- claims in order that are filled one after the other are filled
pub each_filled : (claims : List Claim) (from : ℕ) (image : List ℕ) → AreInOrder from (length image) claims → filled_each claims image ≡ filled claims image
each_filled [] from image ordered = sym (filled_with_nothing 0 image)
each_filled (claim ∷ claims) from image ordered =
    let end = claim.range.at + claim.range.len in
    let within = in_order_spans end (length image) claims ordered.1 in
    let long = length_filled (claim ∷ []) 0 image in
    ap (filled_each claims) (one_filled claim image within)
    ∙ each_filled claims end (filled (claim ∷ []) image) (subst (λ len. AreInOrder end len claims) (sym long) ordered.1)
    ∙ filled_twice claim claims (length image) 0 image ordered.1
