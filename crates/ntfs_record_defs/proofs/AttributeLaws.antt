-- What the attributes of a record look at: nothing of the content of a resident $DATA.
use Rattle.std.specs.Prelude.{◌≡◌, ℕ, zero, suc, ◌+◌, ◌-◌, ◌%◌, ◌<◌, ◌≤◌, ◌⊎◌, ◌&&◌, ◌||◌, ◌==◌, Bool, true, false, nat_le, if◌then◌else◌, Option, Some, None, Ok, List, [], ◌∷◌, ◌++◌, refl}
use Rattle.std.proofs.Common.{arith, lit≤, ap, sym, ◌∙◌, subst, inl, inr, ⊎_elim}
use Rattle.std.proofs.lemmas.Bool.{and_parts, or_cases, or_from, leb-true, eqb-true}
use Rattle.std.proofs.lemmas.Bool.Decides.{nat_tests}
use Rattle.range_defs.specs.declared.Range.{Range}
use Rattle.range_defs.proofs.RangeLaws.{covers_append}
use Rattle.range_defs.specs.Places.{in_range, covers}
use Rattle.bytes_defs.specs.Bytes.{part}
use Rattle.image_defs.specs.Ask.{Ask, Done, result_of, ◌>>=◌}
use Rattle.image_defs.specs.Looks.{LooksAt}
use Rattle.image_defs.proofs.Looks.{looks_done, looks_weaker, looks_bind, looks_bind_ok, looks_check, looks_look, bind_gives, check_gives}
use Rattle.ntfs_record_defs.specs.declared.fault.RecordFault.{RecordFault}
use Rattle.ntfs_record_defs.specs.declared.fault.RecordFault.TheVariants.{BadField}
use Rattle.ntfs_record_defs.specs.Attributes.{Attribute, Opened, is_end_mark, is_resident, header_size, length_of, is_length, body_offset, body_length, name_offset, name_length, is_name_place, is_layout, form_of, attribute_of, body_of, is_content, look_in, body_asked, opened, attribute_at, unless_ended, next_attribute, and_behind, attributes_within, content_of, contents}

-- each byte of a range stands behind a place, and in none of some ranges
abbrev pub Avoids : ℕ → List Range → Range → Type 0
Avoids at ranges range = (i : ℕ) → range.at ≤ i → i < range.at + range.len → (at ≤ i) × (covers ranges i ≡ false)

-- ---- one attribute

-- how an attribute lies in a record: its header, its name, and its content or run list, one behind the other
pub record IsLaidOut (used at header : ℕ) (attribute : Attribute) : Type 0 where
  pub begins : attribute.at ≡ at
  pub behind_header : at + header ≤ (body_of attribute.form).at
  pub name_between : (attribute.name.len ≡ 0) ⊎ ((at + header ≤ attribute.name.at) × (attribute.name.at + attribute.name.len ≤ (body_of attribute.form).at))
  pub body_inside : (body_of attribute.form).at + (body_of attribute.form).len ≤ at + attribute.len
  pub header_inside : header ≤ attribute.len
  pub inside : at + attribute.len ≤ used

body_of-form_of : (resident : Bool) (at len : ℕ) (header : List ℕ) → body_of (form_of resident at len header) ≡ record { at = at + body_offset resident header; len = body_length resident len header }
body_of-form_of true at len header = refl
body_of-form_of false at len header = refl

name_lies : (at header offset len body : ℕ) → is_name_place header offset len body ≡ true → (len ≡ 0) ⊎ ((at + header ≤ at + offset) × (at + offset + len ≤ at + body))
name_lies at header offset len body is =
    ⊎_elim
    (λ none. inl (eqb-true len 0 none))
    (λ placed.
    let both = and_parts (nat_le header offset) (nat_le (offset + len) body) placed in
    inr (omega (arith, leb-true header offset both.0), omega (arith, leb-true (offset + len) body both.1)))
    (or_cases (len == 0) (nat_le header offset && nat_le (offset + len) body) is)

laid_out : (used at : ℕ) (start header : List ℕ) → at + 16 ≤ used → is_length (used - at) start ≡ true → is_layout (is_resident start) start header ≡ true
    → IsLaidOut used at (header_size (is_resident start)) (attribute_of at start header)
unfolding is_length is_layout
laid_out used at start header room length layout =
    let resident = is_resident start in
    let sizes = and_parts (length_of start % 8 == 0) _ length in
    let bounds = and_parts (nat_le (header_size resident) (length_of start)) (nat_le (length_of start) (used - at)) sizes.1 in
    let placed = and_parts (is_name_place (header_size resident) (name_offset start) (name_length start) (body_offset resident header)) _ layout in
    let body = and_parts (nat_le (header_size resident) (body_offset resident header)) _ placed.1 in
    let is = body_of-form_of resident at (length_of start) header in
    let begins : (body_of (form_of resident at (length_of start) header)).at ≡ at + body_offset resident header = ap (λ range. range.at) is in
    let long : (body_of (form_of resident at (length_of start) header)).len ≡ body_length resident (length_of start) header = ap (λ range. range.len) is in
    let in_front : header_size resident ≤ body_offset resident header = leb-true _ _ body.0 in
    let ends : body_offset resident header + body_length resident (length_of start) header ≤ length_of start = leb-true _ _ body.1 in
    let P : ℕ → Type 0 = λ behind. (name_length start ≡ 0) ⊎ ((at + header_size resident ≤ at + name_offset start) × (at + name_offset start + name_length start ≤ behind)) in
    record {
      begins = refl;
      behind_header = omega (arith, begins, in_front);
      name_between = subst P (sym begins) (name_lies at (header_size resident) (name_offset start) (name_length start) (body_offset resident header) placed.0);
      body_inside = omega (arith, begins, long, ends);
      header_inside = leb-true _ _ bounds.0;
      inside = omega (arith, room, leb-true (length_of start) (used - at) bounds.1);
    }

-- what is opened is the attribute
opened_is : (image : List ℕ) (attribute : Attribute) (found : Opened) → result_of image (opened attribute) ≡ Ok found → found.attribute ≡ attribute
opened_is image attribute found gives =
    let given = bind_gives image (body_asked attribute) (λ body. Done (record { attribute = attribute; name = part image attribute.name.at attribute.name.len; body = body })) found gives in
    cc (given.2)

-- an attribute that is found lies so, where its header has this size
pub attribute_lies : (image : List ℕ) (used at : ℕ) (found : Opened) → result_of image (attribute_at used at) ≡ Ok found → IsLaidOut used at (header_size (is_resident (part image at 16))) found.attribute
attribute_lies image used at found gives =
    let start = part image at 16 in
    let header = part image at (header_size (is_resident start)) in
    let room = check_gives image (nat_le (at + 16) used) (BadField at) _ found gives in
    let length = check_gives image (is_length (used - at) start) (BadField at) _ found room.1 in
    let layout = check_gives image (is_layout (is_resident start) start header) (BadField at) _ found length.1 in
    let P : Attribute → Type 0 = IsLaidOut used at (header_size (is_resident start)) in
    subst P (sym (opened_is image (attribute_of at start header) found layout.1)) (laid_out used at start header (leb-true _ _ room.0) length.0 layout.0)

-- its length is that of its header
pub attribute_length : (image : List ℕ) (used at : ℕ) (found : Opened) → result_of image (attribute_at used at) ≡ Ok found → found.attribute.len ≡ length_of (part image at 16)
attribute_length image used at found gives =
    let start = part image at 16 in
    let header = part image at (header_size (is_resident start)) in
    let room = check_gives image (nat_le (at + 16) used) (BadField at) _ found gives in
    let length = check_gives image (is_length (used - at) start) (BadField at) _ found room.1 in
    let layout = check_gives image (is_layout (is_resident start) start header) (BadField at) _ found length.1 in
    ap (λ attribute. attribute.len) (opened_is image (attribute_of at start header) found layout.1)

-- ---- what one attribute looks at

abbrev NoneIn : List Range → Range → Type 0
NoneIn ranges range = (i : ℕ) → range.at ≤ i → i < range.at + range.len → covers ranges i ≡ false

looks_in : (ranges : List Range) (at : ℕ) (image : List ℕ) (range : Range) → (range.len ≡ 0) ⊎ (at ≤ range.at) → NoneIn ranges range → LooksAt (Avoids at ranges) image (look_in {E = RecordFault} range)
looks_in ranges at image range from none =
    looks_look {E = RecordFault} (Avoids at ranges) image range.at range.len (λ bytes. Done bytes)
    (λ i low high. (⊎_elim (λ empty. absurd (omega (arith, empty))) (λ behind. omega (arith, behind, low)) from, none i low high))
    (looks_done (Avoids at ranges) image _)

body_looks : (ranges : List Range) (at : ℕ) (image : List ℕ) (attribute : Attribute) → at ≤ (body_of attribute.form).at → (is_content attribute ≡ false → NoneIn ranges (body_of attribute.form))
    → LooksAt (Avoids at ranges) image (body_asked attribute)
body_looks ranges at image attribute behind none = by_kind (is_content attribute) none
  where
    by_kind : (content : Bool) → (content ≡ false → NoneIn ranges (body_of attribute.form))
        → LooksAt (Avoids at ranges) image (if◌then◌else◌ {A = Ask RecordFault (List ℕ)} content (Done []) (look_in (body_of attribute.form)))
    by_kind true none = looks_done (Avoids at ranges) image []
    by_kind false none = looks_in ranges at image (body_of attribute.form) (inr behind) (none refl)

opened_looks : (ranges : List Range) (used at header : ℕ) (image : List ℕ) (attribute : Attribute) → IsLaidOut used at header attribute
    → NoneIn ranges attribute.name → (is_content attribute ≡ false → NoneIn ranges (body_of attribute.form)) → LooksAt (Avoids at ranges) image (opened attribute)
opened_looks ranges used at header image attribute laid name body =
    let from : (attribute.name.len ≡ 0) ⊎ (at ≤ attribute.name.at) = ⊎_elim (λ empty. inl empty) (λ between. inr (omega (arith, between.0))) laid.name_between in
    looks_bind (Avoids at ranges) image (look_in attribute.name) _ (looks_in ranges at image attribute.name from name)
    (λ bytes is. looks_bind (Avoids at ranges) image (body_asked attribute) _
    (body_looks ranges at image attribute (omega (arith, laid.behind_header)) body)
    (λ more are. looks_done (Avoids at ranges) image _))

least_header : (resident : Bool) → 16 ≤ header_size resident
least_header true = lit≤ tt
least_header false = lit≤ tt

attribute_looks : (ranges : List Range) (image : List ℕ) (used at : ℕ) (found : Opened) → result_of image (attribute_at used at) ≡ Ok found
    → ((i : ℕ) → at ≤ i → i < at + header_size (is_resident (part image at 16)) → covers ranges i ≡ false)
    → NoneIn ranges found.attribute.name → (is_content found.attribute ≡ false → NoneIn ranges (body_of found.attribute.form))
    → LooksAt (Avoids at ranges) image (attribute_at used at)
attribute_looks ranges image used at found gives front name body =
    let start = part image at 16 in
    let header = part image at (header_size (is_resident start)) in
    let room = check_gives image (nat_le (at + 16) used) (BadField at) _ found gives in
    let length = check_gives image (is_length (used - at) start) (BadField at) _ found room.1 in
    let layout = check_gives image (is_layout (is_resident start) start header) (BadField at) _ found length.1 in
    let laid = attribute_lies image used at found gives in
    let same = opened_is image (attribute_of at start header) found layout.1 in
    let Q : Attribute → Type 0 = λ attribute. LooksAt (Avoids at ranges) image (opened attribute) in
    let short : (i : ℕ) → i < at + 16 → i < at + header_size (is_resident start) = λ i below. omega (arith, below, least_header (is_resident start)) in
    looks_check (Avoids at ranges) image (nat_le (at + 16) used) (BadField at) _
    (λ _. looks_look (Avoids at ranges) image at 16 _ (λ i low high. (low, front i low (short i high)))
    (looks_check (Avoids at ranges) image (is_length (used - at) start) (BadField at) _
    (λ _. looks_look (Avoids at ranges) image at (header_size (is_resident start)) _ (λ i low high. (low, front i low high))
    (looks_check (Avoids at ranges) image (is_layout (is_resident start) start header) (BadField at) _
    (λ _. subst Q same (opened_looks ranges used at (header_size (is_resident start)) image found.attribute laid name body))))))

-- ---- the content of one attribute

-- a byte outside its content or run list is no content
outside_content : (attribute : Attribute) (i : ℕ) → (i < (body_of attribute.form).at) ⊎ ((body_of attribute.form).at + (body_of attribute.form).len ≤ i) → covers (content_of attribute) i ≡ false
outside_content attribute i out = by_kind (is_content attribute)
  where
    outside : (range : Range) → (i < range.at) ⊎ (range.at + range.len ≤ i) → (in_range range i || false) ≡ false
    outside range out = grind (arith, nat_tests)

    by_kind : (content : Bool) → covers (if content then body_of attribute.form ∷ [] else []) i ≡ false
    by_kind true = outside (body_of attribute.form) out
    by_kind false = refl

no_content : (attribute : Attribute) (i : ℕ) → is_content attribute ≡ false → covers (content_of attribute) i ≡ false
no_content attribute i is = rw is refl

in_neither : (a b : List Range) (i : ℕ) → covers a i ≡ false → covers b i ≡ false → covers (a ++ b) i ≡ false
in_neither a b i first second = covers_append a b i ∙ or_from (covers a i) (covers b i) first second

-- ---- the attributes

-- ranges lie between two bytes
abbrev pub LieBetween : ℕ → ℕ → List Range → Type 0
LieBetween from to ranges = (i : ℕ) → covers ranges i ≡ true → (from ≤ i) × (i < to)

before_none : (from to : ℕ) (ranges : List Range) (i : ℕ) → LieBetween from to ranges → i < from → covers ranges i ≡ false
before_none from to ranges i between before = either (covers ranges i) (λ covered. (between i covered).0)
  where
    either : (covered : Bool) → (covered ≡ true → from ≤ i) → covered ≡ false
    either true from = absurd (omega (arith, from refl, before))
    either false from = refl

inside_content : (attribute : Attribute) (i : ℕ) → covers (content_of attribute) i ≡ true → ((body_of attribute.form).at ≤ i) × (i < (body_of attribute.form).at + (body_of attribute.form).len)
inside_content attribute i covered = by_kind (is_content attribute) covered
  where
    bounds : (range : Range) → (in_range range i || false) ≡ true → (range.at ≤ i) × (i < range.at + range.len)
    bounds range inside = (grind (arith, nat_tests), grind (arith, nat_tests))

    by_kind : (content : Bool) → covers (if content then body_of attribute.form ∷ [] else []) i ≡ true → ((body_of attribute.form).at ≤ i) × (i < (body_of attribute.form).at + (body_of attribute.form).len)
    by_kind true covered = bounds (body_of attribute.form) covered
    by_kind false covered = absurd cc

-- what is known of the attributes from a place on
pub record Walk (image : List ℕ) (used at : ℕ) (ask : Ask RecordFault (List Opened)) (found : List Opened) : Type 0 where
  pub between : LieBetween at used (contents found)
  pub looks : LooksAt (Avoids at (contents found)) image ask

module _ (image : List ℕ) (used at header : ℕ) (first : Opened) (more : List Opened) (laid : IsLaidOut used at header first.attribute)
    (rest : LieBetween (first.attribute.at + first.attribute.len) used (contents more)) where
  joined_between : LieBetween at used (contents (first ∷ more))
  joined_between i covered =
      ⊎_elim
      (λ own. let lies = inside_content first.attribute i own in (omega (arith, lies.0, laid.behind_header), omega (arith, lies.1, laid.body_inside, laid.inside)))
      (λ later. let lies = rest i later in (omega (arith, lies.0, laid.begins), lies.1))
      (or_cases (covers (content_of first.attribute) i) (covers (contents more) i) (sym (covers_append (content_of first.attribute) (contents more) i) ∙ covered))

  in_front : (i : ℕ) → (i < (body_of first.attribute.form).at) ⊎ ((body_of first.attribute.form).at + (body_of first.attribute.form).len ≤ i) → i < at + first.attribute.len
      → covers (contents (first ∷ more)) i ≡ false
  in_front i out before =
      in_neither (content_of first.attribute) (contents more) i (outside_content first.attribute i out)
      (before_none (first.attribute.at + first.attribute.len) used (contents more) i rest (omega (arith, before, laid.begins)))

  header_clear : (i : ℕ) → at ≤ i → i < at + header → covers (contents (first ∷ more)) i ≡ false
  header_clear i low high = in_front i (inl (omega (arith, high, laid.behind_header))) (omega (arith, high, laid.header_inside))

  name_clear : NoneIn (contents (first ∷ more)) first.attribute.name
  name_clear i low high =
      ⊎_elim
      (λ empty. absurd (omega (arith, empty, low, high)))
      (λ between. in_front i (inl (omega (arith, high, between.1))) (omega (arith, high, between.1, laid.body_inside)))
      laid.name_between

  body_clear : is_content first.attribute ≡ false → NoneIn (contents (first ∷ more)) (body_of first.attribute.form)
  body_clear none i low high =
      in_neither (content_of first.attribute) (contents more) i (no_content first.attribute i none)
      (before_none (first.attribute.at + first.attribute.len) used (contents more) i rest (omega (arith, high, laid.body_inside, laid.begins)))

  behind_clear : (range : Range) → Avoids (first.attribute.at + first.attribute.len) (contents more) range → Avoids at (contents (first ∷ more)) range
  behind_clear range avoids i low high =
      let behind = avoids i low high in (
        omega (arith, behind.0, laid.begins),
        in_neither (content_of first.attribute) (contents more) i (outside_content first.attribute i (inr (omega (arith, behind.0, laid.begins, laid.body_inside)))) behind.1,
      )

-- the attribute at a place, or the mark that ends them
pub next_some : (image : List ℕ) (used at : ℕ) (found : Opened) → result_of image (next_attribute used at) ≡ Ok (Some found) → result_of image (attribute_at used at) ≡ Ok found
next_some image used at found gives = by_mark (is_end_mark (part image at 4)) (check_gives image (nat_le (at + 4) used) (BadField at) _ (Some found) gives).1
  where
    by_mark : (ended : Bool) → result_of image (unless_ended used at ended) ≡ Ok (Some found) → result_of image (attribute_at used at) ≡ Ok found
    by_mark true gives = absurd cc
    by_mark false gives =
        let one = bind_gives image (attribute_at used at) (λ found. Done (Some found)) (Some found) gives in
        let same : one.0 ≡ found = cc (one.2) in
        one.1 ∙ ap Ok same

next_looks : (ranges : List Range) (image : List ℕ) (used at : ℕ) (first : Option Opened) → result_of image (next_attribute used at) ≡ Ok first
    → ((i : ℕ) → at ≤ i → i < at + 4 → covers ranges i ≡ false)
    → ((found : Opened) → first ≡ Some found → LooksAt (Avoids at ranges) image (attribute_at used at))
    → LooksAt (Avoids at ranges) image (next_attribute used at)
next_looks ranges image used at first gives front one =
    let room = check_gives image (nat_le (at + 4) used) (BadField at) _ first gives in
    looks_check (Avoids at ranges) image (nat_le (at + 4) used) (BadField at) _
    (λ _. looks_look (Avoids at ranges) image at 4 _ (λ i low high. (low, front i low high)) (by_mark (is_end_mark (part image at 4)) room.1))
  where
    by_mark : (ended : Bool) → result_of image (unless_ended used at ended) ≡ Ok first → LooksAt (Avoids at ranges) image (unless_ended used at ended)
    by_mark true gives = looks_done (Avoids at ranges) image None
    by_mark false gives =
        let found = bind_gives image (attribute_at used at) (λ found. Done (Some found)) first gives in
        let same : first ≡ Some found.0 = cc (found.2) in
        looks_bind (Avoids at ranges) image (attribute_at used at) _ (one found.0 same) (λ x is. looks_done (Avoids at ranges) image _)

walk_ends : (image : List ℕ) (used at : ℕ) (behind : ℕ → Ask RecordFault (List Opened)) → result_of image (next_attribute used at) ≡ Ok None → Walk image used at (next_attribute used at >>= and_behind behind) []
walk_ends image used at behind none = record {
  between = λ i covered. absurd cc;
  looks =
      looks_bind_ok (Avoids at []) image (next_attribute used at) (and_behind behind) None none
      (next_looks [] image used at None none (λ i low high. refl) (λ found is. absurd cc)) (looks_done (Avoids at []) image []);
}

walk_on : (image : List ℕ) (used at : ℕ) (behind : ℕ → Ask RecordFault (List Opened)) (first : Opened) (more : List Opened) → result_of image (next_attribute used at) ≡ Ok (Some first)
    → result_of image (behind (first.attribute.at + first.attribute.len)) ≡ Ok more
    → Walk image used (first.attribute.at + first.attribute.len) (behind (first.attribute.at + first.attribute.len)) more
    → Walk image used at (next_attribute used at >>= and_behind behind) (first ∷ more)
walk_on image used at behind first more next rest walk =
    let found = next_some image used at first next in
    let header = header_size (is_resident (part image at 16)) in
    let laid = attribute_lies image used at first found in
    let front = header_clear image used at header first more laid walk.between in
    record {
      between = joined_between image used at header first more laid walk.between;
      looks =
          looks_bind_ok (Avoids at (contents (first ∷ more))) image (next_attribute used at) (and_behind behind) (Some first) next
          (next_looks (contents (first ∷ more)) image used at (Some first) next (λ i low high. front i low (omega (arith, high, least_header (is_resident (part image at 16)))))
          (λ one is. attribute_looks (contents (first ∷ more)) image used at first found front (name_clear image used at header first more laid walk.between)
          (body_clear image used at header first more laid walk.between)))
          (looks_bind_ok (Avoids at (contents (first ∷ more))) image (behind (first.attribute.at + first.attribute.len)) (λ more. Done (first ∷ more)) more rest
          (looks_weaker (Avoids (first.attribute.at + first.attribute.len) (contents more)) (Avoids at (contents (first ∷ more))) image (behind (first.attribute.at + first.attribute.len))
          (behind_clear image used at header first more laid walk.between) walk.looks)
          (looks_done (Avoids at (contents (first ∷ more))) image _));
    }

walk_with : (image : List ℕ) (used at : ℕ) (behind : ℕ → Ask RecordFault (List Opened)) (found : List Opened)
    → ((place : ℕ) (more : List Opened) → result_of image (behind place) ≡ Ok more → Walk image used place (behind place) more)
    → (first : Option Opened) → result_of image (next_attribute used at) ≡ Ok first → result_of image (and_behind behind first) ≡ Ok found
    → Walk image used at (next_attribute used at >>= and_behind behind) found
walk_with image used at behind found later None next gives =
    let P : List Opened → Type 0 = Walk image used at (next_attribute used at >>= and_behind behind) in
    let none : [] ≡ found = cc in
    subst P none (walk_ends image used at behind next)
walk_with image used at behind found later (Some first) next gives =
    let P : List Opened → Type 0 = Walk image used at (next_attribute used at >>= and_behind behind) in
    let place = first.attribute.at + first.attribute.len in
    let rest = bind_gives image (behind place) (λ more. Done (first ∷ more)) found gives in
    let same : first ∷ rest.0 ≡ found = cc (rest.2) in
    subst P same (walk_on image used at behind first rest.0 next rest.1 (later place rest.0 rest.1))

-- the attributes lie in the used bytes from their place on, and nothing of the content of a resident $DATA is looked at
pub attributes_look : (count used at : ℕ) (image : List ℕ) (found : List Opened) → result_of image (attributes_within count used at) ≡ Ok found
    → Walk image used at (attributes_within count used at) found
unfolding attributes_within
attributes_look zero used at image found gives = absurd cc
attributes_look (suc count) used at image found gives =
    let first = bind_gives image (next_attribute used at) (and_behind (attributes_within count used)) found gives in
    walk_with image used at (attributes_within count used) found (λ place more is. attributes_look count used place image more is) first.0 first.1 first.2
