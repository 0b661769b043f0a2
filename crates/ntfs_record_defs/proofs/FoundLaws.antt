-- Laws behind LentLaws: but for the content of a resident $DATA, what a record lends is what its program finds.
use Rattle.std.specs.Prelude.{◌≡◌, ◌==◌, ◌&&◌, ℕ, zero, suc, ◌+◌, ◌-◌, ◌%◌, Bool, true, false, nat_le, if◌then◌else◌, Option, Some, None, Ok, List, [], ◌∷◌, length, map, refl}
use Rattle.std.proofs.Common.{arith, ap, sym, ◌∙◌, subst, ⊎_elim}
use Rattle.bytes_defs.specs.Bytes.{part}
use Rattle.image_defs.specs.Ask.{Ask, Done, result_of, ◌>>=◌}
use Rattle.image_defs.proofs.Looks.{bind_gives, check_gives}
use Rattle.ntfs_record_defs.specs.declared.fault.RecordFault.{RecordFault}
use Rattle.ntfs_record_defs.specs.declared.fault.RecordFault.TheVariants.{BadField}
use Rattle.ntfs_record_defs.specs.Attributes.{Form, Resident, NonResident, Attribute, Opened, is_content, is_resident_form, body_of, is_resident, is_length, is_layout, header_size, attribute_of, look_in, opened, attribute_at, next_attribute, and_behind, attributes_within}
use Rattle.ntfs_record_defs.proofs.AttributeLaws.{next_some}
use Rattle.ntfs_record_defs.specs.Record.{record_of}
use Rattle.ntfs_record_defs.proofs.RecordLaws.{other_content}
use Rattle.ntfs_record_defs.specs.Lent.{LentForm, Lent, bytes_in, lent_form, IsRecordSize, mended}
use Rattle.ntfs_record_defs.specs.LentLaws.{MendedLendsFound, LendTheSame, lent_of, form_but_for_content, but_for_content, form_found, lent_as_found}
use Rattle.ntfs_record_defs.proofs.LentLaws.{mended_lends, true_attributes}

-- the bytes of a body that a program finds
abbrev body_found : List ℕ → Bool → Form → List ℕ
body_found bytes content form = if content then [] else bytes_in bytes (body_of form)

abbrev opened_with : List ℕ → Bool → Attribute → Opened
opened_with bytes content attribute = record { attribute = attribute; name = bytes_in bytes attribute.name; body = body_found bytes content attribute.form }

form_is : (bytes : List ℕ) (is_data : Bool) (form : Form) → form_but_for_content is_data (lent_form bytes form) ≡ form_found form (body_found bytes (is_data && is_resident_form form) form)
form_is bytes true (Resident content) = refl
form_is bytes false (Resident content) = refl
form_is bytes true (NonResident stream) = refl
form_is bytes false (NonResident stream) = refl

opened_found : (bytes : List ℕ) (attribute : Attribute)
    → result_of bytes (opened attribute) ≡ Ok (opened_with bytes (is_content attribute) attribute)
opened_found bytes attribute = by_kind (is_content attribute)
  where
    by_kind : (content : Bool)
        → result_of bytes (if◌then◌else◌ {A = Ask RecordFault (List ℕ)} content (Done []) (look_in (body_of attribute.form)) >>= (λ body. Done (record { attribute = attribute; name = bytes_in bytes attribute.name; body = body })))
        ≡ Ok (opened_with bytes content attribute)
    by_kind true = refl
    by_kind false = refl

opened_as_found : (bytes : List ℕ) (attribute : Attribute) (found : Opened) → result_of bytes (opened attribute) ≡ Ok found → but_for_content (lent_of bytes found) ≡ lent_as_found found
opened_as_found bytes attribute found gives =
    let same : opened_with bytes (is_content attribute) attribute ≡ found = cc (opened_found bytes attribute, gives) in
    let P : Opened → Type 0 = λ found. but_for_content (lent_of bytes found) ≡ lent_as_found found in
    let as_form : LentForm → Lent = λ form. record { kind = attribute.kind; at = attribute.at; name = bytes_in bytes attribute.name; flags = attribute.flags; id = attribute.id; form = form } in
    subst P same (ap as_form (form_is bytes (attribute.kind == 0x80) attribute.form))

attribute_as_found : (bytes : List ℕ) (used at : ℕ) (found : Opened) → result_of bytes (attribute_at used at) ≡ Ok found → but_for_content (lent_of bytes found) ≡ lent_as_found found
attribute_as_found bytes used at found gives =
    let start = part bytes at 16 in
    let header = part bytes at (header_size (is_resident start)) in
    let room = check_gives bytes (nat_le (at + 16) used) (BadField at) _ found gives in
    let length = check_gives bytes (is_length (used - at) start) (BadField at) _ found room.1 in
    let layout = check_gives bytes (is_layout (is_resident start) start header) (BadField at) _ found length.1 in
    opened_as_found bytes (attribute_of at start header) found layout.1

abbrev AreAsFound : List ℕ → List Opened → Type 0
AreAsFound bytes found = map but_for_content (map (lent_of bytes) found) ≡ map lent_as_found found

attributes_as_found : (bytes : List ℕ) (count used at : ℕ) (found : List Opened) → result_of bytes (attributes_within count used at) ≡ Ok found
    → AreAsFound bytes found
unfolding attributes_within
attributes_as_found bytes zero used at found gives = absurd cc
attributes_as_found bytes (suc count) used at found gives =
    let first = bind_gives bytes (next_attribute used at) (and_behind (attributes_within count used)) found gives in
    by_first first.0 first.1 first.2 (λ place more is. attributes_as_found bytes count used place more is)
  where
    by_first : (first : Option Opened) → result_of bytes (next_attribute used at) ≡ Ok first → result_of bytes (and_behind (attributes_within count used) first) ≡ Ok found
        → ((place : ℕ) (more : List Opened) → result_of bytes (attributes_within count used place) ≡ Ok more → AreAsFound bytes more) → AreAsFound bytes found
    by_first None next gives later =
        let none : [] ≡ found = cc in
        subst (AreAsFound bytes) none refl
    by_first (Some one) next gives later =
        let rest = bind_gives bytes (attributes_within count used (one.attribute.at + one.attribute.len)) (λ more. Done (one ∷ more)) found gives in
        let same : one ∷ rest.0 ≡ found = cc (rest.2) in
        let here = attribute_as_found bytes used at one (next_some bytes used at one next) in
        let behind = later (one.attribute.at + one.attribute.len) rest.0 rest.1 in
        subst (AreAsFound bytes) same (ap (λ head. head ∷ map but_for_content (map (lent_of bytes) rest.0)) here ∙ ap (λ tail. lent_as_found one ∷ tail) behind)

pub mended_lends_found : MendedLendsFound
mended_lends_found stored found size gives =
    ap (map but_for_content) (mended_lends stored found size gives)
    ∙ attributes_as_found (mended stored) (found.header.used - found.header.first) found.header.used found.header.first found.attributes (true_attributes stored found size gives)

pub lend_the_same : LendTheSame
lend_the_same a b found size gives long same =
    let whole : length a % 512 ≡ 0 = ⊎_elim (λ small. omega (arith, small)) (λ large. omega (arith, large)) size in
    let other = other_content a b (length a) found whole gives long same in
    let Q : ℕ → Type 0 = λ n. result_of b (record_of n) ≡ Ok found in
    mended_lends_found a found size gives ∙ sym (mended_lends_found b found (subst IsRecordSize long size) (subst Q long other))
