-- The attributes of a file stand in records that slots hold, and their content is content of those records.
use Rattle.std.specs.Prelude.{◌≡◌, ℕ, zero, suc, ◌<◌, ◌&&◌, ◌||◌, ◌==◌, Bool, true, false, cond, nat_lt, if◌then◌else◌, Option, Some, None, Result, Ok, Err, List, [], ◌∷◌, map, find, refl}
use Rattle.std.proofs.Common.{arith, ap, sym, ◌∙◌, subst, ⊎_elim}
use Rattle.std.proofs.lemmas.Bool.{and_parts, or_cases, or_left, or_right, eqb-true}
use Rattle.std.proofs.lemmas.List.Elements.{All-nil, All-cons, All-head, All-tail}
use Rattle.std.proofs.lemmas.List.Folds.{list_any-append}
use Rattle.std.specs.List.{All, list_any}
use Rattle.std.specs.Option.{ok_or}
use Rattle.range_defs.specs.declared.Range.{Range}
use Rattle.range_defs.specs.Places.{in_range, covers}
use Rattle.image_defs.specs.Ask.{Done, result_of, given, each}
use Rattle.image_defs.proofs.Results.{result_given}
use Rattle.image_defs.proofs.Looks.{bind_gives, check_gives, given_gives, each_gives}
use Rattle.ntfs_record_defs.specs.Stored.{stored_place}
use Rattle.ntfs_record_defs.specs.Attributes.{Opened, content_of, contents}
use Rattle.range_defs.proofs.RangeLaws.{covers_append}
use Rattle.ntfs_record_defs.specs.Record.{FileRecord, IsContentPlace}
use Rattle.fault_defs.specs.declared.Sort.TheVariants.{AttributeMissing}
use Rattle.fault_defs.specs.declared.Refusal.{Refusal}
use Rattle.fault_defs.specs.declared.Refusal.TheVariants.{Damaged}
use Rattle.ntfs_volume_defs.specs.Slots.{Mft, Slot, Empty, Unused, Used, slots, slot_of}
use Rattle.ntfs_volume_defs.specs.Segments.{Held}
use Rattle.ntfs_volume_defs.specs.Lists.{Entry, held_in, attributes_in, reference_of, is_named, named_in, extension_of, extension_attributes, record_named, named_record, named_attribute, list_content, entries_of, list_of}
use Rattle.ntfs_volume_defs.specs.Files.{Assembled, FoundFile, with_entries, with_list, assembled_by, assembled, content_in, contents_in, with_assembled, file_by, file_in, file_of}
use Rattle.ntfs_volume_defs.specs.Names.{file_names}
use Rattle.ntfs_volume_defs.specs.Parts.{parts_of}
use Rattle.ntfs_volume_defs.specs.Guard.{some_below, is_content_byte, is_content_place}
use Rattle.ntfs_volume_defs.specs.Volume.{all_found}

-- an attribute stands in a record that its slot holds, and its content is content of that record
pub record IsHeldIn (image : List ℕ) (mft : Mft) (held : Held) : Type 0 where
  pub found : FileRecord
  pub slot_is : result_of image (slot_of mft held.slot) ≡ Ok (Used found)
  pub array_is : held.array ≡ found.header.array
  pub content : (i : ℕ) → covers (content_of held.opened.attribute) i ≡ true → covers (contents found.attributes) i ≡ true

held_in_held : (image : List ℕ) (mft : Mft) (number : ℕ) (found : FileRecord) → result_of image (slot_of mft number) ≡ Ok (Used found) → (opened : List Opened)
    → ((i : ℕ) → covers (contents opened) i ≡ true → covers (contents found.attributes) i ≡ true) → All (IsHeldIn image mft) (held_in number found.header.array opened)
held_in_held image mft number found slot_is [] whole = All-nil (IsHeldIn image mft)
held_in_held image mft number found slot_is (first ∷ more) whole =
    let split : (i : ℕ) → covers (contents (first ∷ more)) i ≡ (covers (content_of first.attribute) i || covers (contents more) i) = λ i. covers_append (content_of first.attribute) (contents more) i in
    All-cons (IsHeldIn image mft) (record { slot = number; array = found.header.array; opened = first }) (held_in number found.header.array more)
    (record {
      found = found;
      slot_is = slot_is;
      array_is = refl;
      content = λ i inside. whole i (split i ∙ or_left (covers (content_of first.attribute) i) (covers (contents more) i) inside);
    })
    (held_in_held image mft number found slot_is more (λ i inside. whole i (split i ∙ or_right (covers (content_of first.attribute) i) (covers (contents more) i) inside)))

pub attributes_held : (image : List ℕ) (mft : Mft) (number : ℕ) (found : FileRecord) → result_of image (slot_of mft number) ≡ Ok (Used found) → All (IsHeldIn image mft) (attributes_in number found)
attributes_held image mft number found slot_is = held_in_held image mft number found slot_is found.attributes (λ i inside. inside)

-- ---- the attribute that an entry names

find_holds : {X : Type 0} (P : X → Type 0) (test : X → Bool) (xs : List X) (x : X) → find test xs ≡ Some x → All P xs → P x
find_holds P test [] x found all = absurd cc
find_holds P test (y ∷ ys) x found all = first_or_later (test y) found (λ later. find_holds P test ys x later (All-tail P y ys all))
  where
    first_or_later : (passes : Bool) → cond passes (Some y) (find test ys) ≡ Some x → (find test ys ≡ Some x → P x) → P x
    first_or_later true found later = let same : y ≡ x = cc in subst P same (All-head P y ys all)
    first_or_later false found later = later found

ok_or_gives : {X E : Type 0} (option : Option X) (e : E) (x : X) → ok_or option e ≡ Ok x → option ≡ Some x
ok_or_gives None e x gives = absurd cc
ok_or_gives (Some y) e x gives = let same : y ≡ x = cc in ap Some same

extension_is : (reference place : ℕ) (slot : Slot) (found : FileRecord) → extension_of reference place slot ≡ Ok found → slot ≡ Used found
extension_is reference place Empty found gives = absurd cc
extension_is reference place Unused found gives = absurd cc
extension_is reference place (Used other) found gives = by_test (other.header.base == reference && nat_lt 0 reference) gives
  where
    by_test : (test : Bool) → if◌then◌else◌ {A = Result FileRecord Refusal} test (Ok other) (Err (Damaged AttributeMissing place)) ≡ Ok found → Used other ≡ Used found
    by_test true gives = let same : other ≡ found = cc in ap Used same
    by_test false gives = absurd cc

record_named_held : (image : List ℕ) (mft : Mft) (number : ℕ) (base : FileRecord) (entry : Entry) (own : Bool) (attributes : List Held) → result_of image (slot_of mft number) ≡ Ok (Used base)
    → result_of image (record_named mft number base entry own) ≡ Ok attributes → All (IsHeldIn image mft) attributes
record_named_held image mft number base entry true attributes slot_is gives =
    let P : List Held → Type 0 = λ attributes. All (IsHeldIn image mft) attributes in
    let same : attributes_in number base ≡ attributes = cc in
    subst P same (attributes_held image mft number base slot_is)
record_named_held image mft number base entry false attributes slot_is gives =
    let below = check_gives image (nat_lt entry.number (slots mft)) (Damaged AttributeMissing entry.place) _ attributes gives in
    let slot = bind_gives image (slot_of mft entry.number) (extension_attributes number base entry) attributes below.1 in
    let found = given_gives image (extension_of (reference_of number base.header) entry.place slot.0) (λ found. Done (attributes_in entry.number found)) attributes slot.2 in
    let P : List Held → Type 0 = λ attributes. All (IsHeldIn image mft) attributes in
    let same : attributes_in entry.number found.0 ≡ attributes = cc (found.2) in
    subst P same (attributes_held image mft entry.number found.0 (slot.1 ∙ ap Ok (extension_is (reference_of number base.header) entry.place slot.0 found.0 found.1)))

pub named_attribute_held : (image : List ℕ) (mft : Mft) (number : ℕ) (base : FileRecord) (entry : Entry) (held : Held) → result_of image (slot_of mft number) ≡ Ok (Used base)
    → result_of image (named_attribute mft number base entry) ≡ Ok held → IsHeldIn image mft held
unfolding named_attribute
named_attribute_held image mft number base entry held slot_is gives =
    let record_found = bind_gives image (named_record mft number base entry) (λ attributes. given (named_in entry attributes)) held gives in
    let found = sym (result_given image (named_in entry record_found.0)) ∙ record_found.2 in
    find_holds (IsHeldIn image mft) (is_named entry) record_found.0 held (ok_or_gives (find (is_named entry) record_found.0) (Damaged AttributeMissing entry.place) held found)
    (record_named_held image mft number base entry (entry.number == number) record_found.0 slot_is record_found.1)

pub assembled_held : (image : List ℕ) (mft : Mft) (number : ℕ) (base : FileRecord) (list : Option Held) (found : Assembled) → result_of image (slot_of mft number) ≡ Ok (Used base)
    → result_of image (assembled_by mft number base list) ≡ Ok found → All (IsHeldIn image mft) found.attributes
assembled_held image mft number base None found slot_is gives =
    let P : Assembled → Type 0 = λ found. All (IsHeldIn image mft) found.attributes in
    let same : record { attributes = attributes_in number base; lists = [] } ≡ found = cc in
    subst P same (attributes_held image mft number base slot_is)
assembled_held image mft number base (Some list) found slot_is gives =
    let content = bind_gives image (list_content mft list) (with_list mft number base list) found gives in
    let entries = given_gives image (entries_of mft list content.0) (with_entries mft number base content.0) found content.2 in
    let attributes = bind_gives image (each (named_attribute mft number base) entries.0) (λ attributes. Done (record { attributes = attributes; lists = (content.0).guarded })) found entries.2 in
    let P : Assembled → Type 0 = λ found. All (IsHeldIn image mft) found.attributes in
    let same : record { attributes = attributes.0; lists = (content.0).guarded } ≡ found = cc (attributes.2) in
    subst P same
    (each_gives (IsHeldIn image mft) image (named_attribute mft number base) entries.0 attributes.0 (λ entry held is. named_attribute_held image mft number base entry held slot_is is) attributes.1)

-- ---- the content of a file

-- a stored byte of a slot is a place of content that the slot's record holds
pub record HoldsContent (image : List ℕ) (mft : Mft) (slot byte : ℕ) : Type 0 where
  pub found : FileRecord
  pub slot_is : result_of image (slot_of mft slot) ≡ Ok (Used found)
  pub place : IsContentPlace found byte

some_below_gives : (test : ℕ → Bool) (n : ℕ) → some_below test n ≡ true → (i : ℕ) × (i < n) × (test i ≡ true)
some_below_gives test zero some = absurd cc
some_below_gives test (suc n) some =
    ⊎_elim (λ last. (n, omega arith, last)) (λ below. let found = some_below_gives test n below in (found.0, omega (arith, found.1), found.2)) (or_cases (test n) (some_below test n) some)

ranges_held : (image : List ℕ) (mft : Mft) (size slot byte : ℕ) (held : Held) → (is : IsHeldIn image mft held) → (ranges : List Range)
    → ((i : ℕ) → covers ranges i ≡ true → covers (contents is.found.attributes) i ≡ true)
    → list_any (is_content_byte size slot byte) (map (λ range. record { slot = held.slot; array = held.array; range = range }) ranges) ≡ true → HoldsContent image mft slot byte
ranges_held image mft size slot byte held is [] whole some = absurd cc
ranges_held image mft size slot byte held is (range ∷ ranges) whole some =
    ⊎_elim
    (λ first.
    let both = and_parts (held.slot == slot) (some_below (λ i. in_range range i && stored_place held.array i == byte) size) first in
    let at = some_below_gives (λ i. in_range range i && stored_place held.array i == byte) size both.1 in
    let here = and_parts (in_range range at.0) (stored_place held.array at.0 == byte) at.2 in
    let same : held.slot ≡ slot = eqb-true held.slot slot both.0 in
    record {
      found = is.found;
      slot_is = ap (λ slot. result_of image (slot_of mft slot)) (sym same) ∙ is.slot_is;
      place = (at.0, whole at.0 (or_left (in_range range at.0) (covers ranges at.0) here.0), sym (ap (λ array. stored_place array at.0) is.array_is) ∙ eqb-true (stored_place held.array at.0) byte here.1);
    })
    (λ later. ranges_held image mft size slot byte held is ranges (λ i inside. whole i (or_right (in_range range i) (covers ranges i) inside)) later)
    (or_cases (is_content_byte size slot byte (record { slot = held.slot; array = held.array; range = range }))
    (list_any (is_content_byte size slot byte) (map (λ range. record { slot = held.slot; array = held.array; range = range }) ranges)) some)

contents_held : (image : List ℕ) (mft : Mft) (size slot byte : ℕ) (attributes : List Held) → All (IsHeldIn image mft) attributes
    → list_any (is_content_byte size slot byte) (contents_in attributes) ≡ true → HoldsContent image mft slot byte
contents_held image mft size slot byte [] all some = absurd cc
contents_held image mft size slot byte (held ∷ more) all some =
    let first : IsHeldIn image mft held = All-head (IsHeldIn image mft) held more all in
    ⊎_elim
    (λ own. ranges_held image mft size slot byte held first (content_of held.opened.attribute) first.content own)
    (λ later. contents_held image mft size slot byte more (All-tail (IsHeldIn image mft) held more all) later)
    (or_cases (list_any (is_content_byte size slot byte) (content_in held)) (list_any (is_content_byte size slot byte) (contents_in more))
    (sym (list_any-append (is_content_byte size slot byte) (content_in held) (contents_in more)) ∙ some))

-- ---- the files

-- what a file has besides, where there is one
pub record IsAssembled (image : List ℕ) (mft : Mft) (number : ℕ) (file : FoundFile) : Type 0 where
  pub base : FileRecord
  pub slot_is : result_of image (slot_of mft number) ≡ Ok (Used base)
  pub found : Assembled
  pub found_is : result_of image (assembled mft number base) ≡ Ok found
  pub contents_are : file.contents ≡ contents_in found.attributes
  pub lists_are : file.lists ≡ found.lists

assembled_by_base : (image : List ℕ) (mft : Mft) (number : ℕ) (base : FileRecord) (is_base : Bool) (file : FoundFile) → result_of image (slot_of mft number) ≡ Ok (Used base)
    → result_of image (file_by mft number base is_base) ≡ Ok (Some file) → IsAssembled image mft number file
assembled_by_base image mft number base false file slot_is gives = absurd cc
assembled_by_base image mft number base true file slot_is gives =
    let found = bind_gives image (assembled mft number base) (with_assembled mft number base) (Some file) gives in
    let names = given_gives image (file_names mft found.0.attributes) _ (Some file) found.2 in
    let parts = given_gives image (parts_of mft found.0.attributes) _ (Some file) names.2 in
    record {
      base = base;
      slot_is = slot_is;
      found = found.0;
      found_is = found.1;
      contents_are = cc (parts.2);
      lists_are = cc (parts.2);
    }

pub file_assembled : (image : List ℕ) (mft : Mft) (number : ℕ) (file : FoundFile) → result_of image (file_of mft number) ≡ Ok (Some file) → IsAssembled image mft number file
unfolding file_of
file_assembled image mft number file gives =
    let slot = bind_gives image (slot_of mft number) (file_in mft number) (Some file) gives in
    by_slot slot.0 slot.1 slot.2
  where
    by_slot : (slot : Slot) → result_of image (slot_of mft number) ≡ Ok slot → result_of image (file_in mft number slot) ≡ Ok (Some file) → IsAssembled image mft number file
    by_slot Empty is gives = absurd cc
    by_slot Unused is gives = absurd cc
    by_slot (Used base) is gives = assembled_by_base image mft number base (base.header.base == 0) file is gives

pub file_held : (image : List ℕ) (mft : Mft) (number size slot byte : ℕ) (file : FoundFile) → result_of image (file_of mft number) ≡ Ok (Some file)
    → list_any (is_content_byte size slot byte) file.contents ≡ true → HoldsContent image mft slot byte
file_held image mft number size slot byte file gives some =
    let is = file_assembled image mft number file gives in
    contents_held image mft size slot byte is.found.attributes (assembled_held image mft number is.base (list_of (attributes_in number is.base)) is.found is.slot_is is.found_is)
    (sym (ap (list_any (is_content_byte size slot byte)) is.contents_are) ∙ some)

pub files_held : (image : List ℕ) (mft : Mft) (size slot byte : ℕ) (numbers : List ℕ) (options : List (Option FoundFile)) → result_of image (each (file_of mft) numbers) ≡ Ok options
    → is_content_place size (all_found options) slot byte ≡ true → HoldsContent image mft slot byte
files_held image mft size slot byte [] options gives some = let none : options ≡ [] = cc in absurd (cc (ap (λ options. is_content_place size (all_found options) slot byte) none))
files_held image mft size slot byte (number ∷ numbers) options gives some =
    let first = bind_gives image (file_of mft number) _ options gives in
    let rest = bind_gives image (each (file_of mft) numbers) _ options first.2 in
    let same : options ≡ first.0 ∷ rest.0 = cc (rest.2) in
    own_or_later first.0 rest.0 first.1 (sym (ap (λ options. is_content_place size (all_found options) slot byte) same) ∙ some) (λ later. files_held image mft size slot byte numbers rest.0 rest.1 later)
  where
    own_or_later : (first : Option FoundFile) (rest : List (Option FoundFile)) → result_of image (file_of mft number) ≡ Ok first → is_content_place size (all_found (first ∷ rest)) slot byte ≡ true
        → (is_content_place size (all_found rest) slot byte ≡ true → HoldsContent image mft slot byte) → HoldsContent image mft slot byte
    own_or_later None rest is some later = later some
    own_or_later (Some file) rest is some later =
        ⊎_elim (λ own. file_held image mft number size slot byte file is own) later
        (or_cases (list_any (is_content_byte size slot byte) file.contents) (is_content_place size (all_found rest) slot byte) some)
