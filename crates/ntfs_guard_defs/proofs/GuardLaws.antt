-- The definition of a volume looks only at bytes of its guard.
use Rattle.std.specs.Prelude.{◌≡◌, ℕ, zero, suc, ◌+◌, ◌%◌, ◌<◌, ◌≤◌, ◌⊎◌, not, ◌&&◌, ◌||◌, ◌==◌, Bool, true, false, nat_lt, nat_le, Option, Some, None, Result, Ok, List, [], ◌∷◌, refl}
use Rattle.std.proofs.Common.{arith, ap, sym, ◌∙◌, subst, ⊎_elim}
use Rattle.std.proofs.lemmas.Bool.{or_left, or_right, and_from, eq-eqb, cases_Bool, not_from_false, ltb-true}
use Rattle.std.proofs.lemmas.Bool.Decides.{nat_tests}
use Rattle.range_defs.specs.declared.Range.{Range}
use Rattle.range_defs.specs.Places.{in_range, covers}
use Rattle.image_defs.specs.Ask.{Ask, result_of, given, each, ◌>>=◌}
use Rattle.image_defs.proofs.Results.{result_given}
use Rattle.image_defs.specs.Looks.{LooksAt}
use Rattle.image_defs.proofs.Looks.{looks_done, looks_weaker, looks_bind, looks_bind_ok, looks_check, looks_given, bind_gives, check_gives, given_gives}
use Rattle.image_defs.specs.Via.{look_bytes}
use Rattle.image_defs.specs.ViaLaws.{LiesIn}
use Rattle.image_defs.proofs.ViaLaws.{looks_bytes}
use Rattle.ntfs_record_defs.specs.Attributes.{Form, Resident, NonResident}
use Rattle.ntfs_record_defs.specs.Stored.{count_from}
use Rattle.ntfs_record_defs.specs.Record.{FileRecord}
use Rattle.fault_defs.specs.declared.Sort.TheVariants.{AttributeMissing}
use Rattle.fault_defs.specs.declared.Bound.TheVariants.{AttributeList}
use Rattle.fault_defs.specs.declared.Refusal.{Refusal}
use Rattle.fault_defs.specs.declared.Refusal.TheVariants.{Damaged, Limit}
use Rattle.ntfs_volume_defs.specs.Streams.{Stream, stream_place}
use Rattle.ntfs_volume_defs.specs.Slots.{Mft, Slot, Empty, Unused, Used, slots, slot_place, slot_of}
use Rattle.ntfs_guard_defs.proofs.SlotLaws.{IsFree, IsFreeIn, SamePlaces, slot_looks, slot_same}
use Rattle.ntfs_volume_defs.specs.Segments.{Held, stream_of}
use Rattle.ntfs_volume_defs.specs.Lists.{Entry, ListContent, at_byte, byte_ranges, stream_list, list_by, list_content, entries_of, attributes_in, list_of, reference_of, extension_of, extension_attributes, record_named, named_record, named_in, named_attribute}
use Rattle.ntfs_volume_defs.specs.Names.{file_names}
use Rattle.ntfs_volume_defs.specs.Parts.{parts_of}
use Rattle.ntfs_volume_defs.specs.Files.{Assembled, FoundFile, with_entries, with_list, assembled_by, assembled, file_with, with_assembled, file_by, file_in, file_of}
use Rattle.ntfs_guard_defs.proofs.HeldLaws.{HoldsContent}
use Rattle.ntfs_volume_defs.specs.Guard.{some_below, is_at, is_content_place, is_slot_byte, is_list_byte, boot_sector, is_guarded}
use Rattle.ntfs_volume_defs.specs.Volume.{all_found}

-- the programs for some items, each of which gives a value
looks_each_ok : {E X Y : Type 0} (P : Range → Type 0) (image : List ℕ) (ask : X → Ask E Y) (xs : List X) (ys : List Y) → result_of image (each ask xs) ≡ Ok ys
    → ((x : X) (y : Y) → result_of image (ask x) ≡ Ok y → LooksAt P image (ask x)) → LooksAt P image (each ask xs)
looks_each_ok P image ask [] ys gives looks = looks_done P image []
looks_each_ok P image ask (x ∷ xs) ys gives looks =
    let first = bind_gives image (ask x) _ ys gives in
    let rest = bind_gives image (each ask xs) _ ys first.2 in
    looks_bind_ok P image (ask x) _ first.0 first.1 (looks x first.0 first.1)
    (looks_bind_ok P image (each ask xs) _ rest.0 rest.1 (looks_each_ok P image ask xs rest.0 rest.1 looks) (looks_done P image _))

-- a given value in front of a program
pub looks_given_ok : {E X Y : Type 0} (P : Range → Type 0) (image : List ℕ) (result : Result X E) (next : X → Ask E Y) (y : Y) → result_of image (given result >>= next) ≡ Ok y
    → ((x : X) → result ≡ Ok x → LooksAt P image (next x)) → LooksAt P image (given result >>= next)
looks_given_ok P image result next y gives looks =
    let found = given_gives image result next y gives in
    looks_bind_ok P image (given result) next found.0 (result_given image result ∙ found.1) (looks_given P image result) (looks found.0 found.1)

some_below_at : (test : ℕ → Bool) (n i : ℕ) → i < n → test i ≡ true → some_below test n ≡ true
some_below_at test zero i below is = absurd (omega arith)
some_below_at test (suc n) i below is =
    ⊎_elim
    (λ last. or_left (test n) (some_below test n) (ap test (sym last) ∙ is))
    (λ before. or_right (test n) (some_below test n) (some_below_at test n i before is))
    (last_or_before i n below)
  where
    last_or_before : (i n : ℕ) → i < suc n → (i ≡ n) ⊎ (i < n)
    last_or_before i n below = grind arith

byte_ranges_cover : (place : ℕ → Option ℕ) (n i p : ℕ) → i < n → place i ≡ Some p → covers (byte_ranges place n) p ≡ true
byte_ranges_cover place zero i p below is = absurd (omega arith)
byte_ranges_cover place (suc n) i p below is =
    by_place (place n) refl (λ before. byte_ranges_cover place n i p before is)
  where
    one : (p : ℕ) (rest : Bool) → (in_range (record { at = p; len = 1 }) p || rest) ≡ true
    one p rest = grind (arith, nat_tests)

    last : i < n ⊎ (i ≡ n)
    last = grind arith

    by_place : (at : Option ℕ) → place n ≡ at → (i < n → covers (byte_ranges place n) p ≡ true) → covers (at_byte at (byte_ranges place n)) p ≡ true
    by_place None at later = ⊎_elim later (λ same. absurd (cc (ap place same))) last
    by_place (Some q) at later =
        ⊎_elim
        (λ before. or_right (in_range (record { at = q; len = 1 }) p) (covers (byte_ranges place n) p) (later before))
        (λ same.
        let here : q ≡ p = cc (ap place same) in
        ap (λ q. in_range (record { at = q; len = 1 }) p || covers (byte_ranges place n) p) here ∙ one p (covers (byte_ranges place n) p))
        last

-- the list of a file
pub lists_found : (image : List ℕ) (mft : Mft) (number : ℕ) (option : Option FoundFile) (base : FileRecord) (found : Assembled) (byte : ℕ) → result_of image (with_assembled mft number base found) ≡ Ok option
    → covers found.lists byte ≡ true → is_list_byte (all_found (option ∷ [])) byte ≡ true
lists_found image mft number option base found byte gives inside =
    let names = given_gives image (file_names mft found.attributes) _ option gives in
    let parts = given_gives image (parts_of mft found.attributes) _ option names.2 in
    let same : Some (file_with number base found names.0 parts.0) ≡ option = cc (parts.2) in
    let P : Option FoundFile → Type 0 = λ option. is_list_byte (all_found (option ∷ [])) byte ≡ true in
    subst P same (or_left (covers found.lists byte) false inside)

pub in_first_file : (first : Option FoundFile) (rest : List (Option FoundFile)) (byte : ℕ) → is_list_byte (all_found (first ∷ [])) byte ≡ true → is_list_byte (all_found (first ∷ rest)) byte ≡ true
in_first_file None rest byte inside = absurd cc
in_first_file (Some file) rest byte inside = grind (arith, nat_tests)

module _ (image : List ℕ) (mft : Mft) (files : List FoundFile) (strides : mft.boot.record_size % 512 ≡ 0)
    (held : (slot byte : ℕ) → is_content_place mft.boot.record_size files slot byte ≡ true → HoldsContent image mft slot byte) where
  -- the byte is in the guard
  abbrev pub Guarded : ℕ → Type 0
  Guarded byte = is_guarded mft files byte ≡ true

  pub boot_guarded : (byte : ℕ) → in_range (boot_sector mft) byte ≡ true → Guarded byte
  unfolding is_guarded
  boot_guarded byte inside = or_left (in_range (boot_sector mft) byte) (is_list_byte files byte || some_below (is_slot_byte mft files byte) (slots mft)) inside

  pub list_guarded : (byte : ℕ) → is_list_byte files byte ≡ true → Guarded byte
  unfolding is_guarded
  list_guarded byte inside =
      or_right (in_range (boot_sector mft) byte) (is_list_byte files byte || some_below (is_slot_byte mft files byte) (slots mft))
      (or_left (is_list_byte files byte) (some_below (is_slot_byte mft files byte) (slots mft)) inside)

  slot_guarded : (byte number : ℕ) → number < slots mft → is_slot_byte mft files byte number ≡ true → Guarded byte
  unfolding is_guarded
  slot_guarded byte number below inside =
      or_right (in_range (boot_sector mft) byte) (is_list_byte files byte || some_below (is_slot_byte mft files byte) (slots mft))
      (or_right (is_list_byte files byte) (some_below (is_slot_byte mft files byte) (slots mft)) (some_below_at (is_slot_byte mft files byte) (slots mft) number below inside))

  no_content_there : (number q : ℕ) (slot : Slot) → result_of image (slot_of mft number) ≡ Ok slot → IsFree slot q → is_content_place mft.boot.record_size files number q ≡ false
  no_content_there number q slot gives free =
      ⊎_elim
      (λ content.
      let there = held number q content in
      let same : slot ≡ Used there.found = cc (there.slot_is) in
      let P : Slot → Type 0 = λ slot. IsFree slot q in
      let none : IsFree (Used there.found) q = subst P same free in
      absurd (none there.place))
      (λ none. none)
      (cases_Bool (is_content_place mft.boot.record_size files number q))

  free_guarded : (byte number : ℕ) (slot : Slot) → number < slots mft → result_of image (slot_of mft number) ≡ Ok slot → IsFreeIn mft number slot byte → Guarded byte
  free_guarded byte number slot below gives free =
      let here : is_at (slot_place mft number free.0) byte ≡ true = ap (λ place. is_at place byte) free.2 ∙ eq-eqb byte byte refl in
      let none : not (is_content_place mft.boot.record_size files number free.0) ≡ true = not_from_false (is_content_place mft.boot.record_size files number free.0) (no_content_there number free.0 slot gives free.3) in
      slot_guarded byte number below
      (some_below_at (λ q. is_at (slot_place mft number q) byte && not (is_content_place mft.boot.record_size files number q)) mft.boot.record_size free.0 free.1
      (and_from (is_at (slot_place mft number free.0) byte) (not (is_content_place mft.boot.record_size files number free.0)) here none))

  -- ---- a slot, by whatever is known of its places

  pub slot_looks_guarded : (known : Mft) (number : ℕ) (slot : Slot) → SamePlaces known mft number → number < slots mft → result_of image (slot_of known number) ≡ Ok slot → LooksAt (LiesIn Guarded) image (slot_of known number)
  slot_looks_guarded known number slot same below gives =
      let size : known.boot.record_size ≡ mft.boot.record_size = ap (λ boot. boot.record_size) same.boot in
      looks_weaker (LiesIn (IsFreeIn known number slot)) (LiesIn Guarded) image (slot_of known number)
      (λ range lies byte low high.
      let free = lies byte low high in
      let inside : free.0 < mft.boot.record_size = omega (arith, free.1, size) in
      free_guarded byte number slot below (slot_same image known mft number slot same gives) (free.0, inside, sym (same.places free.0 inside) ∙ free.2, free.3))
      (slot_looks image known number slot (ap (λ n. n % 512) size ∙ strides) gives)

  -- ---- a list

  pub list_looks : (known : Mft) (list : Held) (content : ListContent) → result_of image (list_content known list) ≡ Ok content → ((byte : ℕ) → covers content.guarded byte ≡ true → Guarded byte)
      → LooksAt (LiesIn Guarded) image (list_content known list)
  list_looks known list content gives guarded = by_form list.opened.attribute.form gives
    where
      stream_looks : (stream : Stream) → result_of image (stream_list known stream) ≡ Ok content → LooksAt (LiesIn Guarded) image (stream_list known stream)
      stream_looks stream gives =
          let place = stream_place known.boot stream in
          let short = check_gives image (nat_le stream.real 1048576) (Limit AttributeList 1048576) _ content gives in
          let bytes = bind_gives image (look_bytes place 0 stream.real) _ content short.1 in
          let ranges : content.guarded ≡ byte_ranges place stream.real = cc (bytes.2) in
          looks_check (LiesIn Guarded) image (nat_le stream.real 1048576) (Limit AttributeList 1048576) _
          (λ _. looks_bind (LiesIn Guarded) image (look_bytes place 0 stream.real) _
          (looks_bytes Refusal (LiesIn Guarded) image place 0 stream.real
          (λ i p from to is byte low high.
          let same : p ≡ byte = omega (arith, low, high) in
          guarded byte (ap (λ ranges. covers ranges byte) ranges ∙ byte_ranges_cover place stream.real i byte (omega (arith, to)) (is ∙ ap Some same))))
          (λ bytes is. looks_done (LiesIn Guarded) image _))

      by_form : (form : Form) → result_of image (list_by known list form) ≡ Ok content → LooksAt (LiesIn Guarded) image (list_by known list form)
      by_form (Resident range) gives = looks_done (LiesIn Guarded) image _
      by_form (NonResident header) gives =
          let stream = given_gives image (stream_of known list []) (stream_list known) content gives in
          looks_bind_ok (LiesIn Guarded) image (given (stream_of known list [])) (stream_list known) stream.0 (result_given image (stream_of known list []) ∙ stream.1)
          (looks_given (LiesIn Guarded) image (stream_of known list [])) (stream_looks stream.0 stream.2)

  -- ---- the attribute that an entry names

  pub named_looks : (known : Mft) (number : ℕ) (base : FileRecord) (entry : Entry) (named : Held) → slots known ≡ slots mft → SamePlaces known mft entry.number → result_of image (named_attribute known number base entry) ≡ Ok named
      → LooksAt (LiesIn Guarded) image (named_attribute known number base entry)
  unfolding named_attribute
  named_looks known number base entry named count same gives =
      let attributes = bind_gives image (named_record known number base entry) _ named gives in
      looks_bind_ok (LiesIn Guarded) image (named_record known number base entry) _ attributes.0 attributes.1
      (record_looks (entry.number == number) attributes.0 attributes.1) (looks_given (LiesIn Guarded) image (named_in entry attributes.0))
    where
      record_looks : (own : Bool) (attributes : List Held) → result_of image (record_named known number base entry own) ≡ Ok attributes → LooksAt (LiesIn Guarded) image (record_named known number base entry own)
      record_looks true attributes gives = looks_done (LiesIn Guarded) image _
      record_looks false attributes gives =
          let below = check_gives image (nat_lt entry.number (slots known)) (Damaged AttributeMissing entry.place) _ attributes gives in
          let slot = bind_gives image (slot_of known entry.number) (extension_attributes number base entry) attributes below.1 in
          looks_check (LiesIn Guarded) image (nat_lt entry.number (slots known)) (Damaged AttributeMissing entry.place) _
          (λ _. looks_bind_ok (LiesIn Guarded) image (slot_of known entry.number) (extension_attributes number base entry) slot.0 slot.1
          (slot_looks_guarded known entry.number slot.0 same (omega (arith, ltb-true entry.number (slots known) below.0, count)) slot.1)
          (looks_given_ok (LiesIn Guarded) image (extension_of (reference_of number base.header) entry.place slot.0) _ attributes slot.2 (λ found is. looks_done (LiesIn Guarded) image _)))

  -- ---- a file

  own_same : (number : ℕ) → SamePlaces mft mft number
  own_same number = record { boot = refl; places = λ i below. refl }

  assembled_looks : (number : ℕ) (base : FileRecord) (list : Option Held) (found : Assembled) → result_of image (assembled_by mft number base list) ≡ Ok found → ((byte : ℕ) → covers found.lists byte ≡ true → Guarded byte)
      → LooksAt (LiesIn Guarded) image (assembled_by mft number base list)
  assembled_looks number base None found gives guarded = looks_done (LiesIn Guarded) image _
  assembled_looks number base (Some list) found gives guarded =
      let content = bind_gives image (list_content mft list) (with_list mft number base list) found gives in
      let entries = given_gives image (entries_of mft list content.0) (with_entries mft number base content.0) found content.2 in
      let attributes = bind_gives image (each (named_attribute mft number base) entries.0) _ found entries.2 in
      let lists : content.0.guarded ≡ found.lists = cc (attributes.2) in
      looks_bind_ok (LiesIn Guarded) image (list_content mft list) (with_list mft number base list) content.0 content.1
      (list_looks mft list content.0 content.1 (λ byte inside. guarded byte (sym (ap (λ ranges. covers ranges byte) lists) ∙ inside)))
      (looks_bind_ok (LiesIn Guarded) image (given (entries_of mft list content.0)) (with_entries mft number base content.0) entries.0 (result_given image (entries_of mft list content.0) ∙ entries.1)
      (looks_given (LiesIn Guarded) image (entries_of mft list content.0))
      (looks_bind_ok (LiesIn Guarded) image (each (named_attribute mft number base) entries.0) _ attributes.0 attributes.1
      (looks_each_ok (LiesIn Guarded) image (named_attribute mft number base) entries.0 attributes.0 attributes.1 (λ entry named is. named_looks mft number base entry named refl (own_same entry.number) is))
      (looks_done (LiesIn Guarded) image _)))

  file_looks : (number : ℕ) (option : Option FoundFile) → number < slots mft → result_of image (file_of mft number) ≡ Ok option → ((byte : ℕ) → is_list_byte (all_found (option ∷ [])) byte ≡ true → Guarded byte)
      → LooksAt (LiesIn Guarded) image (file_of mft number)
  unfolding file_of
  file_looks number option below gives guarded =
      let slot = bind_gives image (slot_of mft number) (file_in mft number) option gives in
      looks_bind_ok (LiesIn Guarded) image (slot_of mft number) (file_in mft number) slot.0 slot.1 (slot_looks_guarded mft number slot.0 (own_same number) below slot.1) (by_slot slot.0 slot.2)
    where
      with_looks : (base : FileRecord) (found : Assembled) → LooksAt (LiesIn Guarded) image (with_assembled mft number base found)
      with_looks base found =
          looks_bind (LiesIn Guarded) image (given (file_names mft found.attributes)) _ (looks_given (LiesIn Guarded) image (file_names mft found.attributes))
          (λ names is. looks_bind (LiesIn Guarded) image (given (parts_of mft found.attributes)) _ (looks_given (LiesIn Guarded) image (parts_of mft found.attributes))
          (λ parts are. looks_done (LiesIn Guarded) image _))

      by_base : (base : FileRecord) (is_base : Bool) → result_of image (file_by mft number base is_base) ≡ Ok option → LooksAt (LiesIn Guarded) image (file_by mft number base is_base)
      by_base base false gives = looks_done (LiesIn Guarded) image _
      by_base base true gives =
          let found = bind_gives image (assembled mft number base) (with_assembled mft number base) option gives in
          looks_bind_ok (LiesIn Guarded) image (assembled mft number base) (with_assembled mft number base) found.0 found.1
          (assembled_looks number base (list_of (attributes_in number base)) found.0 found.1 (λ byte inside. guarded byte (lists_found image mft number option base found.0 byte found.2 inside))) (with_looks base found.0)

      by_slot : (slot : Slot) → result_of image (file_in mft number slot) ≡ Ok option → LooksAt (LiesIn Guarded) image (file_in mft number slot)
      by_slot Empty gives = looks_done (LiesIn Guarded) image _
      by_slot Unused gives = looks_done (LiesIn Guarded) image _
      by_slot (Used base) gives = by_base base (base.header.base == 0) gives

  -- ---- all files

  pub files_look : (count from : ℕ) (options : List (Option FoundFile)) → from + count ≤ slots mft → result_of image (each (file_of mft) (count_from from count)) ≡ Ok options
      → ((byte : ℕ) → is_list_byte (all_found options) byte ≡ true → Guarded byte) → LooksAt (LiesIn Guarded) image (each (file_of mft) (count_from from count))
  files_look zero from options within gives guarded = looks_done (LiesIn Guarded) image []
  files_look (suc count) from options within gives guarded =
      let first = bind_gives image (file_of mft from) _ options gives in
      let rest = bind_gives image (each (file_of mft) (count_from (suc from) count)) _ options first.2 in
      let same : options ≡ first.0 ∷ rest.0 = cc (rest.2) in
      looks_bind_ok (LiesIn Guarded) image (file_of mft from) _ first.0 first.1
      (file_looks from first.0 (omega (arith, within)) first.1
      (λ byte inside. guarded byte (ap (λ options. is_list_byte (all_found options) byte) same ∙ in_first_file first.0 rest.0 byte inside)))
      (looks_bind_ok (LiesIn Guarded) image (each (file_of mft) (count_from (suc from) count)) _ rest.0 rest.1
      (files_look count (suc from) rest.0 (omega (arith, within)) rest.1
      (λ byte inside. guarded byte (ap (λ options. is_list_byte (all_found options) byte) same ∙ in_rest first.0 rest.0 byte inside)))
      (looks_done (LiesIn Guarded) image _))
    where
      in_rest : (first : Option FoundFile) (rest : List (Option FoundFile)) (byte : ℕ) → is_list_byte (all_found rest) byte ≡ true → is_list_byte (all_found (first ∷ rest)) byte ≡ true
      in_rest None rest byte inside = inside
      in_rest (Some file) rest byte inside = or_right (covers file.lists byte) (is_list_byte (all_found rest) byte) inside
