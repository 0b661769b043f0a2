-- Laws behind RecordLaws: a record looks at no byte that is a place of its own resident content. So a record with other content says the same.
use Rattle.std.specs.Prelude.{◌≡◌, ℕ, ◌+◌, ◌*◌, ◌/◌, ◌%◌, ◌<◌, ◌≤◌, ◌==◌, ◌&&◌, true, nat_le, Option, Some, Ok, List, length, slice_get, refl}
use Rattle.std.proofs.Common.{arith, ap, sym, ◌∙◌, subst}
use Rattle.std.proofs.lemmas.Bool.{and_parts, leb-true, both_ways}
use Rattle.image_defs.proofs.Results.{visits_check}
use Rattle.std.specs.Str.{bytes_eq}
use Rattle.range_defs.specs.declared.Range.{Range}
use Rattle.range_defs.specs.Places.{covers}
use Rattle.bytes_defs.specs.Bytes.{part}
use Rattle.image_defs.specs.Ask.{result_of, each}
use Rattle.image_defs.proofs.Agreement.{result_agree}
use Rattle.image_defs.specs.Looks.{LooksAt}
use Rattle.image_defs.proofs.Looks.{looks_nowhere, looks_done, looks_weaker, looks_bind, looks_check, looks_look, looks_each, bind_gives, check_gives}
use Rattle.image_defs.specs.Via.{via, seen}
use Rattle.image_defs.specs.ViaLaws.{LiesIn}
use Rattle.image_defs.proofs.ViaLaws.{result_via, looks_via, AtPlaces, agree_on_looks}
use Rattle.ntfs_record_defs.specs.declared.fault.RecordFault.{RecordFault}
use Rattle.ntfs_record_defs.specs.declared.fault.RecordFault.TheVariants.{NotFile, BadFixup, BadField}
use Rattle.ntfs_record_defs.specs.Stored.{stored_place, stored_at, entries, array_end, is_array, count_from, ends_with}
use Rattle.ntfs_record_defs.proofs.StoredLaws.{IsBehind, same_place, stored_behind_number, stored_at_no_end}
use Rattle.ntfs_record_defs.specs.Attributes.{Opened, attributes_from, contents}
use Rattle.ntfs_record_defs.proofs.AttributeLaws.{Avoids, LieBetween, attributes_look}
use Rattle.ntfs_record_defs.specs.Record.{Header, FileRecord, header_of, is_file, is_used_size, stored_attributes, record_within, record_behind, record_of}
use Rattle.ntfs_record_defs.specs.RecordLaws.{IsKept, NoContentPlace}

-- what holds of a header that passes its checks, with its attributes
pub record IsSoundHeader (size : ℕ) (header : Header) (attributes : List Opened) : Type 0 where
  pub whole : size % 512 ≡ 0
  pub behind_header : 42 ≤ header.array
  pub short : array_end size header.array ≤ 510
  pub behind_array : array_end size header.array ≤ header.first
  pub inside : header.used ≤ size
  pub between : LieBetween header.first header.used (contents attributes)

content_behind : (size : ℕ) (header : Header) (attributes : List Opened) (i : ℕ) → IsSoundHeader size header attributes → covers (contents attributes) i ≡ true → IsBehind size header.array i
content_behind size header attributes i sound content =
    let lies = sound.between i content in
    record { whole = sound.whole; behind = omega (arith, lies.0, sound.behind_array); inside = omega (arith, lies.1, sound.inside) }

module _ (size : ℕ) (found : FileRecord) (sound : IsSoundHeader size found.header found.attributes) where
  pub front_clear : (byte : ℕ) → byte < found.header.array + 2 → NoContentPlace found byte
  front_clear byte front content =
      omega (arith, front, content.2, stored_behind_number size found.header.array content.0 (content_behind size found.header found.attributes content.0 sound content.1))

  end_clear : (stride byte : ℕ) → 512 * stride + 510 ≤ byte → byte < 512 * stride + 510 + 2 → NoContentPlace found byte
  end_clear stride byte low high content =
      stored_at_no_end size found.header.array content.0 stride sound.short (content_behind size found.header found.attributes content.0 sound content.1)
      (omega (arith, low, content.2)) (omega (arith, high, content.2))

  attribute_clear : (range : Range) → Avoids found.header.first (contents found.attributes) range → AtPlaces (stored_at found.header.array) size (LiesIn (NoContentPlace found)) range
  attribute_clear range avoids i p low high inside is byte from to content =
      let lies = avoids i low high in
      let here : IsBehind size found.header.array i = record { whole = sound.whole; behind = omega (arith, lies.0, sound.behind_array); inside = inside } in
      let place : stored_place found.header.array i ≡ p = cc in
      let same : content.0 ≡ i =
      same_place size found.header.array content.0 i (content_behind size found.header found.attributes content.0 sound content.1) here
      (content.2 ∙ omega (arith, from, to) ∙ sym place) in
      both_ways (covers (contents found.attributes) i) lies.1 (ap (λ i. covers (contents found.attributes) i) (sym same) ∙ content.1)

stride_looks : (size : ℕ) (found : FileRecord) (sound : IsSoundHeader size found.header found.attributes) (stored number : List ℕ) (stride : ℕ)
    → LooksAt (LiesIn (NoContentPlace found)) stored (ends_with number stride)
stride_looks size found sound stored number stride =
    looks_look {E = RecordFault} (LiesIn (NoContentPlace found)) stored (512 * stride + 510) 2 _ (λ byte low high. end_clear size found sound stride byte low high)
    (looks_nowhere (LiesIn (NoContentPlace found)) stored _ (visits_check stored (bytes_eq (part stored (512 * stride + 510) 2) number) (BadFixup stride)))

attributes_clear : (size : ℕ) (found : FileRecord) (sound : IsSoundHeader size found.header found.attributes) (stored : List ℕ)
    → result_of stored (stored_attributes size found.header) ≡ Ok found.attributes → LooksAt (LiesIn (NoContentPlace found)) stored (stored_attributes size found.header)
attributes_clear size found sound stored gives =
    let true_gives = sym (result_via stored (stored_at found.header.array) size (attributes_from found.header.used found.header.first)) ∙ gives in
    let walk = attributes_look _ found.header.used found.header.first (seen stored (stored_at found.header.array) size) found.attributes true_gives in
    looks_via (LiesIn (NoContentPlace found)) stored (stored_at found.header.array) size (attributes_from found.header.used found.header.first)
    (looks_weaker (Avoids found.header.first (contents found.attributes)) (AtPlaces (stored_at found.header.array) size (LiesIn (NoContentPlace found)))
    (seen stored (stored_at found.header.array) size) (attributes_from found.header.used found.header.first) (attribute_clear size found sound) walk.looks)

-- ---- a record that is found

pub record IsFound (stored : List ℕ) (size : ℕ) (header : Header) (found : FileRecord) : Type 0 where
  pub header_is : header ≡ found.header
  pub attributes : result_of stored (stored_attributes size found.header) ≡ Ok found.attributes
  pub sound : IsSoundHeader size found.header found.attributes

sound_of : (stored : List ℕ) (size : ℕ) (header : Header) (attributes : List Opened) → size % 512 ≡ 0 → is_array size header.array ≡ true → nat_le (array_end size header.array) header.first ≡ true
    → is_used_size size header ≡ true → result_of stored (stored_attributes size header) ≡ Ok attributes → IsSoundHeader size header attributes
sound_of stored size header attributes whole array first used gives =
    let placed = and_parts (nat_le 42 header.array) (header.array % 2 == 0 && nat_le (array_end size header.array) 510) array in
    let ends = and_parts (header.array % 2 == 0) (nat_le (array_end size header.array) 510) placed.1 in
    let sizes = and_parts (nat_le header.used size) (nat_le (header.first + 4) header.used) used in
    record {
      whole = whole;
      behind_header = leb-true _ _ placed.0;
      short = leb-true _ _ ends.1;
      behind_array = leb-true _ _ first;
      inside = leb-true _ _ sizes.0;
      between = (attributes_look _ header.used header.first (seen stored (stored_at header.array) size) attributes
          (sym (result_via stored (stored_at header.array) size (attributes_from header.used header.first)) ∙ gives)).between;
    }

pub behind_found : (stored : List ℕ) (size : ℕ) (header : Header) (found : FileRecord) → size % 512 ≡ 0 → result_of stored (record_behind size header) ≡ Ok found → IsFound stored size header found
unfolding record_behind
behind_found stored size header found whole gives =
    let count = check_gives stored (header.count == entries size) (BadField 6) _ found gives in
    let array = check_gives stored (is_array size header.array) (BadField 4) _ found count.1 in
    let ends = bind_gives stored (each (ends_with (part stored header.array 2)) (count_from 0 (size / 512))) _ found array.1 in
    let first = check_gives stored (nat_le (array_end size header.array) header.first) (BadField 20) _ found ends.2 in
    let used = check_gives stored (is_used_size size header) (BadField 24) _ found first.1 in
    let rest = bind_gives stored (stored_attributes size header) _ found used.1 in
    let P : FileRecord → Type 0 = λ found. IsFound stored size header found in
    let same : record { header = header; attributes = rest.0 } ≡ found = cc (rest.2) in
    subst P same (record {
      header_is = refl;
      attributes = rest.1;
      sound = sound_of stored size header rest.0 whole array.0 first.0 used.0 rest.1;
    })

within_looks : (stored : List ℕ) (size : ℕ) (found : FileRecord) → IsSoundHeader size found.header found.attributes → result_of stored (stored_attributes size found.header) ≡ Ok found.attributes
    → LooksAt (LiesIn (NoContentPlace found)) stored (record_within size found.header)
within_looks stored size found sound gives =
    let P = LiesIn (NoContentPlace found) in
    looks_check P stored (nat_le (array_end size found.header.array) found.header.first) (BadField 20) _
    (λ _. looks_check P stored (is_used_size size found.header) (BadField 24) _
    (λ _. looks_bind P stored (stored_attributes size found.header) _ (attributes_clear size found sound stored gives)
    (λ attributes is. looks_done P stored _)))

pub behind_looks : (stored : List ℕ) (size : ℕ) (found : FileRecord) → IsSoundHeader size found.header found.attributes → result_of stored (stored_attributes size found.header) ≡ Ok found.attributes
    → LooksAt (LiesIn (NoContentPlace found)) stored (record_behind size found.header)
unfolding record_behind
behind_looks stored size found sound gives =
    let P = LiesIn (NoContentPlace found) in
    let number = part stored found.header.array 2 in
    looks_check P stored (found.header.count == entries size) (BadField 6) _
    (λ _. looks_check P stored (is_array size found.header.array) (BadField 4) _
    (λ _. looks_look P stored found.header.array 2 _ (λ byte low high. front_clear size found sound byte high)
    (looks_bind P stored (each (ends_with number) (count_from 0 (size / 512))) _
    (looks_each P stored (ends_with number) (count_from 0 (size / 512)) (stride_looks size found sound stored number))
    (λ units are. within_looks stored size found sound gives))))

pub record_found : (stored : List ℕ) (size : ℕ) (found : FileRecord) → size % 512 ≡ 0 → result_of stored (record_of size) ≡ Ok found → IsFound stored size (header_of (part stored 0 42)) found
unfolding record_of
record_found stored size found whole gives =
    let file = check_gives stored (is_file (part stored 0 42)) NotFile _ found gives in
    behind_found stored size (header_of (part stored 0 42)) found whole file.1

-- no byte at which a record looks is a place of the content of a resident $DATA of that same record
pub record_clear : (stored : List ℕ) (size : ℕ) (found : FileRecord) → size % 512 ≡ 0 → result_of stored (record_of size) ≡ Ok found
    → LooksAt (LiesIn (NoContentPlace found)) stored (record_of size)
unfolding record_of
record_clear stored size found whole gives =
    let P = LiesIn (NoContentPlace found) in
    let is = record_found stored size found whole gives in
    let Q : Header → Type 0 = λ header. LooksAt P stored (record_behind size header) in
    looks_look P stored 0 42 _ (λ byte low high. front_clear size found is.sound byte (omega (arith, high, is.sound.behind_header)))
    (looks_check P stored (is_file (part stored 0 42)) NotFile _
    (λ _. subst Q (sym is.header_is) (behind_looks stored size found is.sound is.attributes)))

-- so a record that is stored with other content is the same record
pub other_content : (a b : List ℕ) (size : ℕ) (found : FileRecord) → size % 512 ≡ 0 → result_of a (record_of size) ≡ Ok found → length a ≡ length b
    → ((byte : ℕ) → NoContentPlace found byte → slice_get a byte ≡ slice_get b byte) → result_of b (record_of size) ≡ Ok found
other_content a b size found whole gives same_length same =
    result_agree (record_of size) a b (agree_on_looks (NoContentPlace found) (record_of size) a b same_length same (record_clear a size found whole gives)) ∙ gives

kept_places : (place : ℕ → Option ℕ) (size : ℕ) (found : FileRecord) (range : Range) → LiesIn (NoContentPlace found) range → AtPlaces place size (LiesIn (IsKept place size found)) range
kept_places place size found range lies i p low high inside is byte from to =
    let same : p ≡ byte = omega (arith, from, to) in
    (i, inside, is ∙ ap Some same, lies i low high)

-- an image at which a record looks: each byte is that of a stored byte which is no place of the record's content
pub image_clear : (image : List ℕ) (place : ℕ → Option ℕ) (size : ℕ) (found : FileRecord) → size % 512 ≡ 0 → result_of image (via place size (record_of size)) ≡ Ok found
    → LooksAt (LiesIn (IsKept place size found)) image (via place size (record_of size))
image_clear image place size found whole gives =
    looks_via (LiesIn (IsKept place size found)) image place size (record_of size)
    (looks_weaker (LiesIn (NoContentPlace found)) (AtPlaces place size (LiesIn (IsKept place size found))) (seen image place size) (record_of size) (kept_places place size found)
    (record_clear (seen image place size) size found whole (sym (result_via image place size (record_of size)) ∙ gives)))
