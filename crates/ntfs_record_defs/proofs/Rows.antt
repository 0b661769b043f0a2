-- What the definitions say of some records, worked out by hand.
use Rattle.std.specs.Prelude.{◌≡◌, ℕ, zero, suc, ◌+◌, ◌-◌, ◌*◌, ◌/◌, ◌%◌, Result, Ok, Err, List, [], ◌∷◌, ◌++◌, length, map, replicate, take, drop, refl}
use Rattle.bytes_defs.specs.Bytes.{part}
use Rattle.image_defs.specs.Ask.{result_of}
use Rattle.image_defs.specs.Results.{with_value}
use Rattle.image_defs.specs.Via.{via, look_bytes, seen_from}
use Rattle.bytes_defs.specs.Numbers.{number_at}
use Rattle.ntfs_record_defs.specs.declared.fault.RecordFault.{RecordFault}
use Rattle.ntfs_record_defs.specs.declared.fault.RecordFault.TheVariants.{NotFile, BadFixup, BadField}
use Rattle.ntfs_record_defs.specs.Stored.{stored_place, true_bytes}
use Rattle.ntfs_record_defs.specs.Attributes.{Resident, NonResident, Opened, attributes_within, contents, is_length, is_layout}
use Rattle.ntfs_record_defs.specs.Record.{Header, FileRecord, header_of, record_behind, record_of}

-- ---- records, written

-- numbers of two, four and eight bytes
abbrev w16 : ℕ → List ℕ
w16 n = n % 256 ∷ n / 256 % 256 ∷ []

abbrev w32 : ℕ → List ℕ
w32 n = w16 n ++ w16 (n / 65536)

abbrev w64 : ℕ → List ℕ
w64 n = w32 n ++ replicate 4 0

-- filled up with zeros to a length
abbrev padded : ℕ → List ℕ → List ℕ
padded len bytes = bytes ++ replicate (len - length bytes) 0

-- the header of a record in use, of a file, with sequence number 7 and one link
abbrev header_bytes : ℕ → ℕ → ℕ → ℕ → List ℕ
header_bytes array count first used =
    (70 ∷ 73 ∷ 76 ∷ 69 ∷ []) ++ w16 array ++ w16 count ++ replicate 8 0 ++ w16 7 ++ w16 1 ++ w16 first ++ w16 1 ++ w32 used ++ replicate 20 0

abbrev number : List ℕ
number = 0xAA ∷ 0xBB ∷ []

-- the last two bytes of each stride, and strides that end with the check number
abbrev ends : ℕ → List ℕ → List ℕ
ends zero bytes = []
ends (suc count) bytes = take 2 (drop 510 bytes) ++ ends count (drop 512 bytes)

abbrev ended : ℕ → List ℕ → List ℕ
ended zero bytes = []
ended (suc count) bytes = take 510 bytes ++ number ++ ended count (drop 512 bytes)

-- a record of so many strides, as it is stored
abbrev stored : ℕ → ℕ → List ℕ → List ℕ
stored strides array bytes = ended strides (take array bytes ++ number ++ ends strides bytes ++ drop (array + 2 * (strides + 1)) bytes)

-- a record of so many strides, with its first attribute and its used size at these bytes, its array at 48, and its attributes
abbrev written : ℕ → ℕ → ℕ → List ℕ → List ℕ
written strides first used attributes =
    stored strides 48 (padded (512 * strides) (padded first (header_bytes 48 (strides + 1) first used) ++ attributes))

-- a resident attribute, with a name of so many units and its content at these bytes of it
abbrev resident_at : ℕ → ℕ → ℕ → ℕ → ℕ → List ℕ → List ℕ
resident_at kind len units name at content =
    padded len (padded at (w32 kind ++ w32 len ++ (0 ∷ units ∷ []) ++ w16 name ++ w16 0 ++ w16 0 ++ w32 (length content) ++ w16 at ++ w16 0) ++ content)

abbrev resident : ℕ → ℕ → List ℕ → List ℕ
resident kind len content = resident_at kind len 0 0 24 content

-- an attribute in clusters 0 to 1, with its run list at this byte of it
abbrev in_clusters : ℕ → ℕ → List ℕ → List ℕ
in_clusters len at runs =
    padded len (padded 64 (w32 0x80 ++ w32 len ++ (1 ∷ 0 ∷ []) ++ w16 0 ++ w16 0 ++ w16 0 ++ w64 0 ++ w64 1 ++ w16 at ++ replicate 6 0 ++ w64 1024 ++ w64 700 ++ w64 600) ++ runs)

abbrev end_mark : List ℕ
end_mark = 0xFF ∷ 0xFF ∷ 0xFF ∷ 0xFF ∷ 0 ∷ 0 ∷ 0 ∷ 0 ∷ []

-- ---- one attribute of 96 bytes with 72 bytes of content

abbrev one_attribute : List ℕ
one_attribute = resident 0x10 96 (replicate 72 5) ++ end_mark

abbrev small_header : Header
small_header = record { array = 48; count = 3; sequence = 7; links = 1; first = 56; flags = 1; used = 160; base = 0 }

abbrev small_attribute : Opened
small_attribute = record {
  attribute = record {
    kind = 0x10;
    at = 56;
    len = 96;
    name = record { at = 56; len = 0 };
    flags = 0;
    id = 0;
    form = Resident (record { at = 80; len = 72 });
  };
  name = [];
  body = replicate 72 5;
}

small_record : result_of (written 2 56 160 one_attribute) (record_of 1024) ≡ Ok (record { header = small_header; attributes = small_attribute ∷ [] })
unfolding record_of record_behind header_of via look_bytes attributes_within is_length is_layout part number_at stored_place
small_record = refl

small_places : map (stored_place 48) (510 ∷ 511 ∷ 512 ∷ 1022 ∷ 1023 ∷ []) ≡ 50 ∷ 51 ∷ 512 ∷ 52 ∷ 53 ∷ []
unfolding stored_place
small_places = refl

-- the places of the attributes that are found, or the fault
abbrev places : Result FileRecord RecordFault → Result (List ℕ) RecordFault
places found = with_value (λ found. map (λ opened. opened.attribute.at) found.attributes) found

-- in a record of 4,096 bytes too, of which the last two bytes stand in the last entry of the array
large_record : places (result_of (written 8 72 176 one_attribute) (record_of 4096)) ≡ Ok (72 ∷ [])
unfolding record_of record_behind header_of via look_bytes attributes_within is_length is_layout part number_at stored_place
large_record = refl

large_places : map (stored_place 48) (510 ∷ 4093 ∷ 4094 ∷ 4095 ∷ []) ≡ 50 ∷ 4093 ∷ 64 ∷ 65 ∷ []
unfolding stored_place
large_places = refl

-- ---- content over the end of a stride

abbrev counted : ℕ → ℕ → List ℕ
counted from zero = []
counted from (suc count) = from ∷ counted (suc from) count

-- a $DATA with 16 bytes of content at 504
abbrev over_an_end : List ℕ
over_an_end = written 2 56 528 (resident 0x10 424 (replicate 400 5) ++ resident 0x80 40 (counted 1 16) ++ end_mark)

content_over_an_end : with_value (λ found. contents found.attributes) (result_of over_an_end (record_of 1024)) ≡ Ok (record { at = 504; len = 16 } ∷ [])
unfolding record_of record_behind header_of via look_bytes attributes_within is_length is_layout part number_at stored_place
content_over_an_end = refl

places_over_an_end : map (stored_place 48) (counted 504 16) ≡ counted 504 6 ++ 50 ∷ 51 ∷ [] ++ counted 512 8
unfolding stored_place
places_over_an_end = refl

true_over_an_end : part (true_bytes 48 over_an_end) 504 16 ≡ counted 1 16
unfolding part stored_place seen_from
true_over_an_end = refl

-- an attribute whose first two bytes stand in the array
attribute_at_an_end : places (result_of (written 2 510 558 (resident 0x80 40 (counted 1 16) ++ end_mark)) (record_of 1024)) ≡ Ok (510 ∷ [])
unfolding record_of record_behind header_of via look_bytes attributes_within is_length is_layout part number_at stored_place
attribute_at_an_end = refl

-- ---- refused

-- another byte at a place
abbrev spoilt : ℕ → List ℕ → List ℕ
spoilt at bytes = take at bytes ++ 1 ∷ drop (at + 1) bytes

no_file : result_of (spoilt 3 (written 2 56 160 one_attribute)) (record_of 1024) ≡ Err NotFile
unfolding record_of part
no_file = refl

ends_and_count_wrong :
    (result_of (spoilt 1022 over_an_end) (record_of 1024) ≡ Err (BadFixup 1))  -- second end wrong
    × (result_of (spoilt 511 (spoilt 1022 over_an_end)) (record_of 1024) ≡ Err (BadFixup 0))  -- of two wrong ends the first is told
    × (result_of (stored 2 48 (padded 1024 (header_bytes 48 2 56 160))) (record_of 1024) ≡ Err (BadField 6))  -- wrong count
unfolding record_of record_behind header_of part number_at
ends_and_count_wrong = (refl, refl, refl)

-- an array that ends at 510, and one that ends behind it, at an odd byte, or in the header
abbrev array_at : ℕ → Result (List ℕ) RecordFault
array_at array = places (result_of (stored 2 array (padded 1024 (padded 512 (header_bytes array 3 512 520) ++ end_mark))) (record_of 1024))

last_array : array_at 504 ≡ Ok []
unfolding record_of record_behind header_of via look_bytes attributes_within part number_at stored_place
last_array = refl

arrays_wrong :
    (map array_at (506 ∷ 49 ∷ 40 ∷ []) ≡ Err (BadField 4) ∷ Err (BadField 4) ∷ Err (BadField 4) ∷ [])  -- wrong arrays
    × (result_of (written 2 50 160 one_attribute) (record_of 1024) ≡ Err (BadField 20))  -- an array over the first attribute
unfolding record_of record_behind header_of part number_at
arrays_wrong = (refl, refl)

-- used sizes: past the record, and without place for the mark that ends the attributes
abbrev used_up_to : ℕ → Result (List ℕ) RecordFault
used_up_to used = places (result_of (written 2 56 used one_attribute) (record_of 1024))

wrong_used_sizes : map used_up_to (1025 ∷ 59 ∷ []) ≡ Err (BadField 24) ∷ Err (BadField 24) ∷ []
unfolding record_of record_behind header_of part number_at
wrong_used_sizes = refl

-- an attribute that ends at the used size, an end mark of which a byte is missing, and one with 4 bytes left
ends_of_attributes : map used_up_to (152 ∷ 155 ∷ 156 ∷ []) ≡ Err (BadField 152) ∷ Err (BadField 152) ∷ Ok (56 ∷ []) ∷ []
unfolding record_of record_behind header_of via look_bytes attributes_within is_length is_layout part number_at stored_place
ends_of_attributes = refl

-- the end mark alone
no_attributes : places (result_of (written 2 56 60 end_mark) (record_of 1024)) ≡ Ok []
unfolding record_of record_behind header_of via look_bytes attributes_within part number_at stored_place
no_attributes = refl

-- no end mark up to the end of the record
no_end : places (result_of (written 2 56 1024 (resident 0x10 968 [])) (record_of 1024)) ≡ Err (BadField 1024)
unfolding record_of record_behind header_of via look_bytes attributes_within is_length is_layout part number_at stored_place
no_end = refl

-- ---- one attribute at 56, up to used size 184

abbrev with_attribute : List ℕ → Result (List ℕ) RecordFault
with_attribute bytes = places (result_of (written 2 56 184 (bytes ++ end_mark)) (record_of 1024))

-- lengths: no multiple of 8, below the header, past the used size
wrong_lengths : map (λ len. with_attribute (resident 0x10 len [])) (28 ∷ 16 ∷ 136 ∷ []) ≡ Err (BadField 56) ∷ Err (BadField 56) ∷ Err (BadField 56) ∷ []
unfolding record_of record_behind header_of via look_bytes attributes_within is_length part number_at stored_place
wrong_lengths = refl

names_and_contents :
    -- a name of one unit that touches the content, one that ends in it, and one in the header
    (map (λ at. with_attribute (resident_at 0x80 32 1 at 26 [])) (24 ∷ 25 ∷ 22 ∷ []) ≡ Ok (56 ∷ []) ∷ Err (BadField 56) ∷ Err (BadField 56) ∷ [])
    × (with_attribute (resident 0x80 32 (replicate 8 1)) ≡ Ok (56 ∷ []))  -- content up to the attribute's end
unfolding record_of record_behind header_of via look_bytes attributes_within is_length is_layout part number_at stored_place
names_and_contents = (refl, refl)

-- a resident attribute of 32 bytes with this length and place of its content
abbrev content_at : ℕ → ℕ → List ℕ
content_at at len = take 16 (resident 0x80 32 []) ++ w32 len ++ w16 at ++ replicate 10 0

contents_and_lists :
    -- content one byte past the end, and in the header
    (with_attribute (content_at 24 9) ≡ Err (BadField 56)) × (with_attribute (content_at 23 0) ≡ Err (BadField 56))
    -- a run list behind the header, at the attribute's end, in the header, and past the end
    × (map (λ at. with_attribute (in_clusters 72 at (0x11 ∷ 2 ∷ 5 ∷ 0 ∷ []))) (64 ∷ 72 ∷ 63 ∷ 73 ∷ []) ≡ Ok (56 ∷ []) ∷ Ok (56 ∷ []) ∷ Err (BadField 56) ∷ Err (BadField 56) ∷ [])
unfolding record_of record_behind header_of via look_bytes attributes_within is_length is_layout part number_at stored_place
contents_and_lists = (refl, refl, refl)

abbrev clustered_attribute : Opened
clustered_attribute = record {
  attribute = record {
    kind = 0x80;
    at = 56;
    len = 72;
    name = record { at = 56; len = 0 };
    flags = 0;
    id = 0;
    form = NonResident (record { first = 0; last = 1; runs = record { at = 120; len = 8 }; allocated = 1024; real = 700; initialised = 600 });
  };
  name = [];
  body = 0x11 ∷ 2 ∷ 5 ∷ 0 ∷ 0 ∷ 0 ∷ 0 ∷ 0 ∷ [];
}

clustered : with_value (λ found. found.attributes) (result_of (written 2 56 136 (in_clusters 72 64 (0x11 ∷ 2 ∷ 5 ∷ 0 ∷ []) ++ end_mark)) (record_of 1024)) ≡ Ok (clustered_attribute ∷ [])
unfolding record_of record_behind header_of via look_bytes attributes_within is_length is_layout part number_at stored_place
clustered = refl
