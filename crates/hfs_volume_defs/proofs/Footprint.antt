-- Images of one length that agree on the guard of a volume in one of them say the same of it.
use Rattle.std.specs.Prelude.{◌≡◌, ℕ, ◌+◌, ◌-◌, ◌<◌, ◌≤◌, ◌==◌, true, IsTrue, nat_le, Option, Some, None, Result, Ok, List, [], ◌∷◌, ◌++◌, length, slice_get, refl}
use Rattle.std.specs.List.{All, sum_by, flat_map}
use Rattle.std.proofs.Common.{ap, sym, ◌∙◌, subst, arith, ⊎_elim, append-nil}
use Rattle.std.proofs.lemmas.Bool.{cases_lt, or_left, or_right}
use Rattle.std.proofs.lemmas.Bool.Decides.{nat_tests}
use Rattle.std.proofs.lemmas.List.Elements.{All-head, All-tail, All-weaker}
use Rattle.std.proofs.lemmas.Option.{slice_get_past}
use Rattle.range_defs.specs.declared.Range.{Range}
use Rattle.range_defs.specs.Places.{in_range, covers, longest_ranges}
use Rattle.range_defs.proofs.RangeLaws.{longest_ranges_covers, covers_front, covers_back}
use Rattle.bytes_defs.specs.Bytes.{part}
use Rattle.image_defs.specs.Ask.{Ask, Done, result_of, visits, ◌>>=◌, look, check, given, each}
use Rattle.image_defs.specs.Agreement.{AgreeOn}
use Rattle.image_defs.proofs.Agreement.{result_agree}
use Rattle.image_defs.specs.Looks.{LooksAt}
use Rattle.image_defs.proofs.Looks.{looks_nowhere, looks_done, looks_bind, looks_check, looks_look, looks_given, bind_gives, check_gives}
use Rattle.image_defs.specs.Results.{each_result}
use Rattle.image_defs.proofs.Results.{result_given, visits_check}
use Rattle.image_defs.specs.ViaLaws.{LiesIn}
use Rattle.image_defs.proofs.ViaLaws.{agree_on_looks}
use Rattle.rx_ranges.specs.declared.pieces.Piece.{Piece}
use Rattle.rx_ranges.specs.declared.pieces.PieceKind.{PieceKind}
use Rattle.rx_ranges.specs.declared.pieces.PieceKind.TheVariants.{Disk, Zero}
use Rattle.rx_tree.specs.TreeValue.{TreeValue}
use Rattle.rx_tree.specs.declared.file.FileEntry.{FileEntry}
use Rattle.piece_defs.specs.Places.{of_kind, IsPlaced}
use Rattle.hfs_defs.specs.Header.{header_of, is_magic, is_block_size, wrong_field, checked, volume_header}
use Rattle.hfs_defs.specs.Forks.{blocks_in, block_place, byte_place, extent_bytes, records_of, extents_with, fork_fault, pieces_of, FoundFork, found_or, found_fork}
use Rattle.hfs_defs.proofs.ForkLaws.{byte_place-first, byte_place-behind, fork_law}
use Rattle.hfs_defs.specs.Leaves.{tree_file, leaves_of}
use Rattle.hfs_defs.specs.Overflow.{overflow_records}
use Rattle.hfs_defs.specs.TreeFiles.{look_of_kind, look_through, extents_at, catalog_at, tree_leaves, fork_leaves, volume_overflow}
use Rattle.range_defs.specs.declared.TheConstants.{LONGEST_IMAGE}
use Rattle.hfs_volume_defs.specs.Catalog.{Entry, catalog_entries}
use Rattle.hfs_volume_defs.specs.Folders.{first_twice, has_folder, first_outside}
use Rattle.hfs_volume_defs.specs.Files.{NamedEntry, named_entries, entry_file, special_files, special_file}
use Rattle.hfs_volume_defs.specs.Volume.{volume_entries, refuse, sound_entries, all_names, names_within, most_names, most_path_bytes, most_runs, run_count, block_ranges, guard_ranges, guard_of, tree_with, files_within, volume_files, tree_below, volume_tree, HfsFootprintLaw}
use Rattle.fault_defs.specs.declared.Refusal.{Refusal}
use Rattle.fault_defs.specs.declared.Refusal.TheVariants.{NotThis, Damaged, Unsupported, Limit}
use Rattle.fault_defs.specs.declared.Bound.TheVariants.{Image, Names, PathBytes, Runs}
use Rattle.fault_defs.specs.declared.Sort.{Sort}
use Rattle.fault_defs.specs.declared.Sort.TheVariants.{HeaderField, FolderMissing, CatalogTwice}
use Rattle.fault_defs.specs.declared.What.TheVariants.{ExtentsFork}
use Rattle.hfs_defs.specs.declared.forks.Extent.{Extent}
use Rattle.hfs_defs.specs.declared.forks.Fork.{Fork}
use Rattle.hfs_defs.specs.declared.forks.OverflowRecord.{OverflowRecord}
use Rattle.hfs_defs.specs.declared.header.Header.{Header}

-- each byte of a range is one of those that ranges cover
abbrev IsCovered : List Range → Range → Type 0
IsCovered ranges = LiesIn (λ byte. IsTrue (covers ranges byte))

-- ---- the bytes of a fork stand in its blocks

some_place : (a b : ℕ) → Some a ≡ Some b → a ≡ b
some_place a b same = cc

stored_covered : (header : Header) (extents : List Extent) (byte at : ℕ) → 0 < header.block_size → byte_place header extents byte ≡ Some at → IsTrue (covers (block_ranges header extents) at)
unfolding byte_place
stored_covered header [] byte at some is = absurd cc
stored_covered header (extent ∷ extents) byte at some is =
    let range : Range = record { at = block_place header extent.start; len = extent_bytes header extent } in
    ⊎_elim
    (λ inside.
    let place : block_place header extent.start + byte ≡ at = some_place (block_place header extent.start + byte) at (sym (byte_place-first header extent extents byte some inside) ∙ is) in
    or_left (in_range range at) (covers (block_ranges header extents) at) (within (block_place header extent.start) (extent_bytes header extent) place inside))
    (λ behind.
    or_right (in_range range at) (covers (block_ranges header extents) at)
    (stored_covered header extents (byte - extent_bytes header extent) at some (sym (byte_place-behind header extent extents byte some behind) ∙ is)))
    (cases_lt byte (extent_bytes header extent))
  where
    within : (start bytes : ℕ) → start + byte ≡ at → byte < bytes → in_range (record { at = start; len = bytes }) at ≡ true
    within start bytes place inside = grind (arith, nat_tests)

-- ---- what a tree file is asked for

piece_looks : (P : Range → Type 0) (image : List ℕ) (header : Header) (extents : List Extent) (piece : Piece) → 0 < header.block_size → IsPlaced (byte_place header extents) piece
    → ((range : Range) → IsCovered (block_ranges header extents) range → P range) → LooksAt P image (look_of_kind piece.kind piece.at piece.len)
piece_looks P image header extents piece some placed guarded = of_either piece.kind (λ byte from before. placed.bytes byte from before)
  where
    of_either : (kind : PieceKind) → ((byte : ℕ) → piece.from ≤ byte → byte < piece.from + piece.len → byte_place header extents byte ≡ of_kind kind (piece.at + (byte - piece.from)))
        → LooksAt P image (look_of_kind kind piece.at piece.len)
    of_either Zero stands = looks_done P image _
    of_either Disk stands =
        looks_look P image piece.at piece.len (λ bytes. Done bytes)
        (guarded (record { at = piece.at; len = piece.len })
        (λ byte from before.
        let logical : ℕ = piece.from + (byte - piece.at) in
        let same : piece.at + (logical - piece.from) ≡ byte = omega (arith, from) in
        stored_covered header extents logical byte some (stands logical (omega arith) (omega (arith, from, before)) ∙ ap Some same)))
        (looks_done P image (part image piece.at piece.len))

each_looks : {X Y : Type 0} (P : Range → Type 0) (image : List ℕ) (ask : X → Ask Refusal Y) (xs : List X) → All (λ x. LooksAt P image (ask x)) xs → LooksAt P image (each ask xs)
each_looks P image ask [] all = looks_done P image []
each_looks P image ask (x ∷ xs) all =
    looks_bind P image (ask x) (λ y. each ask xs >>= (λ ys. Done (y ∷ ys))) (All-head (λ x. LooksAt P image (ask x)) x xs all)
    (λ y is. looks_bind P image (each ask xs) (λ ys. Done (y ∷ ys)) (each_looks P image ask xs (All-tail (λ x. LooksAt P image (ask x)) x xs all)) (λ ys are. looks_done P image (y ∷ ys)))

-- the pieces that were found are those of the fork
pub found_gives : (header : Header) (records : List OverflowRecord) (fork : Fork) (place : ℕ) (found : FoundFork) → found_fork header records fork place ≡ Ok found
    → (fork_fault header records fork place ≡ None) × (pieces_of header fork.logical_size (extents_with records fork) ≡ found.pieces)
unfolding found_fork
found_gives header records fork place found is = either (fork_fault header records fork place) is
  where
    same_found : (first second : FoundFork) → (let a : Result FoundFork Refusal = Ok first in let b : Result FoundFork Refusal = Ok second in a ≡ b) → first ≡ second
    same_found first second same = cc

    either : (fault : Option Refusal) → found_or header records fork fault ≡ Ok found → (fault ≡ None) × (pieces_of header fork.logical_size (extents_with records fork) ≡ found.pieces)
    either (Some fault) same = absurd cc
    either None same = (refl, ap (λ fork. fork.pieces) (same_found _ found same))

through_looks : (P : Range → Type 0) (image : List ℕ) (header : Header) (records : List OverflowRecord) (fork : Fork) (place : ℕ) (found : FoundFork) → 0 < header.block_size
    → found_fork header records fork place ≡ Ok found → ((range : Range) → IsCovered (block_ranges header (extents_with records fork)) range → P range)
    → LooksAt P image (look_through found.pieces)
unfolding look_through
through_looks P image header records fork place found some is guarded =
    let gives = found_gives header records fork place found is in
    let extents : List Extent = extents_with records fork in
    let ask : Piece → Ask Refusal (List ℕ) = λ piece. look_of_kind piece.kind piece.at piece.len in
    let Q : List Piece → Type 0 = λ pieces. All (IsPlaced (byte_place header extents)) pieces in
    let placed : All (IsPlaced (byte_place header extents)) found.pieces = subst Q gives.1 (fork_law header records fork place some gives.0).placed in
    looks_bind P image (each ask found.pieces) (λ bytes. Done (flat_map (λ list. list) bytes))
    (each_looks P image ask found.pieces
    (All-weaker (IsPlaced (byte_place header extents)) (λ piece. LooksAt P image (ask piece)) (λ piece stands. piece_looks P image header extents piece some stands guarded) found.pieces placed))
    (λ bytes are. looks_done P image (flat_map (λ list. list) bytes))

-- a fork's leaf records are asked for where its blocks are
leaves_look : (P : Range → Type 0) (image : List ℕ) (header : Header) (records : List OverflowRecord) (fork : Fork) (place : ℕ) → 0 < header.block_size
    → ((range : Range) → IsCovered (block_ranges header (extents_with records fork)) range → P range)
    → LooksAt P image (fork_leaves header records fork place)
unfolding fork_leaves tree_leaves
leaves_look P image header records fork place some guarded =
    looks_bind P image (given (found_fork header records fork place)) (λ found. tree_leaves place found.pieces) (looks_given P image (found_fork header records fork place))
    (λ found is. looks_bind P image (look_through found.pieces) (λ bytes. Done (leaves_of (tree_file bytes found.pieces place)))
    (through_looks P image header records fork place found some (sym (result_given image (found_fork header records fork place)) ∙ is) guarded)
    (λ bytes are. looks_done P image (leaves_of (tree_file bytes found.pieces place))))

-- ---- the guard has them

-- ranges that lie in those behind the first two
blocks_guarded : (first last : Range) (blocks : List Range) (byte : ℕ) → covers blocks byte ≡ true → covers (first ∷ last ∷ blocks) byte ≡ true
blocks_guarded first last blocks byte covered = or_right (in_range first byte) (covers (last ∷ blocks) byte) (or_right (in_range last byte) (covers blocks byte) covered)

extents_guarded : (header : Header) (overflow : List OverflowRecord) (range : Range) → IsCovered (block_ranges header (extents_with [] header.extents)) range → IsCovered (guard_ranges header overflow) range
extents_guarded header overflow range lies byte from to =
    let P : List Extent → Type 0 = λ extents. covers (block_ranges header extents) byte ≡ true in
    let catalog : List Range = block_ranges header (extents_with (records_of overflow 4 0) header.catalog) in
    blocks_guarded _ _ (block_ranges header header.extents.extents ++ catalog) byte
    (covers_front (block_ranges header header.extents.extents) catalog byte (subst P (append-nil header.extents.extents) (lies byte from to)))

catalog_guarded : (header : Header) (overflow : List OverflowRecord) (range : Range) → IsCovered (block_ranges header (extents_with (records_of overflow 4 0) header.catalog)) range
    → IsCovered (guard_ranges header overflow) range
catalog_guarded header overflow range lies byte from to =
    let catalog : List Range = block_ranges header (extents_with (records_of overflow 4 0) header.catalog) in
    blocks_guarded _ _ (block_ranges header header.extents.extents ++ catalog) byte (covers_back (block_ranges header header.extents.extents) catalog byte (lies byte from to))

overflow_looks : (image : List ℕ) (header : Header) (overflow : List OverflowRecord) → 0 < header.block_size → LooksAt (IsCovered (guard_ranges header overflow)) image (volume_overflow header)
unfolding volume_overflow
overflow_looks image header overflow some =
    let P : Range → Type 0 = IsCovered (guard_ranges header overflow) in
    looks_check P image (blocks_in header.extents.extents == header.extents.total_blocks) (Unsupported ExtentsFork (extents_at header))
    (λ whole. fork_leaves header [] header.extents (extents_at header) >>= (λ leaves. given (overflow_records leaves)))
    (λ whole. looks_bind P image (fork_leaves header [] header.extents (extents_at header)) (λ leaves. given (overflow_records leaves))
    (leaves_look P image header [] header.extents (extents_at header) some (extents_guarded header overflow))
    (λ leaves is. looks_given P image (overflow_records leaves)))

entries_look : (image : List ℕ) (header : Header) (overflow : List OverflowRecord) → 0 < header.block_size → LooksAt (IsCovered (guard_ranges header overflow)) image (volume_entries header overflow)
unfolding volume_entries
entries_look image header overflow some =
    let P : Range → Type 0 = IsCovered (guard_ranges header overflow) in
    looks_bind P image (fork_leaves header (records_of overflow 4 0) header.catalog (catalog_at header)) (λ leaves. given (catalog_entries leaves))
    (leaves_look P image header (records_of overflow 4 0) header.catalog (catalog_at header) some (catalog_guarded header overflow))
    (λ leaves is. looks_given P image (catalog_entries leaves))

-- ---- the header

-- a header that was read: it is that of the volume, and its blocks have bytes
record IsRead (at : ℕ) (header : Header) : Type 0 where
  same_at : header.at ≡ at
  some : 0 < header.block_size

pub some_bytes : (header : Header) → wrong_field header ≡ None → 0 < header.block_size
unfolding wrong_field is_block_size
some_bytes header none = grind (arith, nat_tests)

checked_gives : (at len : ℕ) (bytes : List ℕ) (header : Header) → checked (header_of at len bytes) (wrong_field (header_of at len bytes)) ≡ Ok header → IsRead at header
checked_gives at len bytes header is = either (wrong_field (header_of at len bytes)) refl is
  where
    same_header : (first second : Header) → (let a : Result Header Refusal = Ok first in let b : Result Header Refusal = Ok second in a ≡ b) → first ≡ second
    same_header first second same = cc

    same_place : (header_of at len bytes).at ≡ at
    same_place = unfold header_of in refl

    either : (wrong : Option ℕ) → wrong_field (header_of at len bytes) ≡ wrong → checked (header_of at len bytes) wrong ≡ Ok header → IsRead at header
    either (Some place) is same = absurd cc
    either None is same =
        let P : Header → Type 0 = λ h. IsRead at h in
        subst P (same_header (header_of at len bytes) header same) (record { same_at = same_place; some = some_bytes (header_of at len bytes) is })

header_read : (image : List ℕ) (at len : ℕ) (header : Header) → result_of image (volume_header at len) ≡ Ok header → IsRead at header
unfolding volume_header
header_read image at len header gives =
    let enough = check_gives image (nat_le 1028 len) NotThis _ header gives in
    let fits = check_gives image (is_magic (part image (at + 1024) 4)) NotThis _ header enough.1 in
    let long = check_gives image (nat_le 2560 len) (Damaged HeaderField (at + 1024)) _ header fits.1 in
    checked_gives at len (part image (at + 1024) 512) header (sym (result_given image (checked (header_of at len (part image (at + 1024) 512)) (wrong_field (header_of at len (part image (at + 1024) 512))))) ∙ long.1)

-- what a header is asked for
header_rest : ℕ → ℕ → Ask Refusal Header
header_rest at len = check (nat_le 2560 len) (Damaged HeaderField (at + 1024)) >>= (λ long. look (at + 1024) 512 >>= (λ bytes. given (checked (header_of at len bytes) (wrong_field (header_of at len bytes)))))

header_looks : (P : Range → Type 0) (image : List ℕ) (at len : ℕ) → P (record { at = at + 1024; len = 4 }) → P (record { at = at + 1024; len = 512 }) → LooksAt P image (volume_header at len)
unfolding volume_header header_rest
header_looks P image at len magic all =
    let read : List ℕ → Ask Refusal Header = λ bytes. given (checked (header_of at len bytes) (wrong_field (header_of at len bytes))) in
    let bytes : List ℕ = part image (at + 1024) 512 in
    looks_check P image (nat_le 1028 len) NotThis (λ enough. look (at + 1024) 4 >>= (λ bytes. check (is_magic bytes) NotThis >>= (λ fits. header_rest at len)))
    (λ enough. looks_look P image (at + 1024) 4 (λ bytes. check (is_magic bytes) NotThis >>= (λ fits. header_rest at len)) magic
    (looks_check P image (is_magic (part image (at + 1024) 4)) NotThis (λ fits. header_rest at len)
    (λ fits. looks_check P image (nat_le 2560 len) (Damaged HeaderField (at + 1024)) (λ long. look (at + 1024) 512 >>= read)
    (λ long. looks_look P image (at + 1024) 512 read all (looks_given P image (checked (header_of at len bytes) (wrong_field (header_of at len bytes))))))))

-- it lies in the volume's first 1,536 bytes
header_guarded : (at n : ℕ) (header : Header) (overflow : List OverflowRecord) → header.at ≡ at → n ≤ 512 → IsCovered (guard_ranges header overflow) (record { at = at + 1024; len = n })
header_guarded at n header overflow same few byte from to =
    let first : Range = record { at = header.at; len = 1536 } in
    let last : Range = record { at = header.at + header.len - 1024; len = 1024 } in
    let blocks : List Range = block_ranges header header.extents.extents ++ block_ranges header (extents_with (records_of overflow 4 0) header.catalog) in
    or_left (in_range first byte) (covers (last ∷ blocks) byte) (grind (arith, nat_tests))

-- ---- the files: nothing more is asked for

refuse_quiet : (P : Range → Type 0) (image : List ℕ) (sort : Sort) (entry : Option Entry) → LooksAt P image (refuse sort entry)
refuse_quiet P image sort None = looks_nowhere P image (refuse sort None) refl
refuse_quiet P image sort (Some entry) = looks_nowhere P image (refuse sort (Some entry)) refl

sound_quiet : (P : Range → Type 0) (image : List ℕ) (header : Header) (entries : List Entry) → LooksAt P image (sound_entries header entries)
unfolding sound_entries
sound_quiet P image header entries =
    looks_bind P image (refuse CatalogTwice (first_twice [] entries)) (λ once. check (has_folder entries 2) (Damaged FolderMissing (catalog_at header)) >>= (λ root. refuse FolderMissing (first_outside entries entries)))
    (refuse_quiet P image CatalogTwice (first_twice [] entries))
    (λ once is. looks_check P image (has_folder entries 2) (Damaged FolderMissing (catalog_at header)) (λ root. refuse FolderMissing (first_outside entries entries))
    (λ root. refuse_quiet P image FolderMissing (first_outside entries entries)))

names_quiet : (P : Range → Type 0) (image : List ℕ) (names : List (List ℕ)) → LooksAt P image (names_within names)
unfolding names_within
names_quiet P image names =
    looks_check P image (nat_le (length names) most_names) (Limit Names most_names) (λ few. check (nat_le (sum_by length names) most_path_bytes) (Limit PathBytes most_path_bytes))
    (λ few. looks_nowhere P image (check (nat_le (sum_by length names) most_path_bytes) (Limit PathBytes most_path_bytes)) (visits_check image (nat_le (sum_by length names) most_path_bytes) (Limit PathBytes most_path_bytes)))

files_quiet : (P : Range → Type 0) (image : List ℕ) (volume : ℕ) (header : Header) (overflow : List OverflowRecord) (named : List NamedEntry) → LooksAt P image (files_within volume header overflow named)
unfolding files_within
files_quiet P image volume header overflow named =
    let tested : List FileEntry → Ask Refusal (List FileEntry) = λ files. check (nat_le (run_count files) most_runs) (Limit Runs most_runs) >>= (λ few. Done files) in
    looks_bind P image (given (each_result (entry_file volume header overflow) named)) (λ files. given (each_result (special_file volume header overflow) (special_files header)) >>= (λ specials. tested (files ++ specials)))
    (looks_given P image (each_result (entry_file volume header overflow) named))
    (λ files is. looks_bind P image (given (each_result (special_file volume header overflow) (special_files header))) (λ specials. tested (files ++ specials))
    (looks_given P image (each_result (special_file volume header overflow) (special_files header)))
    (λ specials are. looks_check P image (nat_le (run_count (files ++ specials)) most_runs) (Limit Runs most_runs) (λ few. Done (files ++ specials)) (λ few. looks_done P image (files ++ specials))))

volume_quiet : (P : Range → Type 0) (image : List ℕ) (volume : ℕ) (header : Header) (overflow : List OverflowRecord) (entries : List Entry) → LooksAt P image (volume_files volume header overflow entries)
unfolding volume_files
volume_quiet P image volume header overflow entries =
    looks_bind P image (sound_entries header entries) (λ sound. given (named_entries entries) >>= (λ named. names_within (all_names header named) >>= (λ few. files_within volume header overflow named)))
    (sound_quiet P image header entries)
    (λ sound is. looks_bind P image (given (named_entries entries)) (λ named. names_within (all_names header named) >>= (λ few. files_within volume header overflow named))
    (looks_given P image (named_entries entries))
    (λ named are. looks_bind P image (names_within (all_names header named)) (λ few. files_within volume header overflow named)
    (names_quiet P image (all_names header named))
    (λ few these. files_quiet P image volume header overflow named)))

-- ---- the tree

same_value : {X : Type 0} (first second : X) → (let x : Result X Refusal = Ok first in let y : Result X Refusal = Ok second in x ≡ y) → first ≡ second
same_value first second same = cc

below_looks : (image : List ℕ) (size volume : ℕ) (header : Header) (overflow : List OverflowRecord) → 0 < header.block_size
    → result_of image (volume_overflow header) ≡ Ok overflow → LooksAt (IsCovered (guard_ranges header overflow)) image (tree_below size volume header)
unfolding tree_below
below_looks image size volume header overflow some is =
    let P : Range → Type 0 = IsCovered (guard_ranges header overflow) in
    looks_bind P image (volume_overflow header) (λ found. volume_entries header found >>= (λ entries. volume_files volume header found entries >>= (λ files. Done (tree_with size volume header found files))))
    (overflow_looks image header overflow some)
    (λ found are.
    let Q : List OverflowRecord → Type 0 = λ records. LooksAt P image (volume_entries header records >>= (λ entries. volume_files volume header records entries >>= (λ files. Done (tree_with size volume header records files)))) in
    subst Q (same_value overflow found (sym is ∙ are))
    (looks_bind P image (volume_entries header overflow) (λ entries. volume_files volume header overflow entries >>= (λ files. Done (tree_with size volume header overflow files)))
    (entries_look image header overflow some)
    (λ entries these. looks_bind P image (volume_files volume header overflow entries) (λ files. Done (tree_with size volume header overflow files))
    (volume_quiet P image volume header overflow entries)
    (λ files those. looks_done P image (tree_with size volume header overflow files)))))

-- a tree that was found: the header and the overflow records of its volume, and its guard
record IsFound (image : List ℕ) (at len volume : ℕ) (tree : TreeValue) : Type 0 where
  header : Header
  read : result_of image (volume_header at len) ≡ Ok header
  overflow : List OverflowRecord
  found : result_of image (volume_overflow header) ≡ Ok overflow
  guard : tree.guard ≡ longest_ranges (covers (guard_ranges header overflow)) 0 (length image)

tree_found : (image : List ℕ) (at len volume : ℕ) (tree : TreeValue) → result_of image (volume_tree (length image) at len volume) ≡ Ok tree → IsFound image at len volume tree
unfolding volume_tree tree_below guard_of
tree_found image at len volume tree gives =
    let size : ℕ = length image in
    let files_of : Header → List OverflowRecord → List Entry → Ask Refusal TreeValue = λ header overflow entries. volume_files volume header overflow entries >>= (λ files. Done (tree_with size volume header overflow files)) in
    let first = bind_gives image (volume_header at len) (λ header. check (nat_le size LONGEST_IMAGE) (Limit Image LONGEST_IMAGE) >>= (λ short. tree_below size volume header)) tree gives in
    let header : Header = first.0 in
    let short = check_gives image (nat_le size LONGEST_IMAGE) (Limit Image LONGEST_IMAGE) (λ short. tree_below size volume header) tree first.2 in
    let second = bind_gives image (volume_overflow header) (λ overflow. volume_entries header overflow >>= (λ entries. files_of header overflow entries)) tree short.1 in
    let overflow : List OverflowRecord = second.0 in
    let third = bind_gives image (volume_entries header overflow) (λ entries. files_of header overflow entries) tree second.2 in
    let fourth = bind_gives image (volume_files volume header overflow third.0) (λ files. Done (tree_with size volume header overflow files)) tree third.2 in
    record {
      header = header;
      read = first.1;
      overflow = overflow;
      found = second.1;
      guard = ap (λ found. found.guard) (sym (same_value (tree_with size volume header overflow fourth.0) tree fourth.2));
    }

tree_looks : (image : List ℕ) (size at len volume : ℕ) (header : Header) (overflow : List OverflowRecord) → result_of image (volume_header at len) ≡ Ok header → result_of image (volume_overflow header) ≡ Ok overflow
    → LooksAt (IsCovered (guard_ranges header overflow)) image (volume_tree size at len volume)
unfolding volume_tree
tree_looks image size at len volume header overflow read found =
    let P : Range → Type 0 = IsCovered (guard_ranges header overflow) in
    let is = header_read image at len header read in
    looks_bind P image (volume_header at len) (λ h. check (nat_le size LONGEST_IMAGE) (Limit Image LONGEST_IMAGE) >>= (λ short. tree_below size volume h))
    (header_looks P image at len (header_guarded at 4 header overflow is.same_at (omega arith)) (header_guarded at 512 header overflow is.same_at (omega arith)))
    (λ h other.
    let Q : Header → Type 0 = λ one. LooksAt P image (check (nat_le size LONGEST_IMAGE) (Limit Image LONGEST_IMAGE) >>= (λ short. tree_below size volume one)) in
    subst Q (same_value header h (sym read ∙ other))
    (looks_check P image (nat_le size LONGEST_IMAGE) (Limit Image LONGEST_IMAGE) (λ short. tree_below size volume header)
    (λ short. below_looks image size volume header overflow is.some found)))

-- images that agree on the longest ranges of the guard have the same bytes at each place of it
guard_agrees : (guard : List Range) (a b : List ℕ) → AgreeOn (longest_ranges (covers guard) 0 (length a)) a b → (byte : ℕ) → IsTrue (covers guard byte) → slice_get a byte ≡ slice_get b byte
guard_agrees guard a b agree byte covered =
    ⊎_elim
    (λ inside. agree.same_bytes byte (longest_ranges_covers (covers guard) (length a) byte inside ∙ covered))
    (λ past. slice_get_past a byte past ∙ sym (slice_get_past b byte (omega (arith, past, agree.same_length))))
    (cases_lt byte (length a))

pub hfs_footprint_law : HfsFootprintLaw
hfs_footprint_law a b at len volume tree gives agree =
    let found = tree_found a at len volume tree gives in
    let guard : List Range = guard_ranges found.header found.overflow in
    let ask : Ask Refusal TreeValue = volume_tree (length a) at len volume in
    let P : List Range → Type 0 = λ ranges. AgreeOn ranges a b in
    let same : AgreeOn (visits a ask) a b =
    agree_on_looks (λ byte. IsTrue (covers guard byte)) ask a b agree.same_length (guard_agrees guard a b (subst P found.guard agree))
    (tree_looks a (length a) at len volume found.header found.overflow found.read found.found) in
    ap (λ size. result_of b (volume_tree size at len volume)) (sym agree.same_length) ∙ result_agree ask a b same ∙ gives
