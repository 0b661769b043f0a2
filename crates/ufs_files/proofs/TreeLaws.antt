-- What the tree of a volume rests on.
use Rattle.std.specs.Prelude.{◌≡◌, ℕ, ◌+◌, ◌≤◌, ◌==◌, false, Result, Ok, Err, IfOk, IsTrue, List, [], ◌∷◌}
use Rattle.std.specs.List.{All}
use Rattle.std.proofs.Common.{ap, sym, ◌∙◌, arith}
use Rattle.std.proofs.lemmas.Bool.{or_left}
use Rattle.std.proofs.lemmas.Bool.Decides.{Decides-eqb}
use Rattle.std.proofs.lemmas.List.Elements.{All-cons, All-nil, All-weaker}
use Rattle.range_defs.specs.declared.Range.{Range}
use Rattle.range_defs.specs.declared.TheConstants.{LONGEST_IMAGE}
use Rattle.range_defs.specs.Places.{covers, IsRangeList, longest_ranges, EndsInReach}
use Rattle.range_defs.proofs.RangeLaws.{same_range_list, same_as_longest_ranges, ends_where_covered, covers-past}
use Rattle.rx_ranges.specs.declared.pieces.Piece.{Piece}
use Rattle.rx_ranges.specs.declared.pieces.PieceKind.{PieceKind}
use Rattle.rx_ranges.specs.declared.pieces.PieceKind.TheVariants.{Disk, Zero}
use Rattle.piece_defs.specs.Places.{IsWithin}
use Rattle.rx_tree.specs.PartValue.{PartValue}
use Rattle.rx_tree.specs.TreeValue.{TreeValue}
use Rattle.rx_tree.specs.Within.{AreRangesWithin, ArePiecesWithin, ArePartsWithin, AreFilesWithin, IsWithin as IsTreeWithin}
use Rattle.rx_tree.specs.Order.{AreInVolumes, has_number}
use Rattle.rx_tree.specs.declared.file.FileEntry.{FileEntry}
use Rattle.rx_tree.specs.declared.volume.Volume.{Volume}
use Rattle.ufs_volume_defs.specs.Volume.{FoundVolume, kind_of_version, tree_of}

-- the kept list of no byte is empty
pub none_is : (list : List Range) → IsRangeList list → ((byte : ℕ) → covers list byte ≡ covers [] byte) → list ≡ []
none_is list kept agree = same_range_list list [] kept tt agree

-- ranges in an image end in reach
pub in_reach : (ranges : List Range) (size : ℕ) → size ≤ LONGEST_IMAGE → AreRangesWithin size ranges → All EndsInReach ranges
in_reach ranges size reach within = All-weaker (λ (range : Range). range.at + range.len ≤ size) EndsInReach (λ range ends. omega (arith, ends, reach)) ranges within

-- the kept list of the bytes of some ranges lies where they lie
pub kept_within : (list ranges : List Range) (end : ℕ) → IsRangeList list → ((byte : ℕ) → covers list byte ≡ covers ranges byte) → AreRangesWithin end ranges → AreRangesWithin end list
kept_within list ranges end kept agree within =
    ends_where_covered list end kept (λ byte past. agree byte ∙ covers-past end byte ranges within past)

-- and it is the list of the longest ranges of those bytes
pub guard_is : (list ranges : List Range) (end : ℕ) → IsRangeList list → ((byte : ℕ) → covers list byte ≡ covers ranges byte) → AreRangesWithin end ranges
    → list ≡ longest_ranges (covers ranges) 0 end
guard_is list ranges end kept agree within =
    same_as_longest_ranges (covers ranges) end list kept agree (kept_within list ranges end kept agree within)

-- what holds of a result's value follows from what else holds of it
pub ok_map : {T E : Type 0} {A B C : T → Type 0} (result : Result T E) → IfOk result A → IfOk result B → ((x : T) → A x → B x → C x) → IfOk result C
ok_map (Ok x) first second follows = follows x first second
ok_map (Err e) first second follows = tt

-- all that the tree says lies in the image
pub tree_within : (size number : ℕ) (volume : Range) (guard : List Range) (found : FoundVolume) → size ≤ LONGEST_IMAGE → volume.at + volume.len ≤ size → AreFilesWithin size found.files → AreRangesWithin size guard
    → IsTreeWithin (tree_of size volume number guard found)
tree_within size number volume guard found reach inside within guarded =
    let one : Volume = record { number = number; kind = kind_of_version found.superblock.version; at = volume.at; len = volume.len } in
    record {
      in_reach = reach;
      volumes = All-cons (λ (v : Volume). v.at + v.len ≤ size) one [] inside (All-nil (λ (v : Volume). v.at + v.len ≤ size));
      unread = All-nil (λ (range : Range). range.at + range.len ≤ size);
      files = within;
      guard = guarded;
    }

-- files of the one volume are in the volumes
pub in_one : (volume : Volume) (number : ℕ) (files : List FileEntry) → volume.number ≡ number → All (λ file. file.id.volume ≡ number) files → AreInVolumes (volume ∷ []) files
in_one volume number files is all =
    All-weaker (λ (file : FileEntry). file.id.volume ≡ number) (λ (file : FileEntry). IsTrue (has_number file.id.volume (volume ∷ [])))
    (λ file same. or_left (volume.number == file.id.volume) false ((Decides-eqb volume.number file.id.volume).1 (is ∙ sym same))) files all

-- the parts of the tree
pub tree_is : (size number : ℕ) (volume : Range) (found : FoundVolume) (volumes : List Volume) (unread guard : List Range) (files : List FileEntry)
    → volumes ≡ record { number = number; kind = kind_of_version found.superblock.version; at = volume.at; len = volume.len } ∷ [] → unread ≡ [] → files ≡ found.files
    → tree_of size volume number guard found ≡ record { image_len = size; volumes = volumes; unread = unread; files = files; guard = guard }
tree_is size number volume found volumes unread guard files one none are =
    let T : List Volume → List Range → List FileEntry → TreeValue = λ v u f. record { image_len = size; volumes = v; unread = u; files = f; guard = guard } in
    ap (λ v. T v [] found.files) (sym one) ∙ ap (λ u. T volumes u found.files) (sym none) ∙ ap (λ f. T volumes unread f) (sym are)

-- ---- what lies in a volume lies in the image

piece_wider : (kind : PieceKind) (at len short wide : ℕ) → short ≤ wide → IsWithin short kind at len → IsWithin wide kind at len
piece_wider Disk at len short wide low within = omega (arith, low, within)
piece_wider Zero at len short wide low within = tt

pub files_wider : (files : List FileEntry) (short wide : ℕ) → short ≤ wide → AreFilesWithin short files → AreFilesWithin wide files
files_wider files short wide low within =
    All-weaker (λ (file : FileEntry). ArePartsWithin short file.parts) (λ (file : FileEntry). ArePartsWithin wide file.parts)
    (λ file parts.
    All-weaker (λ (part : PartValue). ArePiecesWithin short part.pieces × AreRangesWithin short part.slack) (λ (part : PartValue). ArePiecesWithin wide part.pieces × AreRangesWithin wide part.slack)
    (λ part both. (
      All-weaker (λ (piece : Piece). IsWithin short piece.kind piece.at piece.len) (λ (piece : Piece). IsWithin wide piece.kind piece.at piece.len) (λ piece one. piece_wider piece.kind piece.at piece.len short wide low one) part.pieces both.0,
      All-weaker (λ (range : Range). range.at + range.len ≤ short) (λ (range : Range). range.at + range.len ≤ wide) (λ range ends. omega (arith, ends, low)) part.slack both.1,
    ))
    file.parts parts)
    files within
