-- The program of the overflow records, step by step.
use Rattle.std.specs.Prelude.{◌≡◌, ◌≢◌, ◌⊎◌, true, false, ℕ, ◌+◌, ◌<◌, ◌≤◌, nat_le, ◌==◌, Result, Ok, Err, List, []}
use Rattle.std.proofs.Common.{sym, ◌∙◌, inl, inr}
use Rattle.std.proofs.lemmas.Bool.{le-leb, lt-leb}
use Rattle.std.proofs.lemmas.Bool.Decides.{Decides-eqb, eqb_tells}
use Rattle.range_defs.specs.declared.TheConstants.{LONGEST_IMAGE}
use Rattle.image_defs.specs.Ask.{Ask, result_of, given, ◌>>=◌}
use Rattle.image_defs.proofs.Results.{result_bind_ok, result_bind_err, result_check_true, result_check_false, result_given}
use Rattle.piece_defs.specs.Places.{bytes_through}
use Rattle.hfs_defs.specs.Forks.{blocks_in, found_fork}
use Rattle.hfs_defs.specs.Leaves.{LeafList, leaves_of, tree_file}
use Rattle.hfs_defs.specs.Overflow.{overflow_records}
use Rattle.hfs_defs.specs.TreeFiles.{extents_at, fork_leaves, volume_overflow}
use Rattle.hfs_defs.proofs.TreeFiles.{fork_leaves_found, fork_leaves_refused}
use Rattle.fault_defs.specs.declared.Refusal.{Refusal}
use Rattle.fault_defs.specs.declared.Refusal.TheVariants.{NotThis, Damaged, Unsupported, Limit}
use Rattle.fault_defs.specs.declared.Bound.TheVariants.{Image}
use Rattle.fault_defs.specs.declared.What.TheVariants.{ExtentsFork}
use Rattle.hfs_defs.specs.declared.header.Header.{Header}
use Rattle.rx_store.specs.Answers.{Answers}
use Rattle.rx_store.specs.declared.read_fault.ReadFault.{ReadFault}
use Rattle.rx_store.specs.declared.read_fault.ReadFault.TheVariants as read
use Rattle.hfs_extents.specs.declared.fork.ForkPieces.{ForkPieces}
use Rattle.hfs_extents.specs.Found.{found_in}
use Rattle.hfs_extents.specs.Overflow.{overflow_within, LeadsOn}

-- the leaf records of the extents file, and what they give
abbrev leaf_records : Header → Ask Refusal LeafList
leaf_records header = fork_leaves header [] header.extents (extents_at header)

-- a volume that ends behind the longest image
pub far : (header : Header) (image : List ℕ) → LONGEST_IMAGE < header.at + header.len → result_of image (overflow_within header) ≡ Err (Limit Image LONGEST_IMAGE)
unfolding overflow_within
far header image past = result_check_false image (nat_le (header.at + header.len) LONGEST_IMAGE) (Limit Image LONGEST_IMAGE) (λ _. volume_overflow header) (lt-leb (header.at + header.len) LONGEST_IMAGE past)

-- of any other it is the volume's
pub near : (header : Header) (image : List ℕ) → header.at + header.len ≤ LONGEST_IMAGE → result_of image (overflow_within header) ≡ result_of image (volume_overflow header)
unfolding overflow_within
near header image ends = result_check_true image (nat_le (header.at + header.len) LONGEST_IMAGE) (Limit Image LONGEST_IMAGE) (λ _. volume_overflow header) (le-leb (header.at + header.len) LONGEST_IMAGE ends)

pub eqb_apart : (a b : ℕ) → (a ≡ b → ⊥) → (a == b) ≡ false
eqb_apart a b apart = either (eqb_tells a b)
  where
    either : ((a == b) ≡ true) × (a ≡ b) ⊎ ((a == b) ≡ false) × (a ≢ b) → (a == b) ≡ false
    either (inl same) = absurd (apart same.1)
    either (inr other) = other.0

-- more blocks than the eight extents have
pub other_sum : (header : Header) (image : List ℕ) (sum : ℕ) → header.at + header.len ≤ LONGEST_IMAGE → sum ≡ blocks_in header.extents.extents → (sum ≡ header.extents.total_blocks → ⊥)
    → result_of image (overflow_within header) ≡ Err (Unsupported ExtentsFork (extents_at header))
unfolding volume_overflow
other_sum header image sum ends is other =
    near header image ends
    ∙ result_check_false image (blocks_in header.extents.extents == header.extents.total_blocks) (Unsupported ExtentsFork (extents_at header)) (λ _. leaf_records header >>= (λ leaves. given (overflow_records leaves)))
    (eqb_apart (blocks_in header.extents.extents) header.extents.total_blocks (λ same. other (is ∙ same)))

own_sum : (header : Header) (image : List ℕ) (sum : ℕ) → header.at + header.len ≤ LONGEST_IMAGE → sum ≡ blocks_in header.extents.extents → sum ≡ header.extents.total_blocks
    → result_of image (overflow_within header) ≡ result_of image (leaf_records header >>= (λ leaves. given (overflow_records leaves)))
unfolding volume_overflow
own_sum header image sum ends is same =
    near header image ends
    ∙ result_check_true image (blocks_in header.extents.extents == header.extents.total_blocks) (Unsupported ExtentsFork (extents_at header)) (λ _. leaf_records header >>= (λ leaves. given (overflow_records leaves)))
    ((Decides-eqb (blocks_in header.extents.extents) header.extents.total_blocks).1 (sym is ∙ same))

refuses : (header : Header) (sum : ℕ) (image : List ℕ) (refusal : Refusal) → header.at + header.len ≤ LONGEST_IMAGE → sum ≡ blocks_in header.extents.extents → sum ≡ header.extents.total_blocks
    → found_fork header [] header.extents (extents_at header) ≡ Err refusal → result_of image (overflow_within header) ≡ Err refusal
refuses header sum image refusal ends is same found =
    own_sum header image sum ends is same
    ∙ result_bind_err image (leaf_records header) (λ leaves. given (overflow_records leaves)) refusal (fork_leaves_refused image header [] header.extents (extents_at header) refusal found)

-- the fork of the extents file leads on, where its eight extents are all its blocks
pub leads : (header : Header) (sum : ℕ) (result : Result ForkPieces ReadFault) → header.at + header.len ≤ LONGEST_IMAGE → sum ≡ blocks_in header.extents.extents → sum ≡ header.extents.total_blocks
    → Answers (found_in result) (found_fork header [] header.extents (extents_at header)) → LeadsOn header result
leads header sum (Ok laid) ends is same found = λ image.
    own_sum header image sum ends is same
    ∙ result_bind_ok image (leaf_records header) (λ leaves. given (overflow_records leaves)) (leaves_of (tree_file (bytes_through image laid.pieces) laid.pieces (extents_at header)))
    (fork_leaves_found image header [] header.extents (extents_at header) (record { pieces = laid.pieces; slack = laid.slack }) found)
    ∙ result_given image (overflow_records (leaves_of (tree_file (bytes_through image laid.pieces) laid.pieces (extents_at header))))
leads header sum (Err read.Device) ends is same found = λ image. tt
leads header sum (Err read.NoMemory) ends is same found = λ image. tt
leads header sum (Err read.NotThis) ends is same found = λ image. refuses header sum image NotThis ends is same found
leads header sum (Err (read.Damaged sort place)) ends is same found = λ image. refuses header sum image (Damaged sort place) ends is same found
leads header sum (Err (read.Unsupported what place)) ends is same found = λ image. refuses header sum image (Unsupported what place) ends is same found
leads header sum (Err (read.Limit bound number)) ends is same found = λ image. refuses header sum image (Limit bound number) ends is same found
