-- What the reader of an image answers.
use Rattle.std.specs.Prelude.{◌≡◌, Option, Some, None, IfSome, Result, Ok, Err, ℕ, List}
use Rattle.disk_defs.specs.Count.{Faults}
use Rattle.disk_defs.specs.declared.Area.TheVariants as area
use Rattle.fault_defs.specs.declared.Refusal.{Refusal}
use Rattle.fault_defs.specs.declared.Refusal.TheVariants as refusals
use Rattle.rx_store.specs.ReadFaults.{IsFaultCounted}
use Rattle.rx_store.specs.declared.read_fault.ReadFault.{ReadFault}
use Rattle.rx_store.specs.declared.read_fault.ReadFault.TheVariants.{Device, NoMemory, NotThis, Damaged, Unsupported, Limit}
use Rattle.rx_tree.specs.TreeValue.{TreeValue}
use Rattle.tree_defs.specs.Kind.{other_kind, IsOtherKind}
use Rattle.tree_defs.specs.ImageTree.{image_tree}
use Rattle.image_reader.specs.declared.fault.ImageFault.{ImageFault}
use Rattle.image_reader.specs.declared.fault.ImageFault.TheVariants.{OtherKind, Read}

-- the refusal of the definitions that a fault of reading hands on, where it is one
abbrev pub refusal_of : ReadFault → Option Refusal
refusal_of Device = None
refusal_of NoMemory = None
refusal_of NotThis = Some refusals.NotThis
refusal_of (Damaged sort place) = Some (refusals.Damaged sort place)
refusal_of (Unsupported what place) = Some (refusals.Unsupported what place)
refusal_of (Limit bound number) = Some (refusals.Limit bound number)

-- an image, which is of no other kind, has this tree, or this refusal in place of one
abbrev pub HasTree : List ℕ → Result TreeValue Refusal → Type 0
HasTree image given = (other_kind image ≡ None) × (image_tree image ≡ given)

-- what an answer tells of the image: its tree, that it is of another kind, or why it has no tree. A device that failed and memory
-- that ran out tell nothing
abbrev pub TellsTree : Result TreeValue ImageFault → List ℕ → Type 0
TellsTree (Ok tree) image = HasTree image (Ok tree)
TellsTree (Err OtherKind) image = IsOtherKind image
TellsTree (Err (Read fault)) image = IfSome (refusal_of fault) (λ refusal. HasTree image (Err refusal))

-- the counts of a store before and after: only a device's fault counts one, on the image
abbrev pub IsImageCounted : {T : Type 0} → Result T ImageFault → Faults → Faults → Type 0
IsImageCounted (Ok answer) before now = now ≡ before
IsImageCounted (Err OtherKind) before now = now ≡ before
IsImageCounted (Err (Read fault)) before now = IsFaultCounted area.Image fault before now
