-- The name that an entry gives.
use Rattle.std.specs.Prelude.{◌≡◌, ◌≢◌, ℕ, ◌+◌, ◌*◌, ◌≤◌, All, Bool, true, false, ◌&&◌, nat_le, nat_lt, IfOk, OnOk, IsErr, IsErrAnd, Option, Result, Ok, Err, List, length, refl, if◌then◌else◌}
use Rattle.std.proofs.Common.{arith, ap, sym, subst}
use Rattle.range_defs.specs.declared.Range.{Range}
use Rattle.image_reads.specs.Steps.{ReadsAs}
use Rattle.std.proofs.lemmas.Bool.{leb-true}
use Rattle.std.proofs.lemmas.List.Elements.{All-push}
use Rattle.image_defs.specs.Ask.{Ask, Stop, check, ◌>>=◌}
use Rattle.disk_defs.specs.Count.{Faults}
use Rattle.disk_defs.specs.declared.Area.TheVariants.{Image}
use Rattle.fault_defs.specs.declared.Refusal.{Refusal}
use Rattle.fault_defs.specs.declared.Refusal.TheVariants as refusal
use Rattle.fault_defs.specs.declared.Bound.TheVariants.{Path}
use Rattle.rx_store.specs.Answers.{Answers}
use Rattle.rx_store.specs.ReadFaults.{IsReadCounted}
use Rattle.rx_store.specs.declared.read_fault.ReadFault.{ReadFault}
use Rattle.rx_store.specs.declared.read_fault.ReadFault.TheVariants.{Device, NoMemory, NotThis, Damaged, Unsupported, Limit}
use Rattle.ufs_blocks.specs.UnderWay.{Settles}
use Rattle.ufs_inode_defs.specs.Layout.{layout_of}
use Rattle.ufs_inode_defs.specs.Superblock.{has_inode, inode_place}
use Rattle.ufs_inode_defs.specs.Inode.{is_directory, inode_named}
use Rattle.ufs_inode_defs.specs.declared.superblock.Super.{Super}
use Rattle.ufs_inode_defs.specs.declared.inode.Inode.{Inode}
use Rattle.ufs_volume_defs.specs.Directory.{Entry}
use Rattle.ufs_volume_defs.specs.Names.{Named, Walk, Block, counted_name, found_name, is_known, name_by, with_name, path_bytes, longest_path, most_names, most_path_bytes}
use Rattle.ufs_names.specs.Walked.{IsNamed, IsWalked, limited_path, limited_name}

-- ---- results

pub on_ok : {X E : Type 0} (P : Type 0) (result : Result X E) → P → OnOk result P
on_ok P (Ok x) holds = holds
on_ok P (Err e) holds = tt

-- a step that isn't the device's fault counts none
pub counted_calm : {X : Type 0} (result : Result X ReadFault) (before now : Faults) → result ≢ Err Device → now ≡ before → IsReadCounted Image result before now
counted_calm (Ok x) before now calm same = same
counted_calm (Err Device) before now calm same = absurd (calm refl)
counted_calm (Err NoMemory) before now calm same = same
counted_calm (Err NotThis) before now calm same = same
counted_calm (Err (Damaged sort place)) before now calm same = same
counted_calm (Err (Unsupported what place)) before now calm same = same
counted_calm (Err (Limit bound number)) before now calm same = same

-- a fault that is handed on
pub settles_with : {X : Type 0} (program : Ask Refusal X) (result : Result X ReadFault) (fault : ReadFault) → IsErr result → IsErrAnd result (λ other. other ≡ fault)
    → (let ends : Result X ReadFault = Err fault in Settles ends program) → Settles result program
settles_with program (Ok x) fault is passed settles = absurd cc
settles_with {X = X} program (Err other) fault is passed settles = let P : ReadFault → Type 0 = λ f. (let ends : Result X ReadFault = Err f in Settles ends program) in subst P (sym passed) settles

answers_with : {X : Type 0} (given : Result X Refusal) (result : Result X ReadFault) (fault : ReadFault) → IsErr result → IsErrAnd result (λ other. other ≡ fault)
    → (let ends : Result X ReadFault = Err fault in Answers ends given) → Answers result given
answers_with given (Ok x) fault is passed says = absurd cc
answers_with {X = X} given (Err other) fault is passed says = let P : ReadFault → Type 0 = λ f. (let ends : Result X ReadFault = Err f in Answers ends given) in subst P (sym passed) says

-- ---- a path that is too long

-- a fault of a value that is limited says the same of any program and value with this limit
named_by : (test : Bool) (path : List ℕ) (name : Named) (fault : ReadFault)
    → (let from : Result (List ℕ) ReadFault = Err fault in Answers from (if test then Ok path else Err (refusal.Limit Path longest_path)))
    → (let ends : Result Named ReadFault = Err fault in Answers ends (if test then Ok name else Err (refusal.Limit Path longest_path)))
named_by test path name Device says = tt
named_by test path name NoMemory says = tt
named_by true path name NotThis says = absurd cc
named_by false path name NotThis says = absurd cc
named_by true path name (Damaged sort place) says = absurd cc
named_by false path name (Damaged sort place) says = absurd cc
named_by true path name (Unsupported what place) says = absurd cc
named_by false path name (Unsupported what place) says = absurd cc
named_by true path name (Limit bound number) says = absurd cc
named_by false path name (Limit bound number) says = let same : refusal.Limit Path longest_path ≡ refusal.Limit bound number = cc in ap Err same

pub name_too_long : (name : Named) (path : List ℕ) (result : Result Named ReadFault) (fault : ReadFault) → IsErr result → IsErrAnd result (λ other. other ≡ fault)
    → path ≡ name.path → (let from : Result (List ℕ) ReadFault = Err fault in Answers from (limited_path path)) → Answers result (limited_name name)
name_too_long name path result fault is passed same says =
    let P : List ℕ → Type 0 = λ one. (let from : Result (List ℕ) ReadFault = Err fault in Answers from (limited_path one)) in
    answers_with (limited_name name) result fault is passed (named_by (nat_le (length name.path) longest_path) name.path name fault (subst P same says))

stops_by : (test : Bool) (name : Named) (next : Unit {0} → Ask Refusal Walk) (fault : ReadFault)
    → (let from : Result Named ReadFault = Err fault in Answers from (if test then Ok name else Err (refusal.Limit Path longest_path)))
    → (let ends : Result Walk ReadFault = Err fault in Settles ends (check test (refusal.Limit Path longest_path) >>= next))
stops_by test name next Device says = tt
stops_by test name next NoMemory says = tt
stops_by true name next NotThis says = absurd cc
stops_by false name next NotThis says = absurd cc
stops_by true name next (Damaged sort place) says = absurd cc
stops_by false name next (Damaged sort place) says = absurd cc
stops_by true name next (Unsupported what place) says = absurd cc
stops_by false name next (Unsupported what place) says = absurd cc
stops_by true name next (Limit bound number) says = absurd cc
stops_by false name next (Limit bound number) says = let same : refusal.Limit Path longest_path ≡ refusal.Limit bound number = cc in ap Stop same

path_stops : (walk : Walk) (name : Named) (fault : ReadFault) → (let from : Result Named ReadFault = Err fault in Answers from (limited_name name))
    → (let ends : Result Walk ReadFault = Err fault in Settles ends (counted_name walk name))
unfolding counted_name
path_stops walk name fault says = stops_by (nat_le (length name.path) longest_path) name _ fault says

-- the name is counted where it is no directory that has one
found_counted : (sup : Super) (directory : Named) (block : Block) (walk : Walk) (entry : Entry) (inode : Inode) → (is_directory inode && is_known entry.inode walk.names) ≡ false
    → found_name sup directory block walk entry inode ≡ counted_name walk (name_by sup directory block entry inode)
found_counted sup directory block walk entry inode new = rw new refl

pub found_too_long : (sup : Super) (directory : Named) (block : Block) (walk : Walk) (entry : Entry) (inode : Inode) (result : Result Walk ReadFault) (fault : ReadFault)
    → IsErr result → IsErrAnd result (λ other. other ≡ fault) → (is_directory inode && is_known entry.inode walk.names) ≡ false
    → (let from : Result Named ReadFault = Err fault in Answers from (limited_name (name_by sup directory block entry inode)))
    → Settles result (found_name sup directory block walk entry inode)
found_too_long sup directory block walk entry inode result fault is passed new says =
    let P : Ask Refusal Walk → Type 0 = λ program. Settles result program in
    subst P (sym (found_counted sup directory block walk entry inode new))
    (settles_with (counted_name walk (name_by sup directory block entry inode)) result fault is passed (path_stops walk (name_by sup directory block entry inode) fault says))

-- ---- a walk with one more name

pub walked_more : (sup : Super) (walk : Walk) (name : Named) (result : Result Walk ReadFault) → IsWalked sup walk → IsNamed sup name → IfOk result (λ after. after ≡ with_name walk name)
    → IfOk result (λ after. length after.names ≤ most_names) → IfOk result (λ after. path_bytes after.names ≤ most_path_bytes) → IfOk result (IsWalked sup)
walked_more sup walk name (Ok after) walked named is few short = record {
  named = subst (λ names. All (IsNamed sup) names) (ap (λ one. one.names) (sym is)) (All-push (IsNamed sup) walk.names name walked.named named);
  few = few;
  short = short;
  runs = omega (arith, walked.runs, ap (λ one. one.runs) is);
}
walked_more sup walk name (Err fault) walked named is few short = tt

-- ---- the inode of an entry lies in the volume

pub inode_inside : (sup : Super) (number : ℕ) → has_inode sup number ≡ true → inode_place sup number + (layout_of sup.version).inode_len ≤ sup.at + sup.len
unfolding has_inode
inode_inside sup number has = leb-true (inode_place sup number + (layout_of sup.version).inode_len) (sup.at + sup.len) (second (nat_lt number (sup.ncg * sup.ipg)) _ has)
  where
    second : (a b : Bool) → (a && b) ≡ true → b ≡ true
    second true b both = both
    second false b both = absurd cc

-- a look at the inode of a number and an entry that are written in other words
pub named_as : (told : Option (List ℕ)) (sup : Super) (before looked : List Range) (number other place there : ℕ) (result : Result Inode ReadFault) → number ≡ other → place ≡ there
    → ReadsAs told (inode_named sup number place) before looked result → ReadsAs told (inode_named sup other there) before looked result
named_as told sup before looked number other place there result same at read =
    let P : ℕ → Type 0 = λ n. ReadsAs told (inode_named sup n place) before looked result in
    let Q : ℕ → Type 0 = λ n. ReadsAs told (inode_named sup other n) before looked result in
    subst Q at (subst P same read)
