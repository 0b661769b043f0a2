-- Parts of a journal that were read, one behind the other.
use Rattle.std.specs.Prelude.{◌≡◌, ℕ, ◌+◌, ◌-◌, ◌<◌, ◌≤◌, All, None, Option, Some, IfOk, IfSome, Result, Ok, Err, List, [], ◌++◌, refl, length, take, drop}
use Rattle.std.proofs.Common.{ap, sym, subst, ◌∙◌, arith}
use Rattle.std.proofs.lemmas.List.{drop-drop, drop-take, length-append, take-append-drop, take-take, take_all}
use Rattle.std.proofs.lemmas.List.Elements.{All-append, All-nil}
use Rattle.std.proofs.Math.Seq.{drop-append_seam, take-append_seam, take-length}
use Rattle.bytes_defs.specs.Bytes.{part}
use Rattle.journal_defs.specs.Checks.{Check, first_failing}
use Rattle.journal_format.specs.Says.{FailsAs, FailsWith}
use Rattle.journal_format.specs.Parts.{IsPart, ReadsPart, IsWindow, HasBytes}
use Rattle.journal_format.specs.declared.fault.JournalFault.{JournalFault}
use Rattle.journal_format.specs.declared.window.TheConstants.{WINDOW_LEN}
use Rattle.journal_format.specs.declared.window.Window.{Window}

-- the first bytes of a part, and those behind them
part_front : (bytes : List ℕ) (from n m : ℕ) → part bytes from n ≡ take n (part bytes from (n + m))
unfolding part
part_front bytes from n m = sym (take-take n (n + m) (drop from bytes) (omega arith))

part_behind : (bytes : List ℕ) (from n m : ℕ) → part bytes (from + n) m ≡ drop n (part bytes from (n + m))
unfolding part
part_behind bytes from n m = ap (take m) (sym (drop-drop n from bytes)) ∙ sym (drop-take n m (drop from bytes))

part_two : (bytes : List ℕ) (from n m : ℕ) → part bytes from (n + m) ≡ part bytes from n ++ part bytes (from + n) m
part_two bytes from n m =
    sym (take-append-drop n (part bytes from (n + m))) ∙ ap (λ front. front ++ drop n (part bytes from (n + m))) (sym (part_front bytes from n m))
    ∙ ap (λ behind. part bytes from n ++ behind) (sym (part_behind bytes from n m))

-- parts that are the same have the same parts
pub part_in : (one two : List ℕ) (from to n i len : ℕ) → part one from n ≡ part two to n → i + len ≤ n → part one (from + i) len ≡ part two (to + i) len
part_in one two from to n i len same inside =
    let r = n - i - len in
    let all : i + (len + r) ≡ n = omega (arith, inside) in
    let whole : part one from (i + (len + r)) ≡ part two to (i + (len + r)) = ap (part one from) all ∙ same ∙ ap (part two to) (sym all) in
    part_front one (from + i) len r ∙ ap (take len) (part_behind one from i (len + r) ∙ ap (drop i) whole ∙ sym (part_behind two to i (len + r))) ∙ sym (part_front two (to + i) len r)

-- what stands there of two lists one behind the other
front_is : (whole one two : List ℕ) (from : ℕ) → part whole from (length (one ++ two)) ≡ one ++ two → part whole from (length one) ≡ one
front_is whole one two from there =
    part_front whole from (length one) (length two) ∙ ap (λ n. take (length one) (part whole from n)) (sym (length-append one two)) ∙ ap (take (length one)) there ∙ take-append_seam one two

behind_is : (whole one two : List ℕ) (from : ℕ) → part whole from (length (one ++ two)) ≡ one ++ two → part whole (from + length one) (length two) ≡ two
behind_is whole one two from there =
    part_behind whole from (length one) (length two) ∙ ap (λ n. drop (length one) (part whole from n)) (sym (length-append one two)) ∙ ap (drop (length one)) there ∙ drop-append_seam one two

both_there : (whole one two : List ℕ) (from : ℕ) → part whole from (length one) ≡ one → part whole (from + length one) (length two) ≡ two → part whole from (length (one ++ two)) ≡ one ++ two
both_there whole one two from first second =
    ap (part whole from) (length-append one two) ∙ part_two whole from (length one) (length two) ∙ ap (λ front. front ++ part whole (from + length one) (length two)) first ∙ ap (λ behind. one ++ behind) second

-- what is said of what was read is so of the journal that is told
pub told_says : {told : Option (List ℕ)} {from to : ℕ} {P : List ℕ → Type 0} → IsPart told from to P → IfSome told P
told_says {told} {from} {to} {P} read = by_told told read
  where
    by_told : (told : Option (List ℕ)) → IsPart told from to P → IfSome told P
    by_told None read = tt
    by_told (Some journal) read = read.says journal read.are_told

pub part_weaker : {told : Option (List ℕ)} {from to : ℕ} {P Q : List ℕ → Type 0} → ((whole : List ℕ) → P whole → Q whole) → IsPart told from to P → IsPart told from to Q
part_weaker more read = record { bytes = read.bytes; are_bytes = read.are_bytes; reaches = read.reaches; are_told = read.are_told; says = λ whole there. more whole (read.says whole there) }

pub part_to : {told : Option (List ℕ)} {from to : ℕ} {P : List ℕ → Type 0} (end : ℕ) → to ≡ end → IsPart told from to P → IsPart told from end P
part_to end same read = record { bytes = read.bytes; are_bytes = read.are_bytes; reaches = read.reaches ∙ same; are_told = read.are_told; says = read.says }

-- a store tells the same as before
pub part_told : {told later : Option (List ℕ)} {from to : ℕ} {P : List ℕ → Type 0} → later ≡ told → IsPart later from to P → IsPart told from to P
part_told {told} {later} {from} {to} {P} same read = let At : Option (List ℕ) → Type 0 = λ told. IsPart told from to P in subst At same read

-- no byte was read yet
pub no_part : (told : Option (List ℕ)) (at : ℕ) (P : List ℕ → Type 0) → ((whole : List ℕ) → P whole) → IsPart told at at P
unfolding part
no_part told at P holds = record { bytes = []; are_bytes = All-nil (λ byte. byte < 256); reaches = omega arith; are_told = none told; says = λ whole there. holds whole }
  where
    none : (told : Option (List ℕ)) → IfSome told (λ journal. part journal at 0 ≡ [])
    none None = tt
    none (Some journal) = refl

-- and of those bytes themselves, where they are the first ones
pub own_says : {told : Option (List ℕ)} {to : ℕ} {P : List ℕ → Type 0} (read : IsPart told 0 to P) → P read.bytes
unfolding part
own_says read = read.says read.bytes (take-length read.bytes)

-- two parts one behind the other
pub part_more : {told : Option (List ℕ)} {a b c : ℕ} {P Q R : List ℕ → Type 0} → ((whole : List ℕ) → P whole → Q whole → R whole) → IsPart told a b P → IsPart told b c Q → IsPart told a c R
part_more {told} {a} {b} {c} {P} {Q} {R} more first second = record {
  bytes = first.bytes ++ second.bytes;
  are_bytes = All-append (λ byte. byte < 256) first.bytes second.bytes first.are_bytes second.are_bytes;
  reaches = omega (arith, length-append first.bytes second.bytes, first.reaches, second.reaches);
  are_told = by_told told first.are_told second.are_told;
  says = λ whole there. more whole (first.says whole (front_is whole first.bytes second.bytes a there)) (second.says whole (at_b whole (behind_is whole first.bytes second.bytes a there)));
}
  where
    at_b : (whole : List ℕ) → part whole (a + length first.bytes) (length second.bytes) ≡ second.bytes → part whole b (length second.bytes) ≡ second.bytes
    at_b whole there = ap (λ place. part whole place (length second.bytes)) (sym first.reaches) ∙ there

    by_told : (told : Option (List ℕ)) → IfSome told (λ journal. part journal a (length first.bytes) ≡ first.bytes) → IfSome told (λ journal. part journal b (length second.bytes) ≡ second.bytes)
        → IfSome told (λ journal. part journal a (length (first.bytes ++ second.bytes)) ≡ first.bytes ++ second.bytes)
    by_told None one two = tt
    by_told (Some journal) one two =
        both_there journal first.bytes second.bytes a one (ap (λ place. part journal place (length second.bytes)) first.reaches ∙ two)

-- the first bytes of a buffer, into which a part was read
pub first_read : (told : Option (List ℕ)) (buf rest : List ℕ) (at len : ℕ) → length buf ≡ len → IfSome told (λ journal. buf ≡ part journal at (length buf))
    → IfSome told (λ journal. part (buf ++ rest) 0 len ≡ part journal at len)
unfolding part
first_read None buf rest at len long read = tt
first_read (Some journal) buf rest at len long read =
    ap (λ n. take n (buf ++ rest)) (sym long) ∙ take-append_seam buf rest ∙ read ∙ ap (λ n. take n (drop at journal)) long

no_bytes : (bytes : List ℕ) (at n : ℕ) → n ≡ 0 → part bytes at n ≡ []
unfolding part
no_bytes bytes at n none = ap (λ n. take n (drop at bytes)) none

-- a window of which nothing is read
pub new_window : (told : Option (List ℕ)) (size : ℕ) (window : Window) → length window.room.items ≡ WINDOW_LEN → window.filled ≡ 0 → window.size ≡ size → IsWindow told size window
new_window told size window room filled sized = record { room = room; filled = omega (arith, filled); sized = sized; tells = by_told told }
  where
    by_told : (told : Option (List ℕ)) → IfSome told (λ journal. part window.room.items 0 window.filled ≡ part journal window.place window.filled)
    by_told None = tt
    by_told (Some journal) = no_bytes window.room.items 0 window.filled filled ∙ sym (no_bytes journal window.place window.filled filled)

-- bytes of a window are those of the journal that is told
pub window_tells : (told : Option (List ℕ)) (size at len : ℕ) (window : Window) (bytes : List ℕ) → IsWindow told size window → HasBytes window at len → bytes ≡ part window.room.items (at - window.place) len
    → IfSome told (λ journal. bytes ≡ part journal at len)
window_tells told size at len window bytes is has here = by_told told is.tells
  where
    by_told : (told : Option (List ℕ)) → IfSome told (λ journal. part window.room.items 0 window.filled ≡ part journal window.place window.filled) → IfSome told (λ journal. bytes ≡ part journal at len)
    by_told None tells = tt
    by_told (Some journal) tells =
        let place : window.place + (at - window.place) ≡ at = omega (arith, has.0) in
        let first : 0 + (at - window.place) ≡ at - window.place = omega arith in
        here ∙ ap (λ from. part window.room.items from len) (sym first)
        ∙ part_in window.room.items journal 0 window.place window.filled (at - window.place) len tells (omega (arith, has.0, has.1)) ∙ ap (λ from. part journal from len) place

-- bytes that were read are a part
pub part_read : (told : Option (List ℕ)) (at len : ℕ) (P : List ℕ → Type 0) (bytes : List ℕ) → All (λ byte. byte < 256) bytes → length bytes ≡ len → IfSome told (λ journal. bytes ≡ part journal at len)
    → ((whole : List ℕ) → part whole at len ≡ bytes → P whole) → IsPart told at (at + len) P
part_read told at len P bytes fit long tells says =
    record { bytes = bytes; are_bytes = fit; reaches = ap (λ n. at + n) long; are_told = there told tells; says = λ whole here. says whole (ap (part whole at) (sym long) ∙ here) }
  where
    there : (told : Option (List ℕ)) → IfSome told (λ journal. bytes ≡ part journal at len) → IfSome told (λ journal. part journal at (length bytes) ≡ bytes)
    there None tells = tt
    there (Some journal) tells = ap (part journal at) long ∙ sym tells

-- what they give is what reading the part answers
pub reads_part : {X : Type 0} (told : Option (List ℕ)) (at len : ℕ) (Given : List ℕ → Type 0) (checks : List ℕ → List Check) (Is : X → List ℕ → Type 0) (bytes : List ℕ) (result : Result X JournalFault)
    → All (λ byte. byte < 256) bytes → length bytes ≡ len → IfSome told (λ journal. bytes ≡ part journal at len)
    → ((whole : List ℕ) → part whole at len ≡ bytes → Given whole → FailsAs (checks whole) result) → ((whole : List ℕ) → part whole at len ≡ bytes → Given whole → IfOk result (λ value. Is value whole))
    → ReadsPart told at (λ _. at + len) Given checks Is result
reads_part {X} told at len Given checks Is bytes (Ok value) fit long tells fails is =
    part_read told at len (λ whole. Given whole → (first_failing (checks whole) ≡ None) × Is value whole) bytes fit long tells (λ whole there given. (fails whole there given, is whole there given))
reads_part {X} told at len Given checks Is bytes (Err fault) fit long tells fails is = by_told told tells
  where
    by_told : (told : Option (List ℕ)) → IfSome told (λ journal. bytes ≡ part journal at len) → IfSome told (λ journal. Given journal → FailsWith (checks journal) fault)
    by_told None tells = tt
    by_told (Some journal) tells = λ given. fails journal (sym tells) given

-- a fault behind a part that was read is that of the checks of both
pub told_fails : {told : Option (List ℕ)} {from to : ℕ} {P : List ℕ → Type 0} (Given More : List ℕ → Type 0) (checks : List ℕ → List Check) (fault : JournalFault) → IsPart told from to P → IfSome told More
    → ((whole : List ℕ) → P whole → More whole → Given whole → FailsWith (checks whole) fault) → IfSome told (λ journal. Given journal → FailsWith (checks journal) fault)
told_fails {told} {from} {to} {P} Given More checks fault read fails behind = by_told told (told_says read) fails
  where
    by_told : (told : Option (List ℕ)) → IfSome told P → IfSome told More → IfSome told (λ journal. Given journal → FailsWith (checks journal) fault)
    by_told None read fails = tt
    by_told (Some journal) read fails = λ given. behind journal read fails given

-- all of a journal was read: those bytes are it, where it is told
pub all_there : (told : Option (List ℕ)) (size : ℕ) (bytes : List ℕ) → IfSome told (λ journal. length journal ≡ size) → length bytes ≡ size → IfSome told (λ journal. part journal 0 (length bytes) ≡ bytes)
    → IfSome told (λ journal. bytes ≡ journal)
unfolding part
all_there None size bytes has long read = tt
all_there (Some journal) size bytes has long read = sym read ∙ take_all (length bytes) journal (omega (arith, has, long))
