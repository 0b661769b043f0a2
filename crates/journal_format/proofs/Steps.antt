-- What a journal's checks give, one after the other.
use Rattle.std.specs.Prelude.{◌≡◌, ℕ, suc, ◌+◌, ◌-◌, ◌*◌, ◌<◌, ◌≤◌, ◌==◌, ◌&&◌, ◌||◌, nat_le, nat_lt, not, IfOk, IfSome, length, drop, take, refl, Bool, true, false, Option, None, Some, Result, Ok, Err, List, [], ◌∷◌, ◌++◌, slice_index}
use Rattle.std.proofs.Common.{ap, sym, subst, ◌∙◌, arith}
use Rattle.std.proofs.lemmas.Bool.Decides.{same_from_decides, Decides-eqb, Decides-and, Decides-like}
use Rattle.std.proofs.lemmas.Bool.{and_left, and_parts, false_from_ne_true, leb-true, le-leb, lt-leb}
use Rattle.std.proofs.lemmas.List.{append_assoc, append-nil, get_or-drop, get_or-take, take-append-drop}
use Rattle.std.proofs.lemmas.Str.{IsUtf8-from_is_utf8, is_utf8-from_IsUtf8}
use Rattle.std.specs.List.{list_all}
use Rattle.std.specs.Str.{IsUtf8, is_utf8}
use Rattle.bytes_defs.proofs.NumberLaws.{number_at_part}
use Rattle.bytes_defs.specs.Bytes.{part}
use Rattle.bytes_defs.specs.Numbers.{number_at, little_at}
use Rattle.bytes_defs.specs.declared.order.Order.TheVariants.{Little}
use Rattle.journal_defs.specs.Checks.{Check, first_failing, is_rule, is_listed_rule, is_path, range_checks, ranges_checks, line_checks, lines_checks}
use Rattle.journal_defs.specs.Reading.{image_len_in, claim_in, claims_in, line_in, line_end, lines_in, path_in}
use Rattle.journal_defs.proofs.Passing.{fail_all, fail_with, nothing_fails, pass_all, pass_with, passes}
use Rattle.journal_format.specs.Header.{front_in}
use Rattle.journal_format.specs.Says.{FailsWith}
use Rattle.journal_format.specs.declared.listing.Front.{Front}
use Rattle.journal_format.specs.declared.fault.JournalFault.{JournalFault}
use Rattle.journal_format.specs.declared.fault.JournalFault.TheVariants.{NotOpen, Bad, OtherLength, Device, NoMemory}
use Rattle.range_defs.specs.declared.Claim.{Claim}
use Rattle.rx_ranges.specs.Path.{begins_with_slash, is_printed}
use Rattle.rx_ranges.specs.declared.plan.Listed.{Listed}

-- ---- faults

-- checks that fail in front of others fail with them, and behind those that hold they fail too
pub fails_with : (front checks whole : List Check) (fault : JournalFault) → first_failing whole ≡ first_failing (front ++ checks) → FailsWith front fault → FailsWith whole fault
fails_with front checks whole NotOpen same fails = fails
fails_with front checks whole (Bad at) same fails = same ∙ fail_all at front checks fails
fails_with front checks whole (OtherLength kept found) same fails = fails
fails_with front checks whole Device same fails = tt
fails_with front checks whole NoMemory same fails = tt

pub fails_behind : (checks whole : List Check) (fault : JournalFault) → first_failing whole ≡ first_failing checks → FailsWith checks fault → FailsWith whole fault
fails_behind checks whole NotOpen same fails = fails
fails_behind checks whole (Bad at) same fails = same ∙ fails
fails_behind checks whole (OtherLength kept found) same fails = fails
fails_behind checks whole Device same fails = tt
fails_behind checks whole NoMemory same fails = tt

-- what holds of an answer
pub ok_weaker : {X : Type 0} (P Q : X → Type 0) (result : Result X JournalFault) → ((value : X) → P value → Q value) → IfOk result P → IfOk result Q
ok_weaker P Q (Ok value) more holds = more value holds
ok_weaker P Q (Err fault) more holds = tt

-- what is so of each journal is so of the one that is told
pub told_any : (told : Option (List ℕ)) (P : List ℕ → Type 0) → ((journal : List ℕ) → P journal) → IfSome told P
told_any None P holds = tt
told_any (Some journal) P holds = holds journal

pub told_weaker : (told : Option (List ℕ)) (P Q : List ℕ → Type 0) → ((journal : List ℕ) → P journal → Q journal) → IfSome told P → IfSome told Q
told_weaker None P Q more holds = tt
told_weaker (Some journal) P Q more holds = more journal holds

-- one check that holds, or doesn't
pub one_holds : (place : ℕ) (holds : Bool) → holds ≡ true → first_failing ((place, holds) ∷ []) ≡ None
one_holds place holds true_here = pass_with place holds [] true_here ∙ nothing_fails

pub one_fails : (place : ℕ) (holds : Bool) → holds ≡ false → first_failing ((place, holds) ∷ []) ≡ Some place
one_fails place holds false_here = fail_with place holds [] false_here

-- ---- ranges

-- three bytes are zeros where the number in them is
pub three_zeros : (bytes : List ℕ) (at : ℕ) → (little_at 3 bytes at == 0) ≡ (slice_index bytes at == 0 && (slice_index bytes (at + 1) == 0 && slice_index bytes (at + 2) == 0))
unfolding number_at
three_zeros bytes at =
    let one : at + 1 ≡ suc at = omega arith in
    let two : at + 2 ≡ suc (suc at) = omega arith in
    rw (one, two) (zeros (slice_index bytes at) (slice_index bytes (suc at)) (slice_index bytes (suc (suc at))))
  where
    zeros : (a b c : ℕ) → (a + 256 * (b + 256 * (c + 0)) == 0) ≡ (a == 0 && (b == 0 && c == 0))
    zeros a b c =
        let each = Decides-and (a == 0) (b == 0 && c == 0) (Decides-eqb a 0) (Decides-and (b == 0) (c == 0) (Decides-eqb b 0) (Decides-eqb c 0)) in
        same_from_decides (a + 256 * (b + 256 * (c + 0)) == 0) (a == 0 && (b == 0 && c == 0)) (Decides-eqb (a + 256 * (b + 256 * (c + 0))) 0)
        (Decides-like (a == 0 && (b == 0 && c == 0)) (λ all. omega (arith, all.0, all.1.0, all.1.1)) (λ sum. (omega (arith, sum), (omega (arith, sum), omega (arith, sum)))) each)

-- a byte and a range are read from a part as from all
pub byte_in : (whole : List ℕ) (at len i : ℕ) → i < len → slice_index (part whole at len) i ≡ slice_index whole (at + i)
unfolding part
byte_in whole at len i inside = get_or-take len (drop at whole) i 0 inside ∙ get_or-drop at whole i 0

claim_part : (whole : List ℕ) (at : ℕ) → claim_in (part whole at 24) 0 ≡ claim_in whole at
claim_part whole at =
    let begin : little_at 8 (part whole at 24) 0 ≡ little_at 8 whole at = number_at_part Little 8 whole at 24 0 (omega arith) ∙ ap (number_at Little 8 whole) (omega arith) in
    let len = number_at_part Little 8 whole at 24 8 (omega arith) in
    let rule = number_at_part Little 4 whole at 24 16 (omega arith) in
    let fill = byte_in whole at 24 20 (omega arith) in
    rw (begin, len, rule, fill) refl

pub claim_same : (whole bytes : List ℕ) (at : ℕ) → part whole at 24 ≡ bytes → claim_in bytes 0 ≡ claim_in whole at
claim_same whole bytes at there = ap (λ bytes. claim_in bytes 0) (sym there) ∙ claim_part whole at

-- the checks of a range by its values
pub range_table : (whole bytes : List ℕ) (at image_len last_end last_rule : ℕ) (claim : Claim) (begins ends rule zeros : Bool) → part whole at 24 ≡ bytes → image_len ≡ image_len_in whole → claim ≡ claim_in bytes 0
    → begins ≡ (nat_le last_end claim.range.at && nat_lt claim.range.at image_len) → ends ≡ (nat_lt 0 claim.range.len && nat_le (claim.range.at + claim.range.len) image_len)
    → rule ≡ (is_rule claim.rule && not (last_end == claim.range.at && last_rule == claim.rule)) → zeros ≡ (little_at 3 bytes 21 == 0)
    → (at, begins) ∷ (at + 8, ends) ∷ (at + 16, rule) ∷ (at + 21, zeros) ∷ [] ≡ range_checks whole at last_end last_rule
unfolding range_checks
range_table whole bytes at image_len last_end last_rule claim begins ends rule zeros there len is one two three four =
    let zero : little_at 3 bytes 21 ≡ little_at 3 whole (at + 21) = ap (λ bytes. little_at 3 bytes 21) (sym there) ∙ number_at_part Little 3 whole at 24 21 (omega arith) in
    let table : ℕ → Claim → ℕ → List Check = λ image_len claim number.
    (at, nat_le last_end claim.range.at && nat_lt claim.range.at image_len) ∷ (at + 8, nat_lt 0 claim.range.len && nat_le (claim.range.at + claim.range.len) image_len)
    ∷ (at + 16, is_rule claim.rule && not (last_end == claim.range.at && last_rule == claim.rule)) ∷ (at + 21, number == 0) ∷ [] in
    let by_value : (at, begins) ∷ (at + 8, ends) ∷ (at + 16, rule) ∷ (at + 21, zeros) ∷ [] ≡ table image_len claim (little_at 3 bytes 21) = rw (one, two, three, four) refl in
    by_value ∙ ap (λ len. table len claim (little_at 3 bytes 21)) len ∙ ap (λ claim. table (image_len_in whole) claim (little_at 3 bytes 21)) (is ∙ claim_same whole bytes at there) ∙ ap (table (image_len_in whole) (claim_in whole at)) zero

-- a range that passes its checks ends in the image
pub range_ends : (one two : ℕ) (begins ends : Bool) (rest : List Check) (claim read : Claim) (image_len : ℕ) → claim ≡ read → ends ≡ (nat_lt 0 claim.range.len && nat_le (claim.range.at + claim.range.len) image_len)
    → first_failing ((one, begins) ∷ (two, ends) ∷ rest) ≡ None → read.range.at + read.range.len ≤ image_len
range_ends one two begins ends rest claim read image_len is inside none =
    let holds = passes two ends rest (passes one begins _ none).1 in
    let P : Claim → Type 0 = λ claim. claim.range.at + claim.range.len ≤ image_len in
    subst P is (leb-true (claim.range.at + claim.range.len) image_len (and_parts (nat_lt 0 claim.range.len) _ (sym inside ∙ holds.0)).1)

-- the ranges that are left, where some were read
abbrev pub RangesLeft : List ℕ → ℕ → ℕ → ℕ → ℕ → List Claim → Type 0
RangesLeft whole count i last_end last_rule claims =
    (first_failing (ranges_checks whole 40 0 0 count) ≡ first_failing (ranges_checks whole (40 + 24 * i) last_end last_rule (count - i)))
    × (claims ++ claims_in whole (40 + 24 * i) (count - i) ≡ claims_in whole 40 count)

pub ranges_begin : (whole : List ℕ) (count : ℕ) (claims : List Claim) → claims ≡ [] → RangesLeft whole count 0 0 0 claims
ranges_begin whole count claims none =
    let all : count - 0 ≡ count = omega arith in
    (ap (λ n. first_failing (ranges_checks whole 40 0 0 n)) (sym all), ap (λ claims. claims ++ claims_in whole 40 (count - 0)) none ∙ ap (claims_in whole 40) all)

-- one range more was read
pub ranges_more : (whole : List ℕ) (count i last_end last_rule : ℕ) (claims : List Claim) (claim : Claim) → i < count → RangesLeft whole count i last_end last_rule claims
    → first_failing (range_checks whole (40 + 24 * i) last_end last_rule) ≡ None → claim ≡ claim_in whole (40 + 24 * i)
    → RangesLeft whole count (i + 1) (claim.range.at + claim.range.len) claim.rule (claims ++ claim ∷ [])
unfolding ranges_checks
ranges_more whole count i last_end last_rule claims claim more left none is =
    let rest = count - (i + 1) in
    let next : count - i ≡ suc rest = omega (arith, more) in
    let place : 40 + 24 * i + 24 ≡ 40 + 24 * (i + 1) = omega arith in
    let Rest : Claim → Type 0 = λ claim. first_failing (ranges_checks whole 40 0 0 count) ≡ first_failing (ranges_checks whole (40 + 24 * (i + 1)) (claim.range.at + claim.range.len) claim.rule rest) in
    let read = claim_in whole (40 + 24 * i) in (
      subst Rest (sym is)
          (left.0 ∙ ap (λ left. first_failing (ranges_checks whole (40 + 24 * i) last_end last_rule left)) next ∙ pass_all (range_checks whole (40 + 24 * i) last_end last_rule) _ none
          ∙ ap (λ at. first_failing (ranges_checks whole at (read.range.at + read.range.len) read.rule rest)) place),
      append_assoc claims (claim ∷ []) (claims_in whole (40 + 24 * (i + 1)) rest) ∙ ap (λ claim. claims ++ claim ∷ claims_in whole (40 + 24 * (i + 1)) rest) is
          ∙ ap (λ at. claims ++ read ∷ claims_in whole at rest) (sym place) ∙ sym (ap (λ left. claims ++ claims_in whole (40 + 24 * i) left) next) ∙ left.1,
    )

-- the next range fails
pub ranges_fail : (whole : List ℕ) (count i last_end last_rule : ℕ) (claims : List Claim) (fault : JournalFault) → i < count → RangesLeft whole count i last_end last_rule claims
    → FailsWith (range_checks whole (40 + 24 * i) last_end last_rule) fault → FailsWith (ranges_checks whole 40 0 0 count) fault
unfolding ranges_checks
ranges_fail whole count i last_end last_rule claims fault more left fails =
    let next : count - i ≡ suc (count - (i + 1)) = omega (arith, more) in
    fails_with (range_checks whole (40 + 24 * i) last_end last_rule) _ (ranges_checks whole 40 0 0 count) fault (left.0 ∙ ap (λ left. first_failing (ranges_checks whole (40 + 24 * i) last_end last_rule left)) next) fails

-- none is left
pub ranges_end : (whole : List ℕ) (count i last_end last_rule : ℕ) (claims : List Claim) → count ≤ i → RangesLeft whole count i last_end last_rule claims
    → (first_failing (ranges_checks whole 40 0 0 count) ≡ None) × (claims ≡ claims_in whole 40 count)
unfolding ranges_checks
ranges_end whole count i last_end last_rule claims all left =
    let none : count - i ≡ 0 = omega (arith, all) in (
      left.0 ∙ ap (λ left. first_failing (ranges_checks whole (40 + 24 * i) last_end last_rule left)) none ∙ nothing_fails,
      sym (append-nil claims) ∙ ap (λ left. claims ++ claims_in whole (40 + 24 * i) left) (sym none) ∙ left.1,
    )

-- ---- lines

-- fewer than 7 of the listing's bytes are left
pub short_line : (bytes : List ℕ) (end at : ℕ) → at ≤ end → end - at < 7 → first_failing (take 3 (line_checks bytes end at)) ≡ Some at
unfolding line_checks
short_line bytes end at begins short = fail_with at _ _ (and_left (nat_le (at + 7) end) _ (lt-leb (at + 7) end (omega arith)))

-- what stands of a line in front of its path is read from 7 bytes as from all
front_part : (whole : List ℕ) (at : ℕ) → front_in (part whole at 7) 0 ≡ front_in whole at
front_part whole at =
    let kind : slice_index (part whole at 7) 0 ≡ slice_index whole at = byte_in whole at 7 0 (omega arith) ∙ ap (slice_index whole) (omega arith) in
    let rule = number_at_part Little 4 whole at 7 1 (omega arith) in
    let len = number_at_part Little 2 whole at 7 5 (omega arith) in
    rw (kind, rule, len) refl

pub front_same : (whole bytes : List ℕ) (at : ℕ) → part whole at 7 ≡ bytes → front_in bytes 0 ≡ front_in whole at
front_same whole bytes at there = ap (λ bytes. front_in bytes 0) (sym there) ∙ front_part whole at

-- its checks by their values
pub front_table : (whole bytes : List ℕ) (at end : ℕ) (kind rule len : Bool) → part whole at 7 ≡ bytes → at + 7 ≤ end → kind ≡ (slice_index bytes 0 == 1 || slice_index bytes 0 == 2)
    → rule ≡ is_listed_rule (slice_index bytes 0) (little_at 4 bytes 1) → len ≡ nat_le (at + (7 + little_at 2 bytes 5)) end
    → (at, kind) ∷ (at + 1, rule) ∷ (at + 5, len) ∷ [] ≡ take 3 (line_checks whole end at)
unfolding line_checks
front_table whole bytes at end kind rule len there room one two three =
    let byte : slice_index bytes 0 ≡ slice_index whole at = ap (λ bytes. slice_index bytes 0) (sym there) ∙ byte_in whole at 7 0 (omega arith) ∙ ap (slice_index whole) (omega arith) in
    let rule_is : little_at 4 bytes 1 ≡ little_at 4 whole (at + 1) = ap (λ bytes. little_at 4 bytes 1) (sym there) ∙ number_at_part Little 4 whole at 7 1 (omega arith) in
    let len_is : little_at 2 bytes 5 ≡ little_at 2 whole (at + 5) = ap (λ bytes. little_at 2 bytes 5) (sym there) ∙ number_at_part Little 2 whole at 7 5 (omega arith) in
    let table : Bool → ℕ → ℕ → ℕ → List Check = λ room byte rule len. (at, room && (byte == 1 || byte == 2)) ∷ (at + 1, is_listed_rule byte rule) ∷ (at + 5, nat_le (at + (7 + len)) end) ∷ [] in
    let by_value : (at, kind) ∷ (at + 1, rule) ∷ (at + 5, len) ∷ [] ≡ table true (slice_index bytes 0) (little_at 4 bytes 1) (little_at 2 bytes 5) = rw (one, two, three) refl in
    by_value ∙ ap (λ room. table room (slice_index bytes 0) (little_at 4 bytes 1) (little_at 2 bytes 5)) (sym (le-leb (at + 7) end room))
    ∙ ap (λ byte. table (nat_le (at + 7) end) byte (little_at 4 bytes 1) (little_at 2 bytes 5)) byte ∙ ap (λ rule. table (nat_le (at + 7) end) (slice_index whole at) rule (little_at 2 bytes 5)) rule_is
    ∙ ap (table (nat_le (at + 7) end) (slice_index whole at) (little_at 4 whole (at + 1))) len_is

-- they hold, and so the path ends in the listing
pub front_ends : (one two three place end : ℕ) (kind rule len : Bool) → len ≡ nat_le place end → first_failing ((one, kind) ∷ (two, rule) ∷ (three, len) ∷ []) ≡ None → place ≤ end
front_ends one two three place end kind rule len is none =
    let first = passes one kind _ none in
    let second = passes two rule _ first.1 in
    leb-true place end (sym is ∙ (passes three len [] second.1).0)

-- the last check of a line is that of its path
path_check : (whole : List ℕ) (end at : ℕ) → drop 3 (line_checks whole end at) ≡ (at + 7, is_path (path_in whole at)) ∷ []
unfolding line_checks
path_check whole end at = refl

pub line_parts : (whole : List ℕ) (end at : ℕ) (front : Front) → front ≡ front_in whole at → line_checks whole end at ≡ take 3 (line_checks whole end at) ++ (at + 7, is_path (part whole (at + 7) front.path_len)) ∷ []
line_parts whole end at front is =
    sym (take-append-drop 3 (line_checks whole end at)) ∙ ap (λ last. take 3 (line_checks whole end at) ++ last) (path_check whole end at)
    ∙ ap (λ (front : Front). take 3 (line_checks whole end at) ++ (at + 7, is_path (part whole (at + 7) front.path_len)) ∷ []) (sym is)

-- the checks in front of a path fail, or that of the path
pub front_fails : (whole : List ℕ) (end at : ℕ) (fault : JournalFault) → FailsWith (take 3 (line_checks whole end at)) fault → FailsWith (line_checks whole end at) fault
front_fails whole end at fault fails = fails_with (take 3 (line_checks whole end at)) (drop 3 (line_checks whole end at)) _ fault (ap first_failing (sym (take-append-drop 3 (line_checks whole end at)))) fails

path_left : (whole : List ℕ) (end at : ℕ) (front : Front) → first_failing (take 3 (line_checks whole end at)) ≡ None → front ≡ front_in whole at
    → first_failing (line_checks whole end at) ≡ first_failing ((at + 7, is_path (part whole (at + 7) front.path_len)) ∷ [])
path_left whole end at front none is = ap first_failing (line_parts whole end at front is) ∙ pass_all (take 3 (line_checks whole end at)) _ none

pub path_fails : (whole : List ℕ) (end at : ℕ) (front : Front) (fault : JournalFault) → first_failing (take 3 (line_checks whole end at)) ≡ None → front ≡ front_in whole at
    → FailsWith ((at + 7, is_path (part whole (at + 7) front.path_len)) ∷ []) fault → FailsWith (line_checks whole end at) fault
path_fails whole end at front fault none is fails = fails_behind _ (line_checks whole end at) fault (path_left whole end at front none is) fails

-- the line of them
pub line_read : (whole path : List ℕ) (end at : ℕ) (front : Front) → first_failing (take 3 (line_checks whole end at)) ≡ None → front ≡ front_in whole at
    → first_failing ((at + 7, is_path (part whole (at + 7) front.path_len)) ∷ []) ≡ None → path ≡ part whole (at + 7) front.path_len → length path ≡ front.path_len
    → (first_failing (line_checks whole end at) ≡ None) × ((record { kind = front.kind; rule = front.rule; path = path } ≡ line_in whole at) × (at + (7 + length path) ≡ line_end whole at))
line_read whole path end at front none is path_none path_is long =
    let line : List ℕ → Listed = λ path. record { kind = front.kind; rule = front.rule; path = path } in (
      path_left whole end at front none is ∙ path_none,
      (
        ap line path_is ∙ ap (λ (front : Front). record { kind = front.kind; rule = front.rule; path = part whole (at + 7) front.path_len }) is,
        ap (λ n. at + (7 + n)) (long ∙ ap (λ (front : Front). front.path_len) is),
      ),
    )

-- bytes that are no text are no path
pub no_text_is_no_path : (path : List ℕ) → (IsUtf8 path → ⊥) → is_path path ≡ false
no_text_is_no_path path other =
    false_from_ne_true (is_path path) (λ is.
    let parts = and_parts (is_utf8 path && begins_with_slash path) (list_all is_printed path) is in
    other (IsUtf8-from_is_utf8 path (and_parts (is_utf8 path) (begins_with_slash path) parts.0).0))

-- a text is a path where it begins with a slash and its bytes are printed
pub path_of_text : (path : List ℕ) → IsUtf8 path → is_path path ≡ (begins_with_slash path && list_all is_printed path)
path_of_text path text = ap (λ test. test && begins_with_slash path && list_all is_printed path) (is_utf8-from_IsUtf8 path text)

-- the lines that are left, where some were read
abbrev pub LinesLeft : List ℕ → ℕ → ℕ → ℕ → ℕ → ℕ → List Listed → Type 0
LinesLeft whole end begin count i at lines =
    (first_failing (lines_checks whole end begin count) ≡ first_failing (lines_checks whole end at (count - i))) × (lines ++ lines_in whole at (count - i) ≡ lines_in whole begin count)

pub lines_begin : (whole : List ℕ) (end begin count : ℕ) (lines : List Listed) → lines ≡ [] → LinesLeft whole end begin count 0 begin lines
lines_begin whole end begin count lines none =
    let all : count - 0 ≡ count = omega arith in
    (ap (λ n. first_failing (lines_checks whole end begin n)) (sym all), ap (λ lines. lines ++ lines_in whole begin (count - 0)) none ∙ ap (lines_in whole begin) all)

-- one line more was read
pub lines_more : (whole : List ℕ) (end begin count i at next : ℕ) (lines : List Listed) (line : Listed) → i < count → LinesLeft whole end begin count i at lines
    → first_failing (line_checks whole end at) ≡ None → line ≡ line_in whole at → next ≡ line_end whole at → LinesLeft whole end begin count (i + 1) next (lines ++ line ∷ [])
unfolding lines_checks
lines_more whole end begin count i at next lines line more left none is there =
    let rest = count - (i + 1) in
    let one : count - i ≡ suc rest = omega (arith, more) in (
      left.0 ∙ ap (λ left. first_failing (lines_checks whole end at left)) one ∙ pass_all (line_checks whole end at) _ none ∙ ap (λ at. first_failing (lines_checks whole end at rest)) (sym there),
      append_assoc lines (line ∷ []) (lines_in whole next rest) ∙ ap (λ line. lines ++ line ∷ lines_in whole next rest) is ∙ ap (λ next. lines ++ line_in whole at ∷ lines_in whole next rest) there
          ∙ sym (ap (λ left. lines ++ lines_in whole at left) one) ∙ left.1,
    )

-- the next line fails
pub lines_fail : (whole : List ℕ) (end begin count i at : ℕ) (lines : List Listed) (fault : JournalFault) → i < count → LinesLeft whole end begin count i at lines → FailsWith (line_checks whole end at) fault
    → FailsWith (lines_checks whole end begin count) fault
unfolding lines_checks
lines_fail whole end begin count i at lines fault more left fails =
    let one : count - i ≡ suc (count - (i + 1)) = omega (arith, more) in
    fails_with (line_checks whole end at) _ (lines_checks whole end begin count) fault (left.0 ∙ ap (λ left. first_failing (lines_checks whole end at left)) one) fails

-- bytes are left behind the last line, or none is
pub bytes_left : (whole : List ℕ) (end begin count i at : ℕ) (lines : List Listed) → count ≤ i → at < end → LinesLeft whole end begin count i at lines → first_failing (lines_checks whole end begin count) ≡ Some at
unfolding lines_checks
bytes_left whole end begin count i at lines all more left =
    let none : count - i ≡ 0 = omega (arith, all) in
    left.0 ∙ ap (λ left. first_failing (lines_checks whole end at left)) none ∙ fail_with at (nat_le end at) [] (lt-leb end at more)

pub lines_end : (whole : List ℕ) (end begin count i at : ℕ) (lines : List Listed) → count ≤ i → end ≤ at → LinesLeft whole end begin count i at lines
    → (first_failing (lines_checks whole end begin count) ≡ None) × (lines ≡ lines_in whole begin count)
unfolding lines_checks
lines_end whole end begin count i at lines all ends left =
    let none : count - i ≡ 0 = omega (arith, all) in (
      left.0 ∙ ap (λ left. first_failing (lines_checks whole end at left)) none ∙ pass_with at (nat_le end at) [] (le-leb end at ends) ∙ nothing_fails,
      sym (append-nil lines) ∙ ap (λ left. lines ++ lines_in whole at left) (sym none) ∙ left.1,
    )
