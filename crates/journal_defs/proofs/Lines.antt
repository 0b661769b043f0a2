-- The listing of a journal: what is read where lines were written, and what was written where they pass their checks.
use Rattle.std.specs.Prelude.{◌≡◌, ◌⊎◌, ℕ, zero, suc, ◌+◌, ◌^◌, ◌<◌, ◌≤◌, ◌==◌, ◌&&◌, ◌||◌, nat_le, true, All, None, List, [], ◌∷◌, ◌++◌, length, drop, slice_index, sum_by, refl}
use Rattle.std.specs.List.{flat_map, list_all}
use Rattle.std.specs.Str.{IsUtf8, is_utf8}
use Rattle.std.proofs.Common.{ap, sym, subst, ◌∙◌, arith, inl, inr}
use Rattle.std.proofs.lemmas.Bool.{and_from, and_parts, eq-eqb, eqb-true, le-leb, leb-true, or_cases}
use Rattle.std.proofs.lemmas.List.{append_assoc}
use Rattle.std.proofs.lemmas.List.Elements.{All-cons, All-head, All-nil, All-tail}
use Rattle.std.proofs.lemmas.List.Sums.{sum_by-cons}
use Rattle.std.proofs.lemmas.Str.{IsUtf8-from_is_utf8, is_utf8-from_IsUtf8}
use Rattle.bytes_defs.specs.Bytes.{part}
use Rattle.bytes_defs.specs.Numbers.{little_at}
use Rattle.journal_defs.specs.Form.{little, kind_byte, line_bytes}
use Rattle.journal_defs.specs.Reading.{kind_of, path_len_in, path_in, line_in, line_end, lines_in}
use Rattle.journal_defs.specs.Checks.{first_failing, is_listed_rule, is_path, line_checks, lines_checks}
use Rattle.journal_defs.proofs.Fields.{AreBytes, behind, byte_behind, byte_reads, byte_written, length_part, number_behind, number_fits, number_reads, number_written, part_is, part_written, stands_at}
use Rattle.journal_defs.proofs.Passing.{both_pass, nothing_fails, pass_all, pass_with, passes}
use Rattle.journal_defs.proofs.Ranges.{is_rule_true, rule_is}
use Rattle.rx_ranges.specs.Path.{begins_with_slash, is_printed, IsPath}
use Rattle.rx_ranges.specs.PlanChecks.{HasListedRule, IsListed, listed_len}
use Rattle.rx_ranges.specs.declared.plan.ListKind.{ListKind}
use Rattle.rx_ranges.specs.declared.plan.ListKind.TheVariants.{File, Alias}
use Rattle.rx_ranges.specs.declared.plan.Listed.{Listed}

-- ---- one line

-- this line is read at a place, and this stands behind it
pub record IsLineAt (bytes : List ℕ) (at : ℕ) (line : Listed) (rest : List ℕ) : Type 0 where
  pub kind : slice_index bytes at ≡ kind_byte line.kind
  pub is : line_in bytes at ≡ line
  pub ends : line_end bytes at ≡ at + listed_len line
  pub behind : drop (line_end bytes at) bytes ≡ rest

kind_read : (kind : ListKind) → kind_of (kind_byte kind) ≡ kind
kind_read File = refl
kind_read Alias = refl

pub line_reads : (bytes rest : List ℕ) (at : ℕ) (line : Listed) → line.rule < 256 ^ 4 → length line.path < 256 ^ 2 → drop at bytes ≡ line_bytes line ++ rest → IsLineAt bytes at line rest
unfolding line_bytes little
line_reads bytes rest at line rule_fits path_fits stands =
    let path = line.path ++ rest in
    let path_len = little 2 (length line.path) ++ path in
    let rule = little 4 line.rule ++ path_len in
    let begin : drop at bytes ≡ kind_byte line.kind ∷ rule = stands in
    let at_rule : drop (at + 1) bytes ≡ rule = byte_behind bytes rule at (kind_byte line.kind) begin in
    let at_len : drop (at + 5) bytes ≡ path_len = stands_at bytes (at + 1 + 4) (at + 5) path_len (omega arith) (number_behind bytes path_len (at + 1) 4 line.rule at_rule) in
    let at_path : drop (at + 7) bytes ≡ path = stands_at bytes (at + 5 + 2) (at + 7) path (omega arith) (number_behind bytes path (at + 5) 2 (length line.path) at_len) in
    let kind_is : slice_index bytes at ≡ kind_byte line.kind = byte_reads bytes rule at (kind_byte line.kind) begin in
    let rule_is = number_reads bytes path_len (at + 1) 4 line.rule rule_fits at_rule in
    let len_is : path_len_in bytes at ≡ length line.path = number_reads bytes path (at + 5) 2 (length line.path) path_fits at_len in
    let path_is : path_in bytes at ≡ line.path = ap (part bytes (at + 7)) len_is ∙ part_is bytes line.path rest (at + 7) at_path in
    let kind : kind_of (slice_index bytes at) ≡ line.kind = ap kind_of kind_is ∙ kind_read line.kind in
    let ends : line_end bytes at ≡ at + listed_len line = ap (λ len. at + (7 + len)) len_is in record {
      kind = kind_is;
      is = rw (kind, rule_is, path_is) refl;
      ends = ends;
      behind = stands_at bytes (at + 7 + length line.path) (line_end bytes at) rest (omega (arith, ends)) (behind bytes line.path rest (at + 7) at_path);
    }

pub line_written : (bytes : List ℕ) (at : ℕ) → AreBytes bytes → line_end bytes at ≤ length bytes → (slice_index bytes at ≡ 1) ⊎ (slice_index bytes at ≡ 2)
    → drop at bytes ≡ line_bytes (line_in bytes at) ++ drop (line_end bytes at) bytes
unfolding line_bytes little
line_written bytes at fit long kind =
    let line = line_in bytes at in
    let at_kind = byte_written bytes at (omega (arith, long)) in
    let at_rule = number_written bytes (at + 1) 4 fit (omega (arith, long)) in
    let at_len = number_written bytes (at + 5) 2 fit (omega (arith, long)) in
    let at_path = part_written bytes (at + 7) (path_len_in bytes at) in
    let to_len : at + 1 + 4 ≡ at + 5 = omega arith in
    let to_path : at + 5 + 2 ≡ at + 7 = omega arith in
    let to_end : at + 7 + path_len_in bytes at ≡ line_end bytes at = omega arith in
    let len_is : path_len_in bytes at ≡ length line.path = sym (length_part bytes (at + 7) (path_len_in bytes at) (omega (arith, long))) in
    at_kind
    ∙ ap (λ byte. byte ∷ drop (at + 1) bytes) (kind_written (slice_index bytes at) kind)
    ∙ ap (λ rest. kind_byte line.kind ∷ rest) (at_rule ∙ ap (λ place. little 4 line.rule ++ drop place bytes) to_len)
    ∙ ap (λ rest. kind_byte line.kind ∷ (little 4 line.rule ++ rest)) (at_len ∙ ap (λ len. little 2 len ++ drop (at + 5 + 2) bytes) len_is ∙ ap (λ place. little 2 (length line.path) ++ drop place bytes) to_path)
    ∙ ap (λ rest. kind_byte line.kind ∷ (little 4 line.rule ++ (little 2 (length line.path) ++ rest))) (at_path ∙ ap (λ place. line.path ++ drop place bytes) to_end)
  where
    kind_written : (byte : ℕ) → (byte ≡ 1) ⊎ (byte ≡ 2) → byte ≡ kind_byte (kind_of byte)
    kind_written byte kind = elim kind [ inl file ↦ rw file refl | inr alias ↦ rw alias refl ]

-- what the checks of a line say
pub record IsLineHere (bytes : List ℕ) (end at : ℕ) : Type 0 where
  pub kind : (slice_index bytes at ≡ 1) ⊎ (slice_index bytes at ≡ 2)
  pub ends : line_end bytes at ≤ end
  pub listed : IsListed (line_in bytes at)

listed_rule_true : (kind : ListKind) (rule : ℕ) → HasListedRule kind rule → is_listed_rule (kind_byte kind) rule ≡ true
listed_rule_true File rule has = is_rule_true rule has
listed_rule_true Alias rule has = eq-eqb rule 0 has

listed_rule_is : (byte rule : ℕ) → (byte ≡ 1) ⊎ (byte ≡ 2) → is_listed_rule byte rule ≡ true → HasListedRule (kind_of byte) rule
listed_rule_is byte rule kind true_here =
    let P : ℕ → Type 0 = λ byte. is_listed_rule byte rule ≡ true → HasListedRule (kind_of byte) rule in
    elim kind [
      | inl file ↦ subst P (sym file) (rule_is rule) true_here
      | inr alias ↦ subst P (sym alias) (eqb-true rule 0) true_here
    ]

path_true : (path : List ℕ) → IsPath path → IsUtf8 path → is_path path ≡ true
path_true path is utf8 =
    and_from (is_utf8 path && begins_with_slash path) (list_all is_printed path) (and_from (is_utf8 path) (begins_with_slash path) (is_utf8-from_IsUtf8 path utf8) is.rooted) is.printed

path_is : (path : List ℕ) → length path < 256 ^ 2 → is_path path ≡ true → IsPath path × IsUtf8 path
path_is path short true_here =
    let parts = and_parts (is_utf8 path && begins_with_slash path) (list_all is_printed path) true_here in
    let front = and_parts (is_utf8 path) (begins_with_slash path) parts.0 in
    (record { rooted = front.1; printed = parts.1; short = omega (arith, short) }, IsUtf8-from_is_utf8 path front.0)

pub line_passes : (bytes rest : List ℕ) (end at : ℕ) (line : Listed) → IsLineAt bytes at line rest → IsListed line → at + listed_len line ≤ end → first_failing (line_checks bytes end at) ≡ None
unfolding line_checks
line_passes bytes rest end at line read listed room =
    let byte = slice_index bytes at in
    let kind : (byte == 1 || byte == 2) ≡ true = ap (λ byte. byte == 1 || byte == 2) read.kind ∙ either line.kind in
    let left : (nat_le (at + 7) end && (byte == 1 || byte == 2)) ≡ true = and_from (nat_le (at + 7) end) (byte == 1 || byte == 2) (le-leb (at + 7) end (omega (arith, room))) kind in
    let rule_is : little_at 4 bytes (at + 1) ≡ line.rule = ap (λ line. line.rule) read.is in
    let rule : is_listed_rule byte (little_at 4 bytes (at + 1)) ≡ true = ap (is_listed_rule byte) rule_is ∙ ap (λ byte. is_listed_rule byte line.rule) read.kind ∙ listed_rule_true line.kind line.rule listed.0 in
    let ends : nat_le (line_end bytes at) end ≡ true = le-leb (line_end bytes at) end (omega (arith, room, read.ends)) in
    let path : is_path (path_in bytes at) ≡ true = ap (λ line. is_path line.path) read.is ∙ path_true line.path listed.1 listed.2 in
    pass_with at _ _ left ∙ pass_with (at + 1) _ _ rule ∙ pass_with (at + 5) _ _ ends ∙ pass_with (at + 7) _ [] path ∙ nothing_fails
  where
    either : (kind : ListKind) → (kind_byte kind == 1 || kind_byte kind == 2) ≡ true
    either File = refl
    either Alias = refl

pub line_holds : (bytes : List ℕ) (end at : ℕ) → AreBytes bytes → end ≤ length bytes → first_failing (line_checks bytes end at) ≡ None → IsLineHere bytes end at
unfolding line_checks
line_holds bytes end at fit long none =
    let byte = slice_index bytes at in
    let one = passes at (nat_le (at + 7) end && (byte == 1 || byte == 2)) _ none in
    let two = passes (at + 1) (is_listed_rule byte (little_at 4 bytes (at + 1))) _ one.1 in
    let three = passes (at + 5) (nat_le (line_end bytes at) end) _ two.1 in
    let four = passes (at + 7) (is_path (path_in bytes at)) [] three.1 in
    let left = and_parts (nat_le (at + 7) end) (byte == 1 || byte == 2) one.0 in
    let kind : (byte ≡ 1) ⊎ (byte ≡ 2) = elim (or_cases (byte == 1) (byte == 2) left.1) [ inl file ↦ inl (eqb-true byte 1 file) | inr alias ↦ inr (eqb-true byte 2 alias) ] in
    let ends : line_end bytes at ≤ end = leb-true (line_end bytes at) end three.0 in
    let len_is : length (path_in bytes at) ≡ path_len_in bytes at = length_part bytes (at + 7) (path_len_in bytes at) (omega (arith, ends, long)) in
    let short = number_fits bytes (at + 5) 2 fit in
    let path = path_is (path_in bytes at) (omega (arith, len_is, short)) four.0 in
    record { kind = kind; ends = ends; listed = (listed_rule_is byte (little_at 4 bytes (at + 1)) kind two.0, path.0, path.1) }

-- ---- all lines

-- these lines pass their checks and are read, and this stands behind them
pub record AreLinesAt (bytes : List ℕ) (end at : ℕ) (lines : List Listed) (rest : List ℕ) : Type 0 where
  pub pass : first_failing (lines_checks bytes end at (length lines)) ≡ None
  pub are : lines_in bytes at (length lines) ≡ lines
  pub behind : drop end bytes ≡ rest

pub lines_read : (lines : List Listed) (bytes rest : List ℕ) (end at : ℕ) → All IsListed lines → at + sum_by listed_len lines ≡ end → drop at bytes ≡ flat_map line_bytes lines ++ rest
    → AreLinesAt bytes end at lines rest
unfolding lines_checks
lines_read [] bytes rest end at listed sum stands =
    record { pass = pass_with at _ [] (le-leb end at (omega (arith, sum))) ∙ nothing_fails; are = refl; behind = stands_at bytes at end rest (omega (arith, sum)) stands }
lines_read (line ∷ lines) bytes rest end at listed sum stands =
    let here : IsListed line = All-head IsListed line lines listed in
    let total : at + (listed_len line + sum_by listed_len lines) ≡ end = ap (λ sum. at + sum) (sym (sum_by-cons listed_len line lines)) ∙ sum in
    let front : drop at bytes ≡ line_bytes line ++ (flat_map line_bytes lines ++ rest) = stands ∙ append_assoc (line_bytes line) (flat_map line_bytes lines) rest in
    let read = line_reads bytes (flat_map line_bytes lines ++ rest) at line (rule_fits line.kind line.rule here.0) (omega (arith, here.1.short)) front in
    let rest_at = lines_read lines bytes rest end (line_end bytes at) (All-tail IsListed line lines listed) (omega (arith, total, read.ends)) read.behind in
    record {
      pass = pass_all (line_checks bytes end at) _ (line_passes bytes _ end at line read here (omega (arith, total))) ∙ rest_at.pass;
      are = ap (λ line. line ∷ lines_in bytes (line_end bytes at) (length lines)) read.is ∙ ap (λ lines. line ∷ lines) rest_at.are;
      behind = rest_at.behind;
    }
  where
    rule_fits : (kind : ListKind) (rule : ℕ) → HasListedRule kind rule → rule < 256 ^ 4
    rule_fits File rule has = omega (arith, has.1)
    rule_fits Alias rule has = omega (arith, has)

-- lines that pass their checks were written, and are what a plan's lines have to be
pub record AreLinesWritten (bytes : List ℕ) (end at count : ℕ) : Type 0 where
  pub form : drop at bytes ≡ flat_map line_bytes (lines_in bytes at count) ++ drop end bytes
  pub sum : at + sum_by listed_len (lines_in bytes at count) ≡ end
  pub listed : All IsListed (lines_in bytes at count)
  pub counted : length (lines_in bytes at count) ≡ count

pub lines_written : (count : ℕ) (bytes : List ℕ) (end at : ℕ) → AreBytes bytes → end ≤ length bytes → at ≤ end → first_failing (lines_checks bytes end at count) ≡ None → AreLinesWritten bytes end at count
unfolding lines_checks
lines_written zero bytes end at fit long inside none =
    let last = passes at (nat_le end at) [] none in
    let same : at ≡ end = omega (arith, leb-true end at last.0) in
    record { form = ap (λ at. drop at bytes) same; sum = omega (arith, same); listed = All-nil IsListed; counted = refl }
lines_written (suc count) bytes end at fit long inside none =
    let line = line_in bytes at in
    let parts = both_pass (line_checks bytes end at) _ none in
    let here = line_holds bytes end at fit long parts.0 in
    let rest = lines_written count bytes end (line_end bytes at) fit long here.ends parts.1 in
    let lines = lines_in bytes (line_end bytes at) count in
    let len_is : length (path_in bytes at) ≡ path_len_in bytes at = length_part bytes (at + 7) (path_len_in bytes at) (omega (arith, here.ends, long)) in
    record {
      form = line_written bytes at fit (omega (arith, here.ends, long)) here.kind ∙ ap (λ rest. line_bytes line ++ rest) rest.form ∙ sym (append_assoc (line_bytes line) (flat_map line_bytes lines) (drop end bytes));
      sum = ap (λ sum. at + sum) (sum_by-cons listed_len line lines) ∙ omega (arith, rest.sum, len_is);
      listed = All-cons IsListed line lines here.listed rest.listed;
      counted = ap (λ n. suc n) rest.counted;
    }
