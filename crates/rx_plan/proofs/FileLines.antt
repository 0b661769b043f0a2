-- The lines of the files, file by file and name by name.
use Rattle.std.proofs.Common.{◌≡◌, ℕ, suc, ◌+◌, ◌<◌, Bool, Option, None, List, [], ◌∷◌, ◌++◌, map, length, get_or, take, sym, ap, ◌∙◌, arith, append-nil, append_assoc, subst}
use Rattle.std.proofs.Math.Seq.{take-suc}
use Rattle.std.proofs.lemmas.List.{get_or-map, map-append}
use Rattle.std.proofs.lemmas.List.Elements.{All-push, All-same}
use Rattle.std.proofs.lemmas.Grind.{flat_map-append}
use Rattle.std.specs.List.{All, flat_map}
use Rattle.std.specs.Str.{IsUtf8}
use Rattle.rx_ranges.specs.Path.{IsPath}
use Rattle.rx_ranges.specs.declared.plan.ListKind.{ListKind}
use Rattle.rx_ranges.specs.declared.plan.Listed.{Listed}
use Rattle.rx_tree.specs.declared.file.FileEntry.{FileEntry}
use Rattle.rule_defs.specs.declared.Rule.{Rule}
use Rattle.plan_defs.specs.Plan.{file_lines, listed_as, lines_of, HasPath}

-- the lines of one more file
pub lines-more : (rules : List Rule) (files : List FileEntry) (listed : List (Option ℕ)) (i len : ℕ) (planned : ℕ → Bool) (file : FileEntry)
    (before after : List Listed) → i < length files → listed ≡ map (listed_as rules) files → file ≡ get_or files i file
    → before ≡ flat_map (lines_of rules len planned) (take i files) → after ≡ before ++ file_lines len planned (get_or listed i None) file
    → after ≡ flat_map (lines_of rules len planned) (take (i + 1) files)
lines-more rules files listed i len planned file before after inside listed_are file_is so_far appended =
    let lines : FileEntry → List Listed = lines_of rules len planned in
    let next : suc i ≡ i + 1 = omega arith in
    let own : get_or listed i None ≡ listed_as rules file =
    ap (λ (list : List (Option ℕ)). get_or list i None) listed_are ∙ get_or-map (listed_as rules) files i file None inside ∙ ap (listed_as rules) (sym file_is) in
    appended ∙ ap (λ text. text ++ file_lines len planned (get_or listed i None) file) so_far
    ∙ ap (λ number. flat_map lines (take i files) ++ file_lines len planned number file) own
    ∙ ap (λ text. flat_map lines (take i files) ++ text) (sym (append-nil (lines file)))
    ∙ sym (flat_map-append lines (take i files) (file ∷ []))
    ∙ ap (λ f. flat_map lines (take i files ++ f ∷ [])) file_is
    ∙ ap (flat_map lines) (sym (take-suc files i file inside))
    ∙ ap (λ n. flat_map lines (take n files)) next

-- the line of a name
abbrev pub line_of : ListKind → ℕ → List ℕ → Listed
line_of kind rule name = record { kind = kind; rule = rule; path = name }

-- the line of one more name, which is a path
pub names-more : (kind : ListKind) (rule : ℕ) (names : List (List ℕ)) (i : ℕ) (name path : List ℕ) (before lines after : List Listed)
    → i < length names → name ≡ get_or names i name → path ≡ name → All IsPath names → IsUtf8 name
    → lines ≡ before ++ map (line_of kind rule) (take i names) → All HasPath lines → after ≡ lines ++ line_of kind rule path ∷ []
    → (after ≡ before ++ map (line_of kind rule) (take (i + 1) names)) × All HasPath after
names-more kind rule names i name path before lines after inside name_is path_is paths text so_far listed appended =
    let line : List ℕ → Listed = line_of kind rule in
    let next : suc i ≡ i + 1 = omega arith in (
      appended ∙ ap (λ p. lines ++ line p ∷ []) (path_is ∙ name_is)
          ∙ ap (λ l. l ++ line (get_or names i name) ∷ []) so_far
          ∙ append_assoc before (map line (take i names)) (line (get_or names i name) ∷ [])
          ∙ ap (λ l. before ++ l) (sym (map-append line (take i names) (get_or names i name ∷ []))
          ∙ ap (map line) (sym (take-suc names i name inside) ∙ ap (λ n. take n names) next)),
      All-same HasPath after (lines ++ line path ∷ []) appended
          (All-push HasPath lines (line path) listed
          (subst IsPath (sym (path_is ∙ name_is)) (paths i name inside), subst IsUtf8 (sym path_is) text)),
    )
