use Rattle.std.proofs.Common.{◌≡◌, ℕ, Option, List, [], ◌++◌, ◌∙◌, ap, append-nil, arith}
use Rattle.std.proofs.lemmas.Result.{on_ok_weaker}
use Rattle.disk_defs.specs.Stream.{taken_with}
use Rattle.disk_defs.proofs.StreamLaws.{taken_with-append, took_prefix-last}
use Rattle.rx_report.specs.Pages.{TookAllBut}
use Rattle.rx_report.proofs.pages.put.Goals as goal
use Rattle.rx_report.proofs.pages.put.Goals.{then-remaining_capacity-text+in_ok-write_all, else-remaining_capacity-text}

-- what waited was taken, and then a text by itself
took-both : (before mid after : Option (List ℕ)) (waiting text left : List ℕ) → mid ≡ taken_with before waiting → after ≡ taken_with mid text
    → left ≡ [] → TookAllBut before after left (waiting ++ text)
took-both before mid after waiting text left mid_is after_is nothing = record {
  gone = waiting ++ text;
  taken = after_is ∙ ap (λ taken. taken_with taken text) mid_is ∙ taken_with-append before waiting text;
  whole = ap (λ rest. (waiting ++ text) ++ rest) nothing ∙ append-nil (waiting ++ text);
}

pub returns-then-text-gt-MAX_PAGE-clause-taken : goal.returns-then-text-gt-MAX_PAGE-clause-taken
returns-then-text-gt-MAX_PAGE-clause-taken g c = elim c.if-remaining_capacity-text.branch [
  | then-remaining_capacity-text+in_ok-write_all w ↦
      let before = g.K.Sink.taken c.args.sink.now in
      let mid = g.K.Sink.taken c.if-remaining_capacity-text.sink in
      let mid_is = ap g.K.Sink.taken w.sink-is ∙ w.in_ok-write_all.ensures.taken ∙ ap (taken_with before) (w.as_bytes.ensures.value ∙ w.as_str.ensures.value) in
      on_ok_weaker c.write_all-then-text-gt-MAX_PAGE.result (λ taken. took-both before mid _ _ _ _ mid_is
      (taken ∙ ap (taken_with mid) c.as_bytes-then-text-gt-MAX_PAGE.ensures.value) (ap (λ page. page.bytes) w.page-is ∙ w.clear.ensures))
      c.write_all-then-text-gt-MAX_PAGE.ensures.taken
  | else-remaining_capacity-text w ↦ absurd (omega arith)
]

pub returns-then-text-gt-MAX_PAGE-clause-prefix : goal.returns-then-text-gt-MAX_PAGE-clause-prefix
returns-then-text-gt-MAX_PAGE-clause-prefix g c = elim c.if-remaining_capacity-text.branch [
  | then-remaining_capacity-text+in_ok-write_all w ↦
      let before = g.K.Sink.taken c.args.sink.now in
      let mid = g.K.Sink.taken c.if-remaining_capacity-text.sink in
      let mid_is = ap g.K.Sink.taken w.sink-is ∙ w.in_ok-write_all.ensures.taken ∙ ap (taken_with before) (w.as_bytes.ensures.value ∙ w.as_str.ensures.value) in
      took_prefix-last c.write_all-then-text-gt-MAX_PAGE.result before mid _ c.args.page.now.bytes _ _ mid_is
      c.write_all-then-text-gt-MAX_PAGE.ensures.prefix (ap (λ text. c.args.page.now.bytes ++ text) c.as_bytes-then-text-gt-MAX_PAGE.ensures.value)
  | else-remaining_capacity-text w ↦ absurd (omega arith)
]
