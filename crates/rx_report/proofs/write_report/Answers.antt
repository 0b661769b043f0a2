use Rattle.std.proofs.Common.{◌≡◌, ℕ, Option, List, [], ◌++◌, ◌∙◌, ap, subst, append-nil}
use Rattle.std.proofs.lemmas.Result.{on_ok_weaker}
use Rattle.std.specs.List.{flat_map}
use Rattle.text_defs.specs.Report.{report, listed_line}
use Rattle.disk_defs.specs.Stream.{taken_with, TookPrefixOf}
use Rattle.disk_defs.proofs.StreamLaws.{taken_with-append, took_prefix-of_longer, took_prefix-last, on_err}
use Rattle.rx_report.specs.Pages.{TookAllBut}
use Rattle.rx_report.proofs.PageLaws.{took-then, prefix-then}
use Rattle.rx_report.proofs.write_report.Goals as goal

-- with what waited the whole text was taken
took-whole : {before mid after : Option (List ℕ)} {waiting text : List ℕ} (own : List ℕ) → (first : TookAllBut before mid waiting text)
    → first.gone ++ own ≡ text → after ≡ taken_with mid own → after ≡ taken_with before text
took-whole {before} own first all last =
    last ∙ ap (λ taken. taken_with taken own) first.taken ∙ taken_with-append before first.gone own ∙ ap (taken_with before) all

pub returns-in_err-put_ranges-clause-prefix : goal.returns-in_err-put_ranges-clause-prefix
returns-in_err-put_ranges-clause-prefix g c =
    on_err _ (subst (TookPrefixOf (g.K.Sink.taken c.args.sink.now) (g.K.Sink.taken c.put_ranges.new.sink)) (cc)
    (took_prefix-of_longer _ _ _ (flat_map listed_line c.args.plan.now.listing) c.in_err-put_ranges.ensures.prefix))

pub returns-in_err-put_listing-clause-prefix : goal.returns-in_err-put_listing-clause-prefix
returns-in_err-put_listing-clause-prefix g c =
    on_err _ (prefix-then _ (flat_map listed_line c.items-2.result.now) [] c.in_ok-put_ranges.ensures.taken c.in_err-put_listing.ensures.prefix
    (append-nil _ ∙ cc))

pub returns-clause-taken : goal.returns-clause-taken
returns-clause-taken g c =
    let all = took-then {whole = report c.args.plan.now c.args.state} (flat_map listed_line c.items-2.result.now)
    c.in_ok-put_ranges.ensures.taken c.in_ok-put_listing.ensures.taken (cc) in
    on_ok_weaker c.write_all.result (took-whole c.as_bytes.result.now all (cc all.whole)) c.write_all.ensures.taken

pub returns-clause-prefix : goal.returns-clause-prefix
returns-clause-prefix g c =
    let all = took-then {whole = report c.args.plan.now c.args.state} (flat_map listed_line c.items-2.result.now)
    c.in_ok-put_ranges.ensures.taken c.in_ok-put_listing.ensures.taken (cc) in
    took_prefix-last c.write_all.result (g.K.Sink.taken c.args.sink.now) _ _ all.gone c.as_bytes.result.now _ all.taken c.write_all.ensures.prefix
    (cc all.whole)
