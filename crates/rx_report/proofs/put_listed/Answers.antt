use Rattle.std.proofs.Common.{◌∷◌, [], ◌∙◌, refl, append_assoc}
use Rattle.std.proofs.lemmas.Result.{on_ok_weaker, on_err_weaker}
use Rattle.disk_defs.proofs.StreamLaws.{on_err}
use Rattle.rx_report.proofs.PageLaws.{took-then, prefix-then}
use Rattle.rx_report.proofs.put_listed.Goals as goal

pub returns-in_err-put-2-clause-prefix : goal.returns-in_err-put-2-clause-prefix
returns-in_err-put-2-clause-prefix g c =
    let head_is = c.as_str.ensures.value ∙ c.listed_head.ensures in
    let path_is = c.as_str-2.ensures.text in
    on_err _ (prefix-then _ c.as_str-2.result.now (10 ∷ []) c.in_ok-put.ensures.taken c.in_err-put-2.ensures.prefix (simp (append_assoc, head_is, path_is)))

pub returns-clause-taken : goal.returns-clause-taken
returns-clause-taken g c =
    let head_is = c.as_str.ensures.value ∙ c.listed_head.ensures in
    let path_is = c.as_str-2.ensures.text in
    let both = took-then c.as_str-2.result.now c.in_ok-put.ensures.taken c.in_ok-put-2.ensures.taken refl in
    on_ok_weaker c.put-3.result (λ last. took-then (10 ∷ []) both last (simp (append_assoc, head_is, path_is))) c.put-3.ensures.taken

pub returns-clause-prefix : goal.returns-clause-prefix
returns-clause-prefix g c =
    let head_is = c.as_str.ensures.value ∙ c.listed_head.ensures in
    let path_is = c.as_str-2.ensures.text in
    let both = took-then c.as_str-2.result.now c.in_ok-put.ensures.taken c.in_ok-put-2.ensures.taken refl in
    on_err_weaker c.put-3.result (λ some. prefix-then _ (10 ∷ []) [] both some (simp (append_assoc, head_is, path_is))) c.put-3.ensures.prefix
