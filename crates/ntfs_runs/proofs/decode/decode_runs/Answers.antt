use Rattle.std.proofs.Common.{Ok, arith, ap, sym, ◌∙◌}
use Rattle.std.proofs.lemmas.Result.{err_from_is_err_and}
use Rattle.ntfs_defs.proofs.ListLaws.{run_at-place, decoding_stops, decoding_refuses, decoding_ends}
use Rattle.ntfs_defs.proofs.RunLaws.{checked_run-ok, decoded_clusters, decoded_sum, decoded_end, decoded_runs-ok}
use Rattle.ntfs_runs.proofs.Walk.{walk_goes_on}
use Rattle.ntfs_runs.proofs.decode.decode_runs.Goals as goal

pub returns-in_err-written-clause-fault : goal.returns-in_err-written-clause-fault
returns-in_err-written-clause-fault c =
    let fault = err_from_is_err_and c.from_residual.result c.from_residual.ensures.1 in
    let stops =
    decoding_stops c.args.clusters c.args.bytes.now c.loop-runs.runs.items c.loop-runs.base c.loop-runs.total c.loop-runs.at c.in_err-written.field-0.0
    c.loop-runs.invariant.decoded (sym c.run_at.ensures ∙ c.in_err-written.was) in
    rw (fault.1, fault.2) (λ damage. stops)

pub returns-in_err-run-clause-fault : goal.returns-in_err-run-clause-fault
returns-in_err-run-clause-fault c =
    let fault = err_from_is_err_and c.from_residual-in_err-run.result c.from_residual-in_err-run.ensures.1 in
    let refuses =
    decoding_refuses c.args.clusters c.args.bytes.now c.loop-runs.runs.items c.loop-runs.base c.loop-runs.total c.loop-runs.at c.in-Some.written
    c.in_err-run.field-0.0 c.loop-runs.invariant.decoded (sym c.run_at.ensures ∙ c.in_ok-written.was ∙ ap Ok c.in-Some.is)
    (sym c.checked_run.ensures ∙ c.in_err-run.was) in
    rw (fault.1, fault.2) (λ damage. refuses)

pub overflow_add-total : goal.overflow_add-total
overflow_add-total c =
    let checked =
    checked_run-ok c.args.clusters c.loop-runs.base c.loop-runs.total c.in-Some.written c.in_ok-run.run' (sym c.checked_run.ensures ∙ c.in_ok-run.was) in
    omega (arith, checked.1, (checked.2).same_len)

pub loop-runs-smaller : goal.loop-runs-smaller
loop-runs-smaller c =
    let found = sym c.run_at.ensures ∙ c.in_ok-written.was ∙ ap Ok c.in-Some.is in
    let place = run_at-place c.args.bytes.now c.loop-runs.at c.in-Some.written found in
    omega (arith, place.0, place.1)

pub loop-runs-preserved : goal.loop-runs-preserved
loop-runs-preserved c =
    rw (c.in_ok-push.ensures.items, c.unwrap_or-base.ensures)
    (walk_goes_on c.args.clusters c.args.bytes.now c.loop-runs.runs.items c.loop-runs.base c.loop-runs.total c.loop-runs.at c.in-Some.written c.in_ok-run.run'
    c.requires c.loop-runs.invariant (sym c.run_at.ensures ∙ c.in_ok-written.was ∙ ap Ok c.in-Some.is) (sym c.checked_run.ensures ∙ c.in_ok-run.was))

pub returns-clause-runs : goal.returns-clause-runs
returns-clause-runs c =
    decoding_ends c.args.clusters c.args.bytes.now c.loop-runs.runs.items c.loop-runs.base c.loop-runs.total c.loop-runs.at c.loop-runs.invariant.decoded
    (sym c.run_at.ensures ∙ c.in_ok-written.was ∙ ap Ok c.in_default.is)
    ∙ ap Ok (sym c.from_vec.ensures)

pub returns-clause-at_each : goal.returns-clause-at_each
returns-clause-at_each c = decoded_clusters c.args.clusters c.args.bytes.now c.from_vec.result (returns-clause-runs c)

pub returns-clause-sum : goal.returns-clause-sum
returns-clause-sum c = decoded_sum c.args.clusters c.args.bytes.now c.from_vec.result (returns-clause-runs c)

pub returns-clause-end : goal.returns-clause-end
returns-clause-end c = decoded_end c.args.clusters c.args.bytes.now c.from_vec.result (returns-clause-runs c)

pub returns-clause-none_empty : goal.returns-clause-none_empty
returns-clause-none_empty c = (decoded_runs-ok c.args.clusters c.args.bytes.now c.from_vec.result (returns-clause-runs c)).none_empty

pub returns-clause-all_inside : goal.returns-clause-all_inside
returns-clause-all_inside c = (decoded_runs-ok c.args.clusters c.args.bytes.now c.from_vec.result (returns-clause-runs c)).all_inside

pub returns-clause-at_most : goal.returns-clause-at_most
returns-clause-at_most c =
    let fits = (decoded_runs-ok c.args.clusters c.args.bytes.now c.from_vec.result (returns-clause-runs c)).at_most (omega arith) in
    omega (arith, fits)
