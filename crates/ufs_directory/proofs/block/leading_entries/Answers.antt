use Rattle.std.proofs.Common.{◌<◌, List, [], ◌∷◌, ◌++◌, Ok, length, ap, sym, subst, ◌∙◌, arith}
use Rattle.std.specs.List.{All}
use Rattle.std.proofs.lemmas.List.Elements.{All-push}
use Rattle.ufs_volume_defs.specs.Directory.{Entry, leads_on}
use Rattle.ufs_directory.proofs.Leading.{HasPassed, passed_none, passed_leading, passed_other, passed_all, passed_no_entry}
use Rattle.ufs_directory.proofs.block.leading_entries.Goals as goal

pub returns-then-not-is_entry-clause-entries : goal.returns-then-not-is_entry-clause-entries
returns-then-not-is_entry-clause-entries c =
    passed_no_entry c.args.order c.args.bytes.now c.args.at c.loop-place.found.items c.loop-place.place c.loop-place.invariant.passed (omega arith) (sym c.is_entry.ensures ∙ c.if-not-is_entry.true)

pub loop-place-preserved-in-Continue-1 : goal.loop-place-preserved-in-Continue-1
loop-place-preserved-in-Continue-1 c = record {
  passed =
      passed_leading c.args.order c.args.bytes.now c.loop-place.found.items c.push.new.self.items c.loop-place.place c.from-place.result c.loop-place.invariant.passed (omega arith) (sym c.is_entry.ensures ∙ c.if-not-is_entry.false)
      (ap leads_on (sym c.entry_at-entry.ensures.value) ∙ sym c.leads_on.ensures ∙ c.if-leads_on.true)
      (c.in_ok-push.ensures.items ∙ ap (λ entry. c.loop-place.found.items ++ entry ∷ []) c.entry_at-entry.ensures.value)
      (c.from-place.ensures ∙ ap (λ entry. entry.len) (c.entry.view_is ∙ c.entry_at-entry.ensures.value));
  inside =
      let P : List Entry → Type 0 = λ found. All (λ entry. entry.at < length c.args.bytes.now) found in
      subst P (sym c.in_ok-push.ensures.items)
      (All-push (λ entry. entry.at < length c.args.bytes.now) c.loop-place.found.items _ c.loop-place.invariant.inside
      (omega (arith, ap (λ entry. entry.at) c.entry_at-entry.ensures.value)));
}

pub loop-place-preserved : goal.loop-place-preserved
loop-place-preserved c = record {
  passed =
      passed_other c.args.order c.args.bytes.now c.loop-place.found.items c.loop-place.place c.from-place.result c.loop-place.invariant.passed (omega arith) (sym c.is_entry.ensures ∙ c.if-not-is_entry.false)
      (ap leads_on (sym c.entry_at-entry.ensures.value) ∙ sym c.leads_on.ensures ∙ c.if-leads_on.false)
      (c.from-place.ensures ∙ ap (λ entry. entry.len) (c.entry.view_is ∙ c.entry_at-entry.ensures.value));
  inside = c.loop-place.invariant.inside;
}

pub returns-clause-entries : goal.returns-clause-entries
returns-clause-entries c =
    passed_all c.args.order c.args.bytes.now c.args.at c.loop-place.found.items c.loop-place.place c.loop-place.invariant.passed (omega arith) ∙ ap Ok (sym c.from_vec.ensures)

pub loop-place-init : goal.loop-place-init
loop-place-init c =
    let P : List Entry → Type 0 = λ found. HasPassed c.args.order c.args.bytes.now found 0 in
    let Q : List Entry → Type 0 = λ found. All (λ entry. entry.at < length c.args.bytes.now) found in
    record {
      passed = subst P (sym c.new-found.ensures.items) (passed_none c.args.order c.args.bytes.now);
      inside = subst Q (sym c.new-found.ensures.items) (λ k d less. absurd (omega arith));
    }
