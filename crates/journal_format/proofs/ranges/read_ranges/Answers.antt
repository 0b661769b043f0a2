use Rattle.std.proofs.Common.{◌≡◌, ◌+◌, ◌*◌, ap, arith, refl, subst, ◌∙◌, IfSome, List, ℕ}
use Rattle.std.proofs.lemmas.Result.{err_from_is_err_and}
use Rattle.disk_defs.specs.Disk.{State, size_of, told_of}
use Rattle.disk_defs.specs.declared.Area.TheVariants.{Journal}
use Rattle.journal_defs.specs.Checks.{range_checks, ranges_checks}
use Rattle.journal_defs.specs.Reading.{image_len_in}
use Rattle.journal_format.specs.Parts.{IsWindow}
use Rattle.journal_format.specs.Says.{FailsWith}
use Rattle.journal_format.proofs.PartLaws.{no_part, part_more, part_to, part_told, part_weaker, told_fails}
use Rattle.journal_format.proofs.Steps.{ranges_begin, ranges_more, ranges_fail, ranges_end}
use Rattle.journal_format.proofs.ranges.read_ranges.Goals as goal

pub loop-i-init : goal.loop-i-init
loop-i-init g c = record {
  read = no_part (told_of Journal (g.S.Store.state c.args.store.now)) 40 _ (λ whole given. ranges_begin whole c.args.count _ c.in_ok-claims.ensures.items);
  window = c.requires.window;
  same = refl;
  calm = refl;
}

pub returns-in_err-claim-clause-read : goal.returns-in_err-claim-clause-read
returns-in_err-claim-clause-read g c =
    let told = told_of Journal (g.S.Store.state c.args.store.now) in
    let fault = err_from_is_err_and c.from_residual-in_err-claim.result c.from_residual-in_err-claim.ensures.1 in
    let Given : List ℕ → Type 0 = λ whole. c.args.image_len ≡ image_len_in whole in
    let More : List ℕ → Type 0 = λ whole. Given whole → FailsWith (range_checks whole (40 + 24 * c.loop-i.i) c.loop-i.last_end c.loop-i.last_rule) c.in_err-claim.field-0.0 in
    let fails : IfSome told More = subst (λ (state : State). IfSome (told_of Journal state) More) c.loop-i.invariant.same c.in_err-claim.ensures.read in
    rw (fault.1, fault.2) (told_fails Given More (λ whole. ranges_checks whole 40 0 0 c.args.count) c.in_err-claim.field-0.0 c.loop-i.invariant.read fails
    (λ whole left more given. ranges_fail whole c.args.count c.loop-i.i _ _ c.loop-i.claims.items c.in_err-claim.field-0.0 (omega arith) (left given) (more given)))

pub loop-i-preserved : goal.loop-i-preserved
loop-i-preserved g c =
    let read =
    part_to (40 + 24 * (c.loop-i.i + 1)) (omega arith)
    (part_more (λ whole left here given. ranges_more whole c.args.count c.loop-i.i _ _ c.loop-i.claims.items c.in_ok-claim.claim (omega arith) (left given) (here given).0 (here given).1) c.loop-i.invariant.read
    (part_told (ap (told_of Journal) c.loop-i.invariant.same) c.in_ok-claim.ensures.read)) in
    record {
      read = rw c.in_ok-push.ensures.items read;
      window = subst (λ (state : State). IsWindow (told_of Journal state) (size_of Journal state) c.read_range.new.window) c.loop-i.invariant.same c.in_ok-claim.ensures.window;
      same = c.in_ok-claim.ensures.same ∙ c.loop-i.invariant.same;
      calm = c.in_ok-claim.ensures.counted ∙ c.loop-i.invariant.calm;
    }

pub returns-clause-read : goal.returns-clause-read
returns-clause-read g c =
    part_to (40 + 24 * c.args.count) (omega arith)
    (part_weaker (λ whole left given. ranges_end whole c.args.count c.loop-i.i _ _ _ (omega arith) (left given)) c.loop-i.invariant.read)
