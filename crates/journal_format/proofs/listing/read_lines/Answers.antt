use Rattle.std.proofs.Common.{◌≡◌, ◌+◌, ap, arith, refl, subst, sym, ◌∙◌, IfSome, List, ℕ, length}
use Rattle.std.proofs.lemmas.Result.{err_from_is_err_and}
use Rattle.disk_defs.specs.Disk.{State, size_of, told_of}
use Rattle.disk_defs.specs.declared.Area.TheVariants.{Journal}
use Rattle.journal_defs.specs.Checks.{line_checks, lines_checks}
use Rattle.journal_format.specs.Parts.{Always, IsWindow}
use Rattle.journal_format.specs.Says.{FailsWith}
use Rattle.journal_format.proofs.PartLaws.{no_part, part_more, part_to, part_told, part_weaker, told_fails, told_says}
use Rattle.journal_format.proofs.Steps.{lines_begin, lines_more, lines_fail, lines_end, bytes_left, told_weaker}
use Rattle.journal_format.proofs.listing.read_lines.Goals as goal

pub loop-init : goal.loop-init
loop-init g c = record {
  inside = c.requires.begins;
  read = no_part (told_of Journal (g.S.Store.state c.args.store.now)) c.args.begin _ (λ whole. lines_begin whole c.args.end c.args.begin c.args.count _ c.new-lines.ensures.items);
  window = c.requires.window;
  same = refl;
  calm = refl;
}

pub returns-in_err-line-clause-read : goal.returns-in_err-line-clause-read
returns-in_err-line-clause-read g c =
    let fault = err_from_is_err_and c.from_residual.result c.from_residual.ensures.1 in
    let More : List ℕ → Type 0 = λ whole. Always whole → FailsWith (line_checks whole c.args.end c.loop.at) c.in_err-line.field-0.0 in
    let fails : IfSome (told_of Journal (g.S.Store.state c.args.store.now)) More = subst (λ (state : State). IfSome (told_of Journal state) More) c.loop.invariant.same c.in_err-line.ensures.read in
    rw (fault.1, fault.2) (told_fails Always More (λ whole. lines_checks whole c.args.end c.args.begin c.args.count) c.in_err-line.field-0.0 c.loop.invariant.read fails
    (λ whole left more given. lines_fail whole c.args.end c.args.begin c.args.count c.loop.counter c.loop.at c.loop.lines.items c.in_err-line.field-0.0 (omega arith) left (more given)))

pub loop-preserved : goal.loop-preserved
loop-preserved g c =
    let next = c.loop.at + c.line_len-at.result in
    let there : next ≡ c.loop.at + (7 + length c.in_ok-line.line.path) = ap (λ n. c.loop.at + n) c.line_len-at.ensures in
    let read =
    part_to next (sym there)
    (part_more (λ whole left here. lines_more whole c.args.end c.args.begin c.args.count c.loop.counter c.loop.at next c.loop.lines.items c.in_ok-line.line (omega arith) left (here tt).0 (here tt).1.0 (there ∙ (here tt).1.1)) c.loop.invariant.read
    (part_told (ap (told_of Journal) c.loop.invariant.same) c.in_ok-line.ensures.read)) in
    record {
      inside = omega (arith, there, c.in_ok-line.ensures.ends);
      read = rw c.in_ok-push.ensures.items read;
      window = subst (λ (state : State). IsWindow (told_of Journal state) (size_of Journal state) c.read_line.new.window) c.loop.invariant.same c.in_ok-line.ensures.window;
      same = c.in_ok-line.ensures.same ∙ c.loop.invariant.same;
      calm = c.in_ok-line.ensures.counted ∙ c.loop.invariant.calm;
    }

pub returns-then-left-gt0-clause-read : goal.returns-then-left-gt0-clause-read
returns-then-left-gt0-clause-read g c =
    told_weaker (told_of Journal (g.S.Store.state c.args.store.now)) _ _ (λ whole left given. bytes_left whole c.args.end c.args.begin c.args.count c.loop.counter c.loop.at c.loop.lines.items (omega arith) (omega (arith, c.if-left-gt0.true)) left)
    (told_says c.loop.invariant.read)

pub returns-clause-read : goal.returns-clause-read
returns-clause-read g c =
    part_to c.args.end (omega (arith, c.if-left-gt0.false, c.loop.invariant.inside))
    (part_weaker (λ whole left given. lines_end whole c.args.end c.args.begin c.args.count c.loop.counter c.loop.at c.loop.lines.items (omega arith) (omega (arith, c.if-left-gt0.false, c.loop.invariant.inside)) left) c.loop.invariant.read)
