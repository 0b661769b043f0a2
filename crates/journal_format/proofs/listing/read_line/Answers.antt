use Rattle.std.proofs.Common.{◌≡◌, ◌+◌, ◌∷◌, [], List, ℕ, None, IfSome, ap, arith, subst, take, length, ◌∙◌}
use Rattle.std.proofs.lemmas.Result.{err_from_is_err_and}
use Rattle.bytes_defs.specs.Bytes.{part}
use Rattle.disk_defs.specs.Disk.{State, told_of}
use Rattle.disk_defs.specs.declared.Area.TheVariants.{Journal}
use Rattle.journal_defs.specs.Checks.{first_failing, is_path, line_checks}
use Rattle.journal_format.specs.Parts.{Always, IsPart}
use Rattle.journal_format.specs.Says.{FailsWith}
use Rattle.journal_format.proofs.PartLaws.{part_more, part_to, part_told, told_fails}
use Rattle.journal_format.proofs.Steps.{front_fails, line_read, path_fails, told_weaker}
use Rattle.journal_format.proofs.listing.read_line.Goals as goal

pub returns-in_err-front-clause-read : goal.returns-in_err-front-clause-read
returns-in_err-front-clause-read g c =
    let fault = err_from_is_err_and c.from_residual.result c.from_residual.ensures.1 in
    rw (fault.1, fault.2) (told_weaker (told_of Journal (g.S.Store.state c.args.store.now)) (λ whole. Always whole → FailsWith (take 3 (line_checks whole c.args.end c.args.at)) c.in_err-front.field-0.0)
    (λ whole. Always whole → FailsWith (line_checks whole c.args.end c.args.at) c.in_err-front.field-0.0)
    (λ whole fails given. front_fails whole c.args.end c.args.at c.in_err-front.field-0.0 (fails given)) c.in_err-front.ensures.read)

pub returns-in_err-path-clause-read : goal.returns-in_err-path-clause-read
returns-in_err-path-clause-read g c =
    let fault = err_from_is_err_and c.from_residual-in_err-path.result c.from_residual-in_err-path.ensures.1 in
    let Fails : ℕ → List ℕ → Type 0 = λ n whole. Always whole → FailsWith ((c.args.at + 7, is_path (part whole (c.args.at + 7) n)) ∷ []) c.in_err-path.field-0.0 in
    let told : IfSome (told_of Journal (g.S.Store.state c.args.store.now)) (Fails c.from.result) = subst (λ (state : State). IfSome (told_of Journal state) (Fails c.from.result)) c.in_ok-front.ensures.same c.in_err-path.ensures.read in
    let fails : IfSome (told_of Journal (g.S.Store.state c.args.store.now)) (Fails c.in_ok-front.front.path_len) = subst (λ (n : ℕ). IfSome (told_of Journal (g.S.Store.state c.args.store.now)) (Fails n)) c.from.ensures told in
    rw (fault.1, fault.2) (told_fails Always (Fails c.in_ok-front.front.path_len) (λ whole. line_checks whole c.args.end c.args.at) c.in_err-path.field-0.0 c.in_ok-front.ensures.read fails
    (λ whole front more given. path_fails whole c.args.end c.args.at c.in_ok-front.front c.in_err-path.field-0.0 (front given).0 (front given).1 (more given)))

pub returns-clause-read : goal.returns-clause-read
returns-clause-read g c =
    let Read : ℕ → Type 0 = λ n. IsPart (told_of Journal (g.S.Store.state c.args.store.now)) (c.args.at + 7) (c.args.at + 7 + n)
    (λ whole. Always whole → (first_failing ((c.args.at + 7, is_path (part whole (c.args.at + 7) n)) ∷ []) ≡ None) × (c.in_ok-path.path ≡ part whole (c.args.at + 7) n)) in
    let path : Read c.in_ok-front.front.path_len = subst Read c.from.ensures (part_told (ap (told_of Journal) c.in_ok-front.ensures.same) c.in_ok-path.ensures.read) in
    let long : length c.in_ok-path.path ≡ c.in_ok-front.front.path_len = c.in_ok-path.ensures.long ∙ c.from.ensures in
    part_to (c.args.at + (7 + length c.in_ok-path.path)) (omega (arith, long))
    (part_more (λ whole front path given. line_read whole c.in_ok-path.path c.args.end c.args.at c.in_ok-front.front (front given).0 (front given).1 (path given).0 (path given).1 long) c.in_ok-front.ensures.read path)
