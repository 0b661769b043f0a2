use Rattle.std.proofs.Common.{◌≡◌, ◌∙◌, ◌∷◌, [], List, ℕ, sym, subst}
use Rattle.disk_defs.specs.Disk.{told_of}
use Rattle.disk_defs.specs.declared.Area.TheVariants.{Journal}
use Rattle.bytes_defs.specs.Bytes.{part}
use Rattle.journal_defs.specs.Checks.{is_path}
use Rattle.journal_format.specs.Parts.{Always}
use Rattle.journal_format.specs.Says.{FailsAs}
use Rattle.journal_format.proofs.PartLaws.{reads_part, window_tells}
use Rattle.journal_format.proofs.Steps.{ok_weaker}
use Rattle.journal_format.proofs.listing.read_path.Goals as goal

pub returns-clause-read : goal.returns-clause-read
returns-clause-read g c =
    let told = told_of Journal (g.S.Store.state c.args.store.now) in
    reads_part told c.args.at c.args.len Always (λ whole. (c.args.at, is_path (part whole c.args.at c.args.len)) ∷ []) (λ path whole. path ≡ part whole c.args.at c.args.len)
    c.bytes_at.result.now c.path_of.result c.bytes_at.ensures.fit c.bytes_at.ensures.long
    (window_tells told _ c.args.at c.args.len _ _ c.in_ok-reach.ensures.window c.in_ok-reach.ensures.has c.bytes_at.ensures.is)
    (λ whole there given. subst (λ (bytes : List ℕ). FailsAs ((c.args.at, is_path bytes) ∷ []) c.path_of.result) (sym there) c.path_of.ensures.says)
    (λ whole there given. ok_weaker (λ path. path ≡ c.bytes_at.result.now) (λ path. path ≡ part whole c.args.at c.args.len) c.path_of.result (λ path is. is ∙ sym there) c.path_of.ensures.is)
