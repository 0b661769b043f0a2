use Rattle.std.proofs.Common.{◌≡◌, ◌∙◌, take}
use Rattle.disk_defs.specs.Disk.{told_of}
use Rattle.disk_defs.specs.declared.Area.TheVariants.{Journal}
use Rattle.journal_defs.specs.Checks as table
use Rattle.journal_format.specs.Header.{front_in}
use Rattle.journal_format.specs.Parts.{Always}
use Rattle.journal_format.proofs.PartLaws.{reads_part, window_tells}
use Rattle.journal_format.proofs.Steps.{front_same, ok_weaker, short_line, told_any}
use Rattle.journal_format.proofs.listing.read_front.Goals as goal

pub returns-then-end-at-lt7-clause-read : goal.returns-then-end-at-lt7-clause-read
returns-then-end-at-lt7-clause-read g c = told_any (told_of Journal (g.S.Store.state c.args.store.now)) _ (λ journal given. short_line journal c.args.end c.args.at c.requires.begins c.if-end-at-lt7.true)

pub returns-clause-read : goal.returns-clause-read
returns-clause-read g c =
    let told = told_of Journal (g.S.Store.state c.args.store.now) in
    reads_part told c.args.at 7 Always (λ whole. take 3 (table.line_checks whole c.args.end c.args.at)) (λ front whole. front ≡ front_in whole c.args.at)
    c.bytes_at.result.now c.front_at.result c.bytes_at.ensures.fit c.bytes_at.ensures.long
    (window_tells told _ c.args.at 7 _ _ c.in_ok-reach.ensures.window c.in_ok-reach.ensures.has c.bytes_at.ensures.is) (λ whole there given. c.front_at.ensures.says whole there)
    (λ whole there given. ok_weaker (λ front. front ≡ front_in c.bytes_at.result.now 0) (λ front. front ≡ front_in whole c.args.at) c.front_at.result (λ front is. is ∙ front_same whole _ c.args.at there) c.front_at.ensures.is)
