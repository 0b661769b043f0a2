use Rattle.std.proofs.Common.{◌≡◌, ◌∙◌}
use Rattle.disk_defs.specs.Disk.{told_of}
use Rattle.disk_defs.specs.declared.Area.TheVariants.{Journal}
use Rattle.journal_defs.specs.Checks as table
use Rattle.journal_defs.specs.Reading.{image_len_in, claim_in}
use Rattle.journal_format.proofs.PartLaws.{reads_part, window_tells}
use Rattle.journal_format.proofs.Steps.{claim_same, ok_weaker}
use Rattle.journal_format.proofs.ranges.read_range.Goals as goal

pub returns-clause-read : goal.returns-clause-read
returns-clause-read g c =
    let told = told_of Journal (g.S.Store.state c.args.store.now) in
    reads_part told c.args.at 24 (λ whole. c.args.image_len ≡ image_len_in whole) (λ whole. table.range_checks whole c.args.at c.args.last_end c.args.last_rule) (λ claim whole. claim ≡ claim_in whole c.args.at)
    c.bytes_at-bytes.result.now c.range_at.result c.bytes_at-bytes.ensures.fit c.bytes_at-bytes.ensures.long
    (window_tells told _ c.args.at 24 _ _ c.in_ok-reach.ensures.window c.in_ok-reach.ensures.has c.bytes_at-bytes.ensures.is) c.range_at.ensures.says
    (λ whole there given. ok_weaker (λ claim. claim ≡ claim_in c.bytes_at-bytes.result.now 0) (λ claim. claim ≡ claim_in whole c.args.at) c.range_at.result (λ claim is. is ∙ claim_same whole _ c.args.at there) c.range_at.ensures.is)
