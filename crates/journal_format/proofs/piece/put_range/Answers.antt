use Rattle.journal_format.proofs.Fills.{range_fills}
use Rattle.journal_format.proofs.piece.put_range.Goals as goal

pub returns : goal.returns
returns c = range_fills c.args.claim.now _ _ _ _ _ c.args.at c.args.place c.put_u64.ensures c.put_u64-2.ensures c.put_u32.ensures c.put.ensures
