use Rattle.std.proofs.Common.{arith}
use Rattle.rx_store.proofs.Written.{written_from}
use Rattle.rx_store.proofs.append.write_from.Goals as goal

pub returns-clause-items : goal.returns-clause-items
returns-clause-items c =
    written_from c.args.bytes.now.items c.args.piece.now c.append.new.bytes.items c.deref_mut.result.now c.overwrite.new.bytes c.args.at c.append.new.bytes.len _
    (omega (arith, c.requires.begins, c.args.bytes.now.ok.0)) (omega (arith, c.min-inside.ensures, c.len.ensures, c.args.bytes.now.ok.0)) c.append.ensures.items c.deref_mut.ensures.value
    (omega (arith, c.append.new.bytes.ok.0)) c.overwrite.ensures
