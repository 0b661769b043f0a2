use Rattle.image_reads.proofs.Grown.{grown_last}
use Rattle.image_reads.proofs.kept.keep.Goals as goal

pub returns-clause-bytes : goal.returns-clause-bytes
returns-clause-bytes c =
    grown_last c.args.looked.now.items c.args.looked.now.len c.in-Some.last.now c.in-Some-joined.both c.args.range c.args.looked.now.ok.0 c.in-Some.ensures.variant c.in-Some.ensures.value c.in-Some-joined.ensures.bytes
