use Rattle.std.proofs.Common.{rules}
use Rattle.std.specs.Str.{chars}
use Rattle.rx_pattern.proofs.Deciding.{decided}
use Rattle.rx_pattern.proofs.pattern.Pattern.matches.Goals as goal

pub returns-clause-relation : goal.returns-clause-relation
returns-clause-relation c = decided c.matches_whole.result c.args.self.now (chars c.args.text.now) (search rules)
