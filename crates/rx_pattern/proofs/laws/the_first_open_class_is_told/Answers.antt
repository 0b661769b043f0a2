use Rattle.rx_pattern.proofs.ReadingLaws.{first_open_is_told}
use Rattle.rx_pattern.proofs.laws.the_first_open_class_is_told.Goals as goal

pub returns : goal.returns
returns c = first_open_is_told
