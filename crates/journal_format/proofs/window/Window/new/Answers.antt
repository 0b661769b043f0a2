use Rattle.std.proofs.Common.{refl}
use Rattle.journal_format.proofs.PartLaws.{new_window}
use Rattle.journal_format.proofs.window.Window.new.Goals as goal

pub returns : goal.returns
returns c = λ told. new_window told c.args.size _ c.in_ok-room_for_window.ensures refl refl
