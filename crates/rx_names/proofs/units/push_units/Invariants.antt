use Rattle.std.proofs.Common.{◌≡◌, ◌++◌, length}
use Rattle.std.specs.String.{string_bytes}
use Rattle.name_defs.specs.Texts.{units_text}
use Rattle.rx_names.proofs.units.push_units.Given as goal

-- what is there, with the text of the units that are left, is the whole
abbrev pub invariant-loop-first : goal.invariant-loop-first
invariant-loop-first l = string_bytes l.text ++ units_text l.rest ≡ string_bytes l.initial.text ++ units_text l.units

abbrev pub decreases-loop-first : goal.decreases-loop-first
decreases-loop-first l = length l.rest
