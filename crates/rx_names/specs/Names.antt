-- The text of a stored name.
use Rattle.std.specs.Prelude.{ℕ, List}
use Rattle.name_defs.specs.Texts.{bytes_text, units_text}
use Rattle.rx_names.specs.declared.name.NameRef.{NameRef}
use Rattle.rx_names.specs.declared.name.NameRef.TheVariants.{Bytes, Units}

-- what a name prints as
abbrev pub name_text : NameRef → List ℕ
name_text (Bytes bytes) = bytes_text bytes.now
name_text (Units units) = units_text units.now
