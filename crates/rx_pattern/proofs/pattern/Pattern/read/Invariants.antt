use Rattle.std.proofs.Common.{◌≡◌, ◌≤◌, length}
use denote.Text.{Utf8}
use denote.Shadow.{shadow}
use Rattle.std.specs.Str.{chars}
use Rattle.rx_pattern.specs.Reading.{behind_items, items_of}
use Rattle.rx_pattern.proofs.pattern.Pattern.read.Given as goal

abbrev pub invariant-loop-c : goal.invariant-loop-c
invariant-loop-c l =
    shadow (Utf8 l.rest) × (length l.rest ≤ length l.fn.text)
    × (items_of (chars l.fn.text) ≡ behind_items l.items.items (items_of (chars l.rest)))

abbrev pub decreases-loop-c : goal.decreases-loop-c
decreases-loop-c l = length l.rest
