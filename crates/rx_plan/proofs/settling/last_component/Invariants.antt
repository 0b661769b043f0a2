use Rattle.std.proofs.Common.{◌≡◌, ◌+◌, ◌≤◌, ◌==◌, not, length, take}
use Rattle.std.specs.List.{suffix_len}
use Rattle.rx_plan.proofs.settling.last_component.Given as goal

-- no byte behind the start is a slash
abbrev pub invariant-loop-start : goal.invariant-loop-start
invariant-loop-start l =
    (l.start ≤ length l.path)
    × (l.start + suffix_len (λ byte. not (byte == 47)) l.path ≡ length l.path + suffix_len (λ byte. not (byte == 47)) (take l.start l.path))

abbrev pub decreases-loop-start : goal.decreases-loop-start
decreases-loop-start l = l.start
