use Rattle.std.proofs.Common.{◌≡◌, ◌-◌, ◌≤◌, None}
use Rattle.cpu.specs.Configs.{left_of}
use Rattle.cpu.specs.Processors.{config_of, Reaches}
use Rattle.cpu.proofs.processor.Processor.dash.Given as goal

abbrev pub invariant-loop-count : goal.invariant-loop-count
invariant-loop-count g l =
    (l.initial.count ≤ l.count)
    × (l.count ≤ l.budget)
    × (left_of None l.budget l.count (config_of l.self) ≡ left_of None l.budget l.initial.count (config_of l.initial.self))
    × Reaches l.initial.self l.self (config_of l.self)

abbrev pub decreases-loop-count : goal.decreases-loop-count
decreases-loop-count g l = l.budget - l.count
