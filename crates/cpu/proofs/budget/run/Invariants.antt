use Rattle.std.proofs.Common.{◌≡◌, ◌-◌, ◌≤◌}
use Rattle.bank.specs.Banks.{lender}
use Rattle.isa.specs.Runs.{ran}
use Rattle.window.specs.Views.{seen, Whole}
use Rattle.window.specs.Windows.{memory_parts}
use Rattle.cpu.specs.Configs.{config, left_of}
use Rattle.cpu.proofs.budget.run.Given as goal

abbrev pub invariant-loop-ended : goal.invariant-loop-ended
invariant-loop-ended g l =
    let old = g.M.Memory.bytes l.fn.memory in
    let new = g.M.Memory.bytes l.memory in
    (l.count ≤ l.budget)
    × (left_of l.ended l.budget l.count (config new l.extent l.bank) ≡ ran l.budget (config old l.extent l.fn.bank))
    × (memory_parts new l.extent ≡ record (memory_parts old l.extent) { window = seen new l.extent })
    × Whole new l.extent
    × (lender l.bank ≡ lender l.fn.bank)

abbrev pub decreases-loop-ended : goal.decreases-loop-ended
decreases-loop-ended g l = l.budget - l.count
