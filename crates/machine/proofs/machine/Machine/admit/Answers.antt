-- The row that the call answers is admitted.
use Rattle.std.proofs.Common.{rules, ◌≡◌}
use Rattle.machine.specs.Machines.{state}
use Rattle.machine.specs.Outcomes.{admission}
use Rattle.machine.proofs.Admitted.{admitted_if}
use Rattle.machine.proofs.machine.Machine.admit.Goals as goal

pub returns-clause-inside : goal.returns-clause-inside
returns-clause-inside g c =
    let s = state g.M.Memory.bytes c.args.self.now in
    let is : c.ok_or.result ≡ admission s c.args.k = search rules in
    admitted_if s c.args.k c.ok_or.result is
