use Rattle.std.proofs.Common.{◌+◌, sym, ap, ◌∙◌}
use Rattle.machine.specs.Calls.{Fetch}
use Rattle.machine.specs.Machines.{state}
use Rattle.machine.specs.Outcomes.{part, by_grant}
use Rattle.machine.proofs.machine.Machine.spans.Goals as goal

pub returns : goal.returns
returns g c =
    let s = state g.M.Memory.bytes c.args.self.now in (
      part s.held (c.in_ok-span.field-0.off + c.args.address) c.args.length,
      ap (by_grant s (Fetch c.args.k c.args.address c.args.length)) (sym c.span.ensures.is ∙ c.in_ok-span.was),
    )
