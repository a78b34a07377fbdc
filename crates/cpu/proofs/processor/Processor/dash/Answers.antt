use Rattle.std.proofs.Common.{Some, None, ◌∙◌, arith}
use Rattle.cpu.specs.Processors.{config_of}
use Rattle.cpu.proofs.Running.{left_next, config_is, reaches_next}
use Rattle.cpu.proofs.processor.Processor.dash.Goals as goal

pub returns-in-Some-clause-left : goal.returns-in-Some-clause-left
returns-in-Some-clause-left g c =
    let inv = c.loop-count.invariant in
    left_next c.args.budget c.loop-count.count (config_of c.loop-count.self) _ (Some c.in-Some.end) (omega arith) c.in-Some.ensures.end (config_is _ _ _ _ _ inv.3 c.in-Some.ensures.next)
    ∙ inv.2

pub returns-in-Some-clause-next : goal.returns-in-Some-clause-next
returns-in-Some-clause-next g c = reaches_next _ _ _ _ _ c.loop-count.invariant.3 c.in-Some.ensures.next

pub loop-count-preserved : goal.loop-count-preserved
loop-count-preserved g c =
    let inv = c.loop-count.invariant in (
      omega arith,
      omega arith,
      left_next c.args.budget c.loop-count.count (config_of c.loop-count.self) _ None (omega arith) c.in_default.ensures.end (config_is _ _ _ _ _ inv.3 c.in_default.ensures.next)
          ∙ inv.2,
      reaches_next _ _ _ _ _ inv.3 c.in_default.ensures.next,
    )
