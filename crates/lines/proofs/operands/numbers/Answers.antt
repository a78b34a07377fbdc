use Rattle.std.proofs.Common.{arith, rules}
use Rattle.lines.specs.Faulty.{EndFails}
use Rattle.lines.proofs.Filling.{filled_fails, filled_more, next_fails}
use Rattle.lines.proofs.operands.numbers.Goals as goal

pub loop-i-preserved : goal.loop-i-preserved
loop-i-preserved g c =
    let h = c.in_ok-values.ensures in
    filled_more c.args.operands c.args.words.now c.loop-i.i c.loop-i.values _ h.0 _ c.in_ok-values.field-0
    (omega arith) c.loop-i.invariant.0 c.loop-i.invariant.2 h.1 h.2 c.loop-i.invariant.3

pub returns-in_err-values : goal.returns-in_err-values
returns-in_err-values g c =
    let fails = next_fails EndFails c.in_err-values.field-0.0 c.args.operands c.args.words.now c.loop-i.values c.loop-i.i c.loop-i.invariant.1 c.loop-i.invariant.3 _ (omega arith) c.loop-i.invariant.2 c.in_err-values.ensures in
    search rules

pub returns-in_err-end : goal.returns-in_err-end
returns-in_err-end g c =
    let fails = filled_fails EndFails c.in_err-end.field-0.0 c.args.operands c.args.words.now c.loop-i.values c.loop-i.i c.loop-i.invariant.1 c.loop-i.invariant.3 _ (omega arith) c.loop-i.invariant.2 c.in_err-end.ensures in
    search rules
