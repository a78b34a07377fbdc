use Rattle.std.proofs.Common.{arith}
use Rattle.machine.proofs.Parts.{sets_more}
use Rattle.machine.proofs.blocks.write_all.Goals as goal

pub loop-i-preserved : goal.loop-i-preserved
loop-i-preserved g c =
    sets_more c.args.bytes.now (g.M.Memory.bytes c.args.memory.now) c.args.address c.loop-i.i c.write.ensures.value (omega arith) (omega arith) (omega arith) c.loop-i.invariant
