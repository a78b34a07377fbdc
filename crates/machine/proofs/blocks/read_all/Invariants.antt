use Rattle.std.proofs.Common.{◌≡◌, take}
use Rattle.machine.specs.Outcomes.{part}
use Rattle.machine.proofs.blocks.read_all.Given as goal

-- the bytes so far are filled in
abbrev pub invariant-loop-i : goal.invariant-loop-i
invariant-loop-i g l = take l.i l.buffer ≡ part (g.M.Memory.bytes l.memory) l.address l.i
