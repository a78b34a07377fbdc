use Rattle.std.proofs.Common.{◌≡◌, take}
use lib.Seq.{sets}
use Rattle.machine.proofs.blocks.write_all.Given as goal

-- the bytes so far are written
abbrev pub invariant-loop-i : goal.invariant-loop-i
invariant-loop-i g l = g.M.Memory.bytes l.memory ≡ sets (g.M.Memory.bytes l.initial.memory) l.address (take l.i l.bytes)
