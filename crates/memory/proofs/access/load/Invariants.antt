use Rattle.std.proofs.Common.{◌≡◌, ◌+◌, length}
use Rattle.memory.specs.Bytes.{value_at}
use Rattle.memory.proofs.access.load.Given as goal

abbrev pub invariant-loop-i : goal.invariant-loop-i
invariant-loop-i g l = (length l.bytes ≡ 8) × (value_at l.bytes 0 (l.first + l.i) ≡ value_at (g.M.Memory.bytes l.memory) l.address l.i)
