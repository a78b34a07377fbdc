use Rattle.std.proofs.Common.{◌≡◌, ◌+◌}
use Rattle.memory.specs.Bytes.{value_at, put_at}
use Rattle.memory.specs.Widths.{width_bytes}
use Rattle.memory.proofs.access.store.Given as goal

abbrev pub invariant-loop-i : goal.invariant-loop-i
invariant-loop-i g l =
    put_at (g.M.Memory.bytes l.memory) l.address l.i (value_at l.bytes 0 (l.first + l.i)) ≡ put_at (g.M.Memory.bytes l.fn.memory) l.address (width_bytes l.fn.width) l.value
