use Rattle.memory.proofs.Scatters.{Left}
use Rattle.memory.proofs.meaning.Memory.write_bytes.Given as goal

abbrev pub invariant-loop-i : goal.invariant-loop-i
invariant-loop-i g l =
    let rest = l.i-iterator.iter in
    Left rest.count rest.iter.rest.now l.digits (g.Self.Memory.bytes l.self) (g.Self.Memory.bytes l.fn.self) l.address
