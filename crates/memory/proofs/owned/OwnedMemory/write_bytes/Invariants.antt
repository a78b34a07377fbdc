use Rattle.std.proofs.Common.{◌≡◌, vec_items}
use Rattle.memory.specs.Bytes.{cut, past}
use Rattle.memory.proofs.Scatters.{Left}
use Rattle.memory.proofs.owned.OwnedMemory.write_bytes.Given as goal

abbrev pub invariant-loop-i : goal.invariant-loop-i
invariant-loop-i g l =
    let spread = g.E.Element.spread in
    let left = l.i-iterator.iter in
    let old = spread (vec_items l.fn.self.held) in
    record {
      value : Left left.count left.iter.rest.now l.digits (cut (spread l.held)) (cut old) l.address;
      rest : past (spread l.held) ≡ past old;
    }
