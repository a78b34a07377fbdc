use Rattle.std.proofs.Common.{vec_items, arith}
use Rattle.memory.proofs.Elements.{few_elements, many_elements}
use Rattle.memory.proofs.owned.OwnedMemory.size.Goals as goal

pub returns-then-n-BYTES : goal.returns-then-n-BYTES
returns-then-n-BYTES g c =
    let held = vec_items c.args.self.now.held in
    rw (c.BYTES-then-n-BYTES.ensures)
    (few_elements g.E.Element.spread _ held (g.met.E.Element.whole held) _ _ c.BYTES.ensures g.met.E.Element.even
    (omega (arith, c.args.self.now.held.ok.0)) c.if-n-BYTES.true)

pub returns-else-n-BYTES : goal.returns-else-n-BYTES
returns-else-n-BYTES g c =
    let held = vec_items c.args.self.now.held in
    many_elements g.E.Element.spread _ held (g.met.E.Element.whole held) c.len-n.result _ c.BYTES.ensures g.met.E.Element.even
    (omega (arith, c.args.self.now.held.ok.0)) c.if-n-BYTES.false
