use Rattle.std.proofs.Common.{vec_items, refl, ◌∙◌, arith}
use Rattle.std.proofs.lemmas.Option.{slice_get_read}
use Rattle.memory.proofs.Elements.{element_inside, byte_place}
use Rattle.memory.proofs.Cuts.{length_cut, slice_index-cut}
use Rattle.memory.proofs.owned.OwnedMemory.read_inside.Goals as goal

pub index-requires : goal.index-requires
index-requires g c =
    let held = vec_items c.args.self.now.held in
    let h = element_inside g.E.Element.spread _ held (g.met.E.Element.whole held) c.args.address _ _ c.BYTES.ensures g.met.E.Element.some refl c.requires in
    omega (arith, h, c.args.self.now.held.ok.0)

pub returns : goal.returns
returns g c =
    let held = vec_items c.args.self.now.held in
    let h = element_inside g.E.Element.spread _ held (g.met.E.Element.whole held) c.args.address _ _ c.BYTES.ensures g.met.E.Element.some refl c.requires in
    c.byte.ensures held _ (slice_get_read held _ _ _ refl h c.index.ensures)
    ∙ slice_index-cut (g.E.Element.spread held) c.args.address
    (byte_place c.args.address _ _ _ c.BYTES.ensures c.BYTES-2.ensures)
    (omega (arith, c.requires, length_cut (g.E.Element.spread held)))
