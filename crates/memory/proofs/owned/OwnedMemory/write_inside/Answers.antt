use Rattle.std.proofs.Common.{vec_items, refl, ap, ◌∙◌, arith}
use Rattle.std.proofs.lemmas.Option.{slice_get_read}
use Rattle.memory.specs.Bytes.{cut, past}
use Rattle.memory.proofs.Elements.{element_inside, byte_place}
use Rattle.memory.proofs.Cuts.{length_cut, set-cut, past_set}
use Rattle.memory.proofs.owned.OwnedMemory.write_inside.Goals as goal

pub index-requires : goal.index-requires
index-requires g c =
    let held = vec_items c.args.self.now.held in
    let h = element_inside g.E.Element.spread _ held (g.met.E.Element.whole held) c.args.address _ _ c.BYTES.ensures g.met.E.Element.some refl c.requires in
    omega (arith, h, c.args.self.now.held.ok.0)

pub index_mut-requires : goal.index_mut-requires
index_mut-requires g c =
    let held = vec_items c.args.self.now.held in
    let h = element_inside g.E.Element.spread _ held (g.met.E.Element.whole held) c.args.address _ _ c.BYTES.ensures g.met.E.Element.some refl c.requires in
    omega (arith, h, c.args.self.now.held.ok.0)

pub returns : goal.returns
returns g c =
    let held = vec_items c.args.self.now.held in
    let a = c.args.address in
    let bytes = g.E.Element.spread held in
    let l = length_cut bytes in
    let h = element_inside g.E.Element.spread _ held (g.met.E.Element.whole held) a _ _ c.BYTES.ensures g.met.E.Element.some refl c.requires in
    let all = c.with_byte.ensures held _ (slice_get_read held _ _ _ refl h c.index.ensures) in
    let place = byte_place a _ _ _ c.BYTES.ensures c.BYTES-2.ensures in
    record {
      value = ap cut all ∙ set-cut bytes a c.args.byte place refl (omega (arith, c.requires));
      rest = ap past all ∙ past_set bytes _ _ (omega (arith, place, c.requires));
    }
