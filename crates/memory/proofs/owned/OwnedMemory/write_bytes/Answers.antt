use Rattle.std.proofs.Common.{◌+◌, ◌/◌, ◌^◌, ◌<◌, ◌≤◌, length, refl, ap, ◌∙◌, arith}
use denote.Param.{layout}
use prog.Memory.{size}
use Rattle.std.proofs.Math.Nat.{mul-le-mul_right}
use Rattle.std.proofs.lemmas.List.{with_items_is}
use Rattle.std.proofs.lemmas.Option.{slice_get-get_or}
use Rattle.memory.specs.Bytes.{cut, past}
use Rattle.memory.proofs.Cuts.{length_cut, set-cut, past_set}
use Rattle.memory.proofs.Elements.{element_inside, byte_place}
use Rattle.memory.proofs.Scatters.{left_step, place_inside, put_done}
use Rattle.memory.proofs.owned.OwnedMemory.write_bytes.Goals as goal

pub overflow_add-at : goal.overflow_add-at
overflow_add-at g c =
    let s = c.in-Some.ensures.steps in
    let h = place_inside _ _ _ _ _ _ _ _ _ c.loop-i.invariant.value s.1.0 s.1.1 c.requires in
    omega (arith, h, length_cut (g.E.Element.spread c.loop-i.held))

pub bounds-held-at : goal.bounds-held-at
bounds-held-at g c =
    let held = c.loop-i.held in
    let s = c.in-Some.ensures.steps in
    let h = place_inside _ _ _ _ _ _ _ _ _ c.loop-i.invariant.value s.1.0 s.1.1 c.requires in
    element_inside g.E.Element.spread _ held (g.met.E.Element.whole held) _ _ _ c.BYTES.ensures g.met.E.Element.some refl h

pub offset_bounds-held-at : goal.offset_bounds-held-at
offset_bounds-held-at g c =
    let i = bounds-held-at g c in
    let le : (c.args.address + c.in-Some.i) / c.BYTES.result ≤ length c.as_mut_slice-held.result.now = omega arith in
    omega (arith, mul-le-mul_right (size (layout g.row.E)) le, c.as_mut_slice-held.type_inv.1)

pub loop-i-preserved : goal.loop-i-preserved
loop-i-preserved g c =
    let held = c.loop-i.held in
    let bytes = g.E.Element.spread held in
    let s = c.in-Some.ensures.steps in
    let h = place_inside _ _ _ _ _ _ _ _ _ c.loop-i.invariant.value s.1.0 s.1.1 c.requires in
    let i = element_inside g.E.Element.spread _ held (g.met.E.Element.whole held) _ _ _ c.BYTES.ensures g.met.E.Element.some refl h in
    let l : c.args.address + c.in-Some.i < 2 ^ 32 = omega (arith, h, length_cut bytes) in
    let all = c.with_byte.ensures held _ (slice_get-get_or held _ _ i) in
    let place = byte_place (c.args.address + c.in-Some.i) _ _ _ c.BYTES.ensures c.BYTES-in-loop-i.ensures in
    record {
      value = left_step _ _ _ _ _ _ _ _ _ c.loop-i.invariant.value s.1.0 s.1.1 _ _ s.0 (λ k. (c.type_inv.digits k).fits) (ap cut all ∙ set-cut bytes _ _ place refl l);
      rest = ap past all ∙ past_set bytes _ _ (omega (arith, place, l)) ∙ c.loop-i.invariant.rest;
    }

pub returns : goal.returns
returns g c =
    let same = with_items_is c.args.self.now.held c.loop-i.held (omega arith) in
    record {
      value = ap (λ xs. cut (g.E.Element.spread xs)) same ∙ put_done _ _ _ _ _ c.in-None.ensures.steps.1.0 c.loop-i.invariant.value.still;
      rest = ap (λ xs. past (g.E.Element.spread xs)) same ∙ c.loop-i.invariant.rest;
    }
