use Rattle.memory.proofs.Scatters.{left_step, place_inside, put_done}
use Rattle.memory.proofs.meaning.Memory.write_bytes.Goals as goal

pub write_inside-requires : goal.write_inside-requires
write_inside-requires g c =
    let s = c.in-Some.ensures.steps in
    place_inside _ _ _ _ _ _ _ _ _ c.loop-i.invariant s.1.0 s.1.1 c.requires

pub loop-i-preserved : goal.loop-i-preserved
loop-i-preserved g c =
    let s = c.in-Some.ensures.steps in
    left_step _ _ _ _ _ _ _ _ _ c.loop-i.invariant s.1.0 s.1.1 _ _ s.0 (λ k. (c.type_inv.digits k).fits) c.write_inside.ensures.value

pub returns : goal.returns
returns g c = record { value = put_done _ _ _ _ _ c.in-None.ensures.steps.1.0 c.loop-i.invariant.still }
