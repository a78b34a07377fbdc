use Rattle.std.proofs.Common.{◌≡◌, ℕ, length, ap, ◌∙◌, arith, rules}
use Rattle.memory.specs.Bytes.{value_at, put_at}
use Rattle.memory.proofs.Scatters.{left_step, place_inside, put_done}
use Rattle.memory.proofs.meaning.Memory.write_qword.Goals as goal

pub write_inside-requires : goal.write_inside-requires
write_inside-requires g c =
    let s = c.in-Some.ensures.steps in
    let long : length c.args.digits ≡ 8 = search rules in
    place_inside _ _ _ _ _ _ _ _ _ c.loop-i.invariant s.1.0 s.1.1 (omega (arith, c.requires))

pub loop-i-preserved : goal.loop-i-preserved
loop-i-preserved g c =
    let s = c.in-Some.ensures.steps in
    left_step _ _ _ _ _ _ _ _ _ c.loop-i.invariant s.1.0 s.1.1 _ _ s.0 (λ k. search rules) c.write_inside.ensures.value

pub returns : goal.returns
returns g c =
    let long : length c.args.digits ≡ 8 = search rules in
    record {
      value = put_done _ _ _ _ _ c.in-None.ensures.steps.1.0 c.loop-i.invariant.still
          ∙ ap (λ (n : ℕ). put_at (g.Self.Memory.bytes c.args.self.now) c.args.address n (value_at c.args.digits 0 n)) long;
    }
