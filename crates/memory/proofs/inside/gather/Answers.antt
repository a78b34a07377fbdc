use Rattle.std.proofs.Common.{◌≡◌, ◌+◌, get_or, arith, rules}
use Rattle.memory.proofs.Gathers.{from_fn_each}
use Rattle.memory.proofs.inside.gather.Goals as goal

pub returns : goal.returns
returns g c =
    let bytes = g.M.Memory.bytes c.args.memory.now in
    record {
      length = c.from_fn.ensures.items.long;
      each = λ k h. from_fn_each _ _ (λ i y. y ≡ get_or bytes (c.args.address + i) 0) (λ i y q s. let m = s.met in (search rules, search rules)) c.from_fn.result 0 _ 0 k c.from_fn.ensures.items.each (omega arith) (omega (arith, h));
    }
