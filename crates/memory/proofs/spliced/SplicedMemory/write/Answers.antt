use Rattle.std.proofs.Common.{ℕ, ◌^◌, ◌<◌, List, ◌++◌, refl, ap, ◌∙◌, arith}
use Rattle.memory.specs.Bytes.{cut, past}
use Rattle.memory.proofs.Cuts.{first_set, second_set, set-cut, past_set, set_out}
use Rattle.memory.proofs.spliced.SplicedMemory.write.Goals as goal

pub returns-then-address-seam : goal.returns-then-address-seam
returns-then-address-seam g c =
    let s = g.met.A.Memory.short c.args.self.now.first in
    let l : c.args.address < 2 ^ 32 = omega arith in
    let ys = g.B.Memory.bytes c.args.self.now.second in
    let both = ap (λ (xs : List ℕ). xs ++ ys) c.write.ensures.value
    ∙ first_set _ ys c.size-seam.result c.args.address c.size-seam.ensures c.args.byte (omega arith) (omega arith) (omega arith) in
    record {
      value = ap cut both ∙ set-cut _ c.args.address c.args.byte refl refl l;
      rest = ap past both ∙ past_set _ _ _ l;
    }

pub returns-then-address-lt-LIMIT : goal.returns-then-address-lt-LIMIT
returns-then-address-lt-LIMIT g c =
    let l : c.args.address < 2 ^ 32 = omega arith in
    let xs = g.A.Memory.bytes c.args.self.now.first in
    let both = ap (λ (ys : List ℕ). xs ++ ys) c.write-then-address-lt-LIMIT.ensures.value
    ∙ second_set xs _ c.size-seam.result c.args.address c.size-seam.ensures c.args.byte _ (omega arith) (omega arith) in
    record {
      value = ap cut both ∙ set-cut _ c.args.address c.args.byte refl refl l;
      rest = ap past both ∙ past_set _ _ _ l;
    }

pub returns-else-address-lt-LIMIT : goal.returns-else-address-lt-LIMIT
returns-else-address-lt-LIMIT g c =
    record { value = set_out _ c.args.address c.args.byte (omega arith); rest = refl }
