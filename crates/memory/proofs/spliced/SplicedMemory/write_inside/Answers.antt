use Rattle.std.proofs.Common.{ℕ, ◌^◌, ◌<◌, List, ◌++◌, refl, ap, ◌∙◌, arith, length-append}
use Rattle.memory.specs.Bytes.{cut, past}
use Rattle.memory.proofs.Cuts.{length_cut, first_set, second_set, set-cut, past_set}
use Rattle.memory.proofs.spliced.SplicedMemory.write_inside.Goals as goal

pub write_inside-requires-else-address-seam : goal.write_inside-requires-else-address-seam
write_inside-requires-else-address-seam g c =
    let xs = g.A.Memory.bytes c.args.self.now.first in
    let ys = g.B.Memory.bytes c.args.self.now.second in
    omega (arith, c.requires, length_cut (xs ++ ys), length-append xs ys)

pub returns-then-address-seam : goal.returns-then-address-seam
returns-then-address-seam g c =
    let s = g.met.A.Memory.short c.args.self.now.first in
    let l : c.args.address < 2 ^ 32 = omega arith in
    let ys = g.B.Memory.bytes c.args.self.now.second in
    let both = ap (λ (xs : List ℕ). xs ++ ys) c.write_inside.ensures.value
    ∙ first_set _ ys c.size-seam.result c.args.address c.size-seam.ensures c.args.byte (omega arith) (omega arith) (omega arith) in
    record {
      value = ap cut both ∙ set-cut _ c.args.address c.args.byte refl refl l;
      rest = ap past both ∙ past_set _ _ _ l;
    }

pub returns-else-address-seam : goal.returns-else-address-seam
returns-else-address-seam g c =
    let xs = g.A.Memory.bytes c.args.self.now.first in
    let ys = g.B.Memory.bytes c.args.self.now.second in
    let l : c.args.address < 2 ^ 32 = omega (arith, c.requires, length_cut (xs ++ ys)) in
    let both = ap (λ (ys : List ℕ). xs ++ ys) c.write_inside-else-address-seam.ensures.value
    ∙ second_set xs _ c.size-seam.result c.args.address c.size-seam.ensures c.args.byte _ (omega arith) (omega arith) in
    record {
      value = ap cut both ∙ set-cut _ c.args.address c.args.byte refl refl l;
      rest = ap past both ∙ past_set _ _ _ l;
    }
