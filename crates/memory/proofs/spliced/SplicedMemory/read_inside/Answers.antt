use Rattle.std.proofs.Common.{◌++◌, ◌∙◌, arith, length-append}
use Rattle.memory.proofs.Cuts.{length_cut, slice_index_first, slice_index_second}
use Rattle.memory.proofs.spliced.SplicedMemory.read_inside.Goals as goal

pub read_inside-requires-else-address-seam : goal.read_inside-requires-else-address-seam
read_inside-requires-else-address-seam g c =
    let xs = g.A.Memory.bytes c.args.self.now.first in
    let ys = g.B.Memory.bytes c.args.self.now.second in
    omega (arith, c.requires, length_cut (xs ++ ys), length-append xs ys)

pub returns-then-address-seam : goal.returns-then-address-seam
returns-then-address-seam g c =
    let l = g.met.A.Memory.short c.args.self.now.first in
    c.read_inside.ensures
    ∙ slice_index_first _ _ c.size-seam.result c.args.address c.size-seam.ensures (omega arith) (omega arith) (omega arith)

pub returns-else-address-seam : goal.returns-else-address-seam
returns-else-address-seam g c =
    let xs = g.A.Memory.bytes c.args.self.now.first in
    let ys = g.B.Memory.bytes c.args.self.now.second in
    c.read_inside-else-address-seam.ensures
    ∙ slice_index_second _ _ c.size-seam.result c.args.address c.size-seam.ensures _ (omega arith) (omega (arith, c.requires, length_cut (xs ++ ys)))
