use Rattle.std.proofs.Common.{◌∙◌, arith}
use Rattle.memory.proofs.Cuts.{slice_index_first, slice_index_second, slice_index_out}
use Rattle.memory.proofs.spliced.SplicedMemory.read.Goals as goal

pub returns-then-address-seam : goal.returns-then-address-seam
returns-then-address-seam g c =
    let l = g.met.A.Memory.short c.args.self.now.first in
    c.read.ensures
    ∙ slice_index_first _ _ c.size-seam.result c.args.address c.size-seam.ensures (omega arith) (omega arith) (omega arith)

pub returns-then-address-lt-LIMIT : goal.returns-then-address-lt-LIMIT
returns-then-address-lt-LIMIT g c =
    c.read-then-address-lt-LIMIT.ensures
    ∙ slice_index_second _ _ c.size-seam.result c.args.address c.size-seam.ensures _ (omega arith) (omega arith)

pub returns-else-address-lt-LIMIT : goal.returns-else-address-lt-LIMIT
returns-else-address-lt-LIMIT g c = slice_index_out _ c.args.address (omega arith)
