use Rattle.std.proofs.Common.{◌++◌, arith, length-append}
use Rattle.memory.proofs.Cuts.{length_cut}
use Rattle.memory.proofs.spliced.SplicedMemory.size.Goals as goal

pub returns-then-n-lt-LIMIT : goal.returns-then-n-lt-LIMIT
returns-then-n-lt-LIMIT g c =
    let xs = g.A.Memory.bytes c.args.self.now.first in
    let ys = g.B.Memory.bytes c.args.self.now.second in
    omega (arith, length_cut (xs ++ ys), length-append xs ys)

pub returns-else-n-lt-LIMIT : goal.returns-else-n-lt-LIMIT
returns-else-n-lt-LIMIT g c =
    let xs = g.A.Memory.bytes c.args.self.now.first in
    let ys = g.B.Memory.bytes c.args.self.now.second in
    omega (arith, length_cut (xs ++ ys), length-append xs ys)
