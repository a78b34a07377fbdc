use Rattle.numbers.proofs.Reversing.{reversals_return}
use Rattle.numbers.proofs.reversals_return.Goals as goal

pub returns : goal.returns
returns c = reversals_return
