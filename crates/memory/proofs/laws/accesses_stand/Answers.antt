use Rattle.memory.proofs.Puts.{accesses_stand_lem}
use Rattle.memory.proofs.laws.accesses_stand.Goals as goal

pub returns : goal.returns
returns c = accesses_stand_lem
