use Rattle.runs.proofs.Walks.{chains_decide_lem}
use Rattle.runs.proofs.chains_decide.Goals as goal

pub returns : goal.returns
returns c = chains_decide_lem
