use Rattle.runs.proofs.Walks.{count_within}
use Rattle.runs.proofs.count_is_within_budget.Goals as goal

pub returns : goal.returns
returns c = count_within
