use Rattle.runs.proofs.Walks.{larger_agree}
use Rattle.runs.proofs.larger_budgets_agree.Goals as goal

pub returns : goal.returns
returns c = larger_agree
