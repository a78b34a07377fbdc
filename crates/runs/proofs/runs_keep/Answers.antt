use Rattle.runs.proofs.Keeps.{runs_keep_lem}
use Rattle.runs.proofs.runs_keep.Goals as goal

pub returns : goal.returns
returns c = runs_keep_lem
