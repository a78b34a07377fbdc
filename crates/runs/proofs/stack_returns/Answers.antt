use Rattle.runs.proofs.Returning.{pops_return, calls_return}
use Rattle.runs.proofs.stack_returns.Goals as goal

pub returns : goal.returns
returns c = record { pops = pops_return; calls = calls_return }
