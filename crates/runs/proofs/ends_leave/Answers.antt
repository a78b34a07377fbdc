use Rattle.runs.proofs.Ends.{ends_leave_lem, codes_differ}
use Rattle.runs.proofs.ends_leave.Goals as goal

pub returns : goal.returns
returns c = record { leave = ends_leave_lem; codes = codes_differ }
