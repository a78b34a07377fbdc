use Rattle.std.proofs.Common.{rules}
use Rattle.machine.proofs.Separating.{kept_apart}
use Rattle.machine.proofs.machine.Machine.make.Goals as goal

pub returns-clause-apart : goal.returns-clause-apart
returns-clause-apart g c = kept_apart _ (g.M.Memory.bytes c.args.memory) c.args.plan (search rules)
