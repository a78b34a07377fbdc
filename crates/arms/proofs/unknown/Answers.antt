use Rattle.std.proofs.Common.{subst}
use Rattle.isa.proofs.Entries.{entry_past}
use Rattle.arms.proofs.unknown.Goals as goal

pub returns : goal.returns
returns g c = subst (λ e. g.R.Rows.does c.args.rows.now e c.row.new.self) (entry_past _ c.requires.lacking) c.row.ensures
