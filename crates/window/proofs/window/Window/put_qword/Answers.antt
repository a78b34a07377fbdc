use Rattle.std.proofs.Common.{rules}
use Rattle.window.proofs.Seeing.{still_whole, parts_stored}
use Rattle.window.proofs.window.Window.put_qword.Goals as goal

pub invariant_of-self : goal.invariant_of-self
invariant_of-self g c = record { whole = search (rules, still_whole) }

pub returns-clause-parts : goal.returns-clause-parts
returns-clause-parts g c = search (rules, parts_stored)
