use Rattle.isa.proofs.Entries.{form_agrees, length_agrees}
use Rattle.isa.proofs.laws.forms_agree.Goals as goal

pub returns : goal.returns
returns c = record { forms = form_agrees; lengths = length_agrees }
