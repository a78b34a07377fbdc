use Rattle.numbers.proofs.Dividing.{division_stands, signed_stands}
use Rattle.numbers.proofs.signed_division_stands.Goals as goal

pub returns : goal.returns
returns c = record { division = division_stands; signed = signed_stands }
