use Rattle.numbers.proofs.Registers.{registers_divide}
use Rattle.numbers.proofs.registers_divide.Goals as goal

pub returns-clause-signed : goal.returns-clause-signed
returns-clause-signed c = registers_divide
