-- The readings compute.
use Rattle.std.proofs.Common.{refl}
use Rattle.memory.specs.Bytes.{value_at}
use Rattle.isa.specs.Windows.{load}
use Rattle.isa.specs.Opcodes.{opcodes, entry_of}
use Rattle.isa.specs.Reading.{instruction_of, decoded}
use Rattle.cases.proofs.worked_readings_hold.Goals as goal

pub returns : goal.returns
unfolding value_at load opcodes entry_of instruction_of decoded
returns c = refl
