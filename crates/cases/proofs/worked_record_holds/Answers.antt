-- The run and the calls behind it compute.
use Rattle.std.proofs.Common.{refl, ◌∙◌}
use Rattle.memory.specs.Bytes.{bytes_of, bytes_of_all, value_at, put_at}
use Rattle.isa.specs.Windows.{load, store}
use Rattle.isa.specs.Opcodes.{opcodes, entry_of}
use Rattle.isa.specs.Reading.{instruction_of, decoded}
use Rattle.isa.specs.Steps.{stepped}
use Rattle.isa.specs.Runs.{ran_on}
use Rattle.isa.specs.Compartments.{started, filed, compartment_ran}
use Rattle.machine.specs.Calls.{Run, Last}
use Rattle.machine.specs.Machines.{opening}
use Rattle.cases.specs.Recording.{programmed, run_left}
use Rattle.cases.specs.Layings.{low_second}
use Rattle.cases.proofs.Calling.{outcome_by}
use Rattle.cases.proofs.worked_record_holds.Goals as goal

pub returns : goal.returns
unfolding bytes_of bytes_of_all value_at put_at load store opcodes entry_of instruction_of decoded stepped ran_on started filed compartment_ran
returns c plan rows size = (
  outcome_by (opening programmed plan) low_second 4152 rows size (Run 1 10 258) ∙ refl,
  outcome_by (run_left plan) low_second 4152 rows size (Last 1) ∙ refl,
  outcome_by (run_left plan) low_second 4152 rows size (Last 0) ∙ refl,
)
