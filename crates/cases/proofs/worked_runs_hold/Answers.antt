-- Each list computes.
use Rattle.std.proofs.Common.{refl}
use Rattle.memory.specs.Bytes.{bytes_of, bytes_of_all, value_at, put_at}
use Rattle.isa.specs.Windows.{load, store}
use Rattle.isa.specs.Opcodes.{opcodes, entry_of}
use Rattle.isa.specs.Reading.{instruction_of, decoded}
use Rattle.isa.specs.Steps.{stepped}
use Rattle.isa.specs.Runs.{ran_on}
use Rattle.isa.specs.Compartments.{started, filed, compartment_ran}
use Rattle.cases.proofs.worked_runs_hold.Goals as goal

pub returns-clause-worked : goal.returns-clause-worked
unfolding bytes_of bytes_of_all value_at put_at load store opcodes entry_of instruction_of decoded stepped ran_on started filed compartment_ran
returns-clause-worked c = refl

pub returns-clause-endings : goal.returns-clause-endings
unfolding bytes_of bytes_of_all value_at put_at load store opcodes entry_of instruction_of decoded stepped ran_on started filed compartment_ran
returns-clause-endings c = refl

pub returns-clause-unknowns : goal.returns-clause-unknowns
unfolding bytes_of bytes_of_all value_at put_at load store opcodes entry_of instruction_of decoded stepped ran_on started filed compartment_ran
returns-clause-unknowns c = refl

pub returns-clause-literals : goal.returns-clause-literals
unfolding bytes_of bytes_of_all value_at put_at load store opcodes entry_of instruction_of decoded stepped ran_on started filed compartment_ran
returns-clause-literals c = refl

pub returns-clause-loads : goal.returns-clause-loads
unfolding bytes_of bytes_of_all value_at put_at load store opcodes entry_of instruction_of decoded stepped ran_on started filed compartment_ran
returns-clause-loads c = refl

pub returns-clause-stores : goal.returns-clause-stores
unfolding bytes_of bytes_of_all value_at put_at load store opcodes entry_of instruction_of decoded stepped ran_on started filed compartment_ran
returns-clause-stores c = refl

pub returns-clause-moves : goal.returns-clause-moves
unfolding bytes_of bytes_of_all value_at put_at load store opcodes entry_of instruction_of decoded stepped ran_on started filed compartment_ran
returns-clause-moves c = refl

pub returns-clause-sums : goal.returns-clause-sums
unfolding bytes_of bytes_of_all value_at put_at load store opcodes entry_of instruction_of decoded stepped ran_on started filed compartment_ran
returns-clause-sums c = refl

pub returns-clause-divisions : goal.returns-clause-divisions
unfolding bytes_of bytes_of_all value_at put_at load store opcodes entry_of instruction_of decoded stepped ran_on started filed compartment_ran
returns-clause-divisions c = refl

pub returns-clause-extensions : goal.returns-clause-extensions
unfolding bytes_of bytes_of_all value_at put_at load store opcodes entry_of instruction_of decoded stepped ran_on started filed compartment_ran
returns-clause-extensions c = refl

pub returns-clause-comparisons : goal.returns-clause-comparisons
unfolding bytes_of bytes_of_all value_at put_at load store opcodes entry_of instruction_of decoded stepped ran_on started filed compartment_ran
returns-clause-comparisons c = refl

pub returns-clause-jumps : goal.returns-clause-jumps
unfolding bytes_of bytes_of_all value_at put_at load store opcodes entry_of instruction_of decoded stepped ran_on started filed compartment_ran
returns-clause-jumps c = refl

pub returns-clause-stacks : goal.returns-clause-stacks
unfolding bytes_of bytes_of_all value_at put_at load store opcodes entry_of instruction_of decoded stepped ran_on started filed compartment_ran
returns-clause-stacks c = refl

pub returns-clause-offsets : goal.returns-clause-offsets
unfolding bytes_of bytes_of_all value_at put_at load store opcodes entry_of instruction_of decoded stepped ran_on started filed compartment_ran
returns-clause-offsets c = refl

pub returns-clause-edges : goal.returns-clause-edges
unfolding bytes_of bytes_of_all value_at put_at load store opcodes entry_of instruction_of decoded stepped ran_on started filed compartment_ran
returns-clause-edges c = refl

pub returns-clause-wraps : goal.returns-clause-wraps
unfolding bytes_of bytes_of_all value_at put_at load store opcodes entry_of instruction_of decoded stepped ran_on started filed compartment_ran
returns-clause-wraps c = refl

pub returns-clause-twice : goal.returns-clause-twice
unfolding bytes_of bytes_of_all value_at put_at load store opcodes entry_of instruction_of decoded stepped ran_on started filed compartment_ran
returns-clause-twice c = refl

pub returns-clause-saves : goal.returns-clause-saves
unfolding bytes_of bytes_of_all value_at put_at load store opcodes entry_of instruction_of decoded stepped ran_on started filed compartment_ran
returns-clause-saves c = refl
