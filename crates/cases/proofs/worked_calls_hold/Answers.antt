-- Each list computes, once the plan's rows and laid size stand there.
use Rattle.std.proofs.Common.{◌≡◌, ℕ, List, Some, refl, ap, ◌∙◌}
use Rattle.memory.specs.Bytes.{bytes_of, value_at, put_at}
use Rattle.isa.specs.Windows.{load}
use Rattle.isa.specs.Opcodes.{opcodes, entry_of}
use Rattle.isa.specs.Reading.{instruction_of, decoded}
use Rattle.isa.specs.Steps.{stepped}
use Rattle.isa.specs.Runs.{ran_on}
use Rattle.isa.specs.Compartments.{Ended, started, compartment_ran}
use Rattle.isa.specs.declared.end.End.TheVariants.{Halt}
use Rattle.machine.specs.Calls.{Answer, Ended as EndedWith}
use Rattle.machine.specs.Machines.{opening}
use Rattle.machine.specs.Outcomes.{part}
use Rattle.cases.specs.Calling.{memory}
use Rattle.cases.specs.Refusing.{compartments, indexes, lowest, memories, refused_runs, spans}
use Rattle.cases.proofs.Calling.{admitted, at_once, run_ends, second, with_rows}
use Rattle.cases.proofs.worked_calls_hold.Goals as goal

abbrev window : List ℕ
window = part (memory 4152) 2072 16

abbrev file : List ℕ
file = part (memory 4152) 2088 2064

abbrev answer : ℕ → Answer
answer budget = EndedWith (compartment_ran window file 256 budget).code (compartment_ran window file 256 budget).count

answer_0 : answer 0 ≡ EndedWith 2 0
unfolding ran_on compartment_ran
answer_0 = refl

answer_1 : answer 1 ≡ EndedWith 0 1
unfolding bytes_of value_at load opcodes entry_of instruction_of decoded stepped ran_on started compartment_ran
answer_1 = refl

halts : (stepped (record { window = window; registers = started file 256 })).end ≡ Some Halt
unfolding bytes_of value_at load opcodes entry_of instruction_of decoded stepped started
halts = refl

answer_million : answer 1000000 ≡ EndedWith 0 1
answer_million = ap (λ (e : Ended). EndedWith e.code e.count) (at_once window file 256 999999 Halt halts) ∙ answer_1

pub returns-clause-accepted_runs : goal.returns-clause-accepted_runs
returns-clause-accepted_runs c = (
  λ plan rows size. run_ends (opening (memory 4152) plan) 1 0 second (admitted plan rows size) refl ∙ answer_0,
  λ plan rows size. run_ends (opening (memory 4152) plan) 1 1 second (admitted plan rows size) refl ∙ answer_1,
  λ plan rows size. run_ends (opening (memory 4152) plan) 1 1000000 second (admitted plan rows size) refl ∙ answer_million,
)

pub returns-clause-memories : goal.returns-clause-memories
unfolding put_at value_at
returns-clause-memories c plan rows size = with_rows plan rows size memories ∙ refl

pub returns-clause-compartments : goal.returns-clause-compartments
unfolding put_at value_at
returns-clause-compartments c plan rows size = with_rows plan rows size compartments ∙ refl

pub returns-clause-spans : goal.returns-clause-spans
unfolding put_at value_at
returns-clause-spans c plan rows size = with_rows plan rows size spans ∙ refl

pub returns-clause-indexes : goal.returns-clause-indexes
unfolding put_at value_at
returns-clause-indexes c plan rows size = with_rows plan rows size indexes ∙ refl

pub returns-clause-refused_runs : goal.returns-clause-refused_runs
unfolding put_at value_at
returns-clause-refused_runs c plan rows size = with_rows plan rows size refused_runs ∙ refl

pub returns-clause-lowest : goal.returns-clause-lowest
unfolding put_at value_at
returns-clause-lowest c plan rows size = with_rows plan rows size lowest ∙ refl
