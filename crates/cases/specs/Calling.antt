-- Worked calls: what a machine answers, and what the call leaves.
use Rattle.std.specs.Prelude.{◌≡◌, ℕ, List, [], ◌∷◌, map, replicate}
use Rattle.plan.specs.Plans.{rows_of}
use Rattle.plan.specs.declared.plan.Plan.{Plan}
use Rattle.machine.specs.Calls.{Call, Run, Answer, Refused, Done, Ended}
use Rattle.machine.specs.Machines.{opening}
use Rattle.machine.specs.Outcomes.{outcome}
use Rattle.machine.specs.States.{State}
use Rattle.cases.specs.Runs.{changed}
use Rattle.cases.specs.Layings.{two_compartments}

-- The size of the memory and the call; the answer, and the bytes that have changed.
pub record CallCase : Type 0 where
  pub size : ℕ
  pub call : Call
  pub answer : Answer
  pub stored : List (ℕ × ℕ)

-- A memory of zeros but for 9 in the last byte of compartment 1's window, and 32 in the last of its register file.
abbrev pub memory : ℕ → List ℕ
memory size = changed (replicate size 0) ((2087, 9) ∷ (4151, 32) ∷ [])

-- The state that a call leaves; no compartment has run.
abbrev pub state_left : CallCase → Plan → State
state_left c plan = opening (changed (memory c.size) c.stored) plan

-- On a machine straight from its making, under any plan of these two rows and this laid size.
abbrev pub AllAnswer : List CallCase → Type 0
AllAnswer cases =
    (plan : Plan) → rows_of plan ≡ two_compartments → plan.size ≡ 4152
    → map (λ c. outcome (opening (memory c.size) plan) c.call) cases ≡ map (λ c. (c.answer, state_left c plan)) cases

-- There, a run of compartment 1 with this budget and a work area of 258 qwords ends with this code and this count.
abbrev pub Ends : ℕ → ℕ → ℕ → Type 0
Ends budget code count =
    (plan : Plan) → rows_of plan ≡ two_compartments → plan.size ≡ 4152
    → (outcome (opening (memory 4152) plan) (Run 1 budget 258)).0 ≡ Ended code count

-- A call that changes nothing; one that is refused; one that stores bytes.
abbrev pub asks : Call → Answer → CallCase
asks call answer = record { size = 4152; call = call; answer = answer; stored = [] }

abbrev pub refused : Call → ℕ → CallCase
refused call number = asks call (Refused number)

abbrev pub writes : Call → List (ℕ × ℕ) → CallCase
writes call stored = record { size = 4152; call = call; answer = Done; stored = stored }

-- A call that is refused because the memory has one byte less than the laid size.
abbrev pub too_small : Call → CallCase
too_small call = record { size = 4151; call = call; answer = Refused 107; stored = [] }
