-- A worked call of `run` that is accepted, with the whole state that it leaves, and `last` behind it.
use Rattle.std.specs.Prelude.{◌≡◌, ℕ, List, [], ◌∷◌, replicate, Some, None}
use Rattle.plan.specs.Plans.{rows_of}
use Rattle.plan.specs.declared.plan.Plan.{Plan}
use Rattle.machine.specs.Calls.{Run, Last, Ended, Latest}
use Rattle.machine.specs.Machines.{opening}
use Rattle.machine.specs.Outcomes.{outcome}
use Rattle.machine.specs.States.{State}
use Rattle.cases.specs.Runs.{changed}
use Rattle.cases.specs.Rows.{from}
use Rattle.cases.specs.Layings.{low_second}
use Rattle.cases.specs.Worked.{literal}

-- Compartment 1's window, at 0 to 7, has a program that puts 200 into register 5 and halts.
abbrev pub programmed : List ℕ
programmed = changed (replicate 4152 0) (from 0 literal)

-- Entry 5 is 200, P is 4, and compartment 1 has a record.
abbrev pub run_left : Plan → State
run_left plan = record {
  held = changed programmed ((55, 200) ∷ (2063, 4) ∷ []);
  plan = plan;
  latest = None ∷ Some (0, 2) ∷ replicate 14 None;
}

abbrev pub RunRecords : Type 0
RunRecords =
    (plan : Plan) → rows_of plan ≡ low_second → plan.size ≡ 4152
    → (outcome (opening programmed plan) (Run 1 10 258) ≡ (Ended 0 2, run_left plan))
    × (outcome (run_left plan) (Last 1) ≡ (Latest (Some (0, 2)), run_left plan))
    × (outcome (run_left plan) (Last 0) ≡ (Latest None, run_left plan))
