-- The state of a machine: the bytes of its memory, its plan, and the code and count of each compartment's latest run.
use Rattle.std.specs.Prelude.{ℕ, List, Option}
use Rattle.std.specs.List.{slice_get}
use Rattle.plan.specs.Plans.{rows_of}
use Rattle.plan.specs.declared.plan.Plan.{Plan}
use Rattle.plan.specs.declared.row.Row.{Row}

pub record State : Type 0 where
  pub held : List ℕ
  pub plan : Plan
  pub latest : List (Option (ℕ × ℕ))

-- The row of compartment k, where the plan has one.
abbrev pub row_of : Plan → ℕ → Option Row
row_of p k = slice_get (rows_of p) k
