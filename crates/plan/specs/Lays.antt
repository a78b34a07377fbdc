-- What laying rows answers, and the plan that it leaves.
use Rattle.std.specs.Prelude.{◌≡◌, ℕ, List, Ok, Err, Result}
use Rattle.plan.specs.Grounds.{Faultless, Refuses, ground_number}
use Rattle.plan.specs.Plans.{rows_of}
use Rattle.plan.specs.declared.row.Row.{Row}
use Rattle.plan.specs.declared.ground.LayRefusal.{LayRefusal}
use Rattle.plan.specs.declared.plan.Plan.{Plan}

-- the answer of a lay: that it was accepted, or a refusal's number, its row and its other row
pub data Laid : Type 0 where
  Accepted : Laid
  Refused : ℕ → ℕ → ℕ → Laid

-- the answer, as its result says it
abbrev pub laid_answer : Result (Unit {0}) LayRefusal → Laid
laid_answer (Ok _) = Accepted
laid_answer (Err e) = Refused (ground_number e.ground) e.row e.other

-- the answer is due: accepted where no ground applies, else the refusal with this number, row and other row
abbrev pub IsDue : List Row → ℕ → Laid → Type 0
IsDue rows laid Accepted = Faultless rows laid
IsDue rows laid (Refused number row other) =
    (e : LayRefusal) × (ground_number e.ground ≡ number) × (e.row ≡ row) × (e.other ≡ other) × Refuses rows laid e

-- no ground applies, and the plan is those rows and that size
pub record Accepts (rows : List Row) (laid : ℕ) (p : Plan) : Type 0 where
  pub no_ground : Faultless rows laid
  pub same_rows : rows_of p ≡ rows
  pub same_size : p.size ≡ laid

-- rows and a laid size, the plan before, the answer, and the plan after
abbrev pub Lays : List Row → ℕ → Plan → Result (Unit {0}) LayRefusal → Plan → Type 0
Lays rows laid before (Ok _) after = Accepts rows laid after
Lays rows laid before (Err e) after = Refuses rows laid e × (after ≡ before)
