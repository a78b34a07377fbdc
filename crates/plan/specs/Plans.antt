-- What a plan holds: a list of rows, besides its size.
use Rattle.std.specs.Prelude.{◌≡◌, ℕ, List, take, Some}
use Rattle.std.specs.List.{slice_get}
use Rattle.plan.specs.declared.plan.Plan.{Plan}
use Rattle.plan.specs.declared.row.Row.{Row}

-- the rows of a plan
abbrev pub rows_of : Plan → List Row
rows_of p = take p.count p.rows

-- the plan's row k is r
abbrev pub Finds : Plan → ℕ → Row → Type 0
Finds p k r = slice_get (rows_of p) k ≡ Some r
