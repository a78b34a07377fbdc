-- What follows from the definitions: one refusal is due at most, and what every plan keeps to.
use Rattle.std.specs.Prelude.{◌≡◌, ℕ, ◌^◌, ◌≤◌, List, length, ◌≢◌}
use Rattle.plan.specs.Areas.{Bounded, Crosses, Shares}
use Rattle.plan.specs.Grounds.{Refuses}
use Rattle.plan.specs.Plans.{Finds, rows_of}
use Rattle.plan.specs.declared.ground.LayRefusal.{LayRefusal}
use Rattle.plan.specs.declared.plan.Plan.{Plan}
use Rattle.plan.specs.declared.row.Row.{Row}

-- two refusals that are due for the same rows and size have the same ground and the same row
abbrev pub OneRefusal : Type 0
OneRefusal =
    (rows : List Row) (laid : ℕ) (e f : LayRefusal) → Refuses rows laid e → Refuses rows laid f → (e.ground ≡ f.ground) × (e.row ≡ f.row)

-- few rows and a small size, each row bounded, its window apart from its file, and rows at different numbers apart
pub record Sound (p : Plan) : Type 0 where
  pub few : length (rows_of p) ≤ 16
  pub small : p.size ≤ 2 ^ 32
  pub bounded : (k : ℕ) (r : Row) → Finds p k r → Bounded r p.size
  pub split : (k : ℕ) (r : Row) → Finds p k r → Crosses r → ⊥
  pub apart : (j k : ℕ) (q r : Row) → Finds p j q → Finds p k r → (j ≢ k) → Shares q r → ⊥
