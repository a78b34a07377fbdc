-- At no row so far a ground applies.
use Rattle.std.proofs.Common.{ℕ, ◌<◌}
use Rattle.plan.specs.Grounds.{Applies}
use Rattle.plan.specs.declared.ground.Ground.{Ground}
use Rattle.plan.proofs.layout.lay.Given as goal

abbrev pub invariant-loop-i : goal.invariant-loop-i
invariant-loop-i l = (g : Ground) (k : ℕ) → k < l.i → Applies g l.rows l.laid_size k → ⊥
