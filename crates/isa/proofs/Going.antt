-- A run, one instruction at a time.
use Rattle.std.proofs.Common.{◌≡◌, ℕ, suc, ◌+◌, Some, None, refl}
use Rattle.isa.specs.Steps.{Config, stepped}
use Rattle.isa.specs.Runs.{ran_on}
use Rattle.isa.specs.declared.end.End.{End}
use Rattle.isa.specs.declared.end.End.TheVariants.{Budget}

pub ran_goes : (left count : ℕ) (c : Config) → (stepped c).end ≡ None → ran_on (suc left) count c ≡ ran_on left (count + 1) (stepped c).next
unfolding ran_on
ran_goes left count c h = rw h

pub ran_ends : (left count : ℕ) (c : Config) (e : End) → (stepped c).end ≡ Some e → ran_on (suc left) count c ≡ record { end = e; count = count + 1; last = (stepped c).next }
unfolding ran_on
ran_ends left count c e h = rw h

pub ran_spent : (count : ℕ) (c : Config) → ran_on 0 count c ≡ record { end = Budget; count = count; last = c }
unfolding ran_on
ran_spent count c = refl
