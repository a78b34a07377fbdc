-- A run as a chain of instructions, and what a chain says of the run of a budget.
use Rattle.std.specs.Prelude.{◌≡◌, ℕ, zero, suc, ◌+◌, ◌<◌, ◌≤◌, Some, None, ◌≢◌}
use Rattle.isa.specs.Steps.{Config, stepped}
use Rattle.isa.specs.Runs.{ran}
use Rattle.isa.specs.declared.end.End.{End}
use Rattle.isa.specs.declared.end.End.TheVariants.{Budget}

-- From c on n instructions are begun, none of them ends the run, and the run then stands at d.
abbrev pub Goes : ℕ → Config → Config → Type 0
Goes zero c d = c ≡ d
Goes (suc n) c d = ((stepped c).end ≡ None) × Goes n (stepped c).next d

-- The instruction at c ends the run with e and leaves it at d.
abbrev pub EndsWith : Config → End → Config → Type 0
EndsWith c e d = stepped c ≡ record { end = Some e; next = d }

-- A chain of n instructions leads from c to an instruction that ends the run with e and leaves it at f.
pub record Leads (c : Config) (n : ℕ) (e : End) (f : Config) : Type 0 where
  pub before : Config
  pub chain : Goes n c before
  pub ending : EndsWith before e f

-- The budget is spent exactly where a chain of that many instructions exists, and another end comes with the count
-- n + 1 exactly where a chain of n, fewer than the budget, leads to an instruction that ends so.
pub record ChainsDecide (budget : ℕ) (c : Config) : Type 0 where
  pub spent : (d : Config) → Goes budget c d → ran budget c ≡ record { end = Budget; count = budget; last = d }
  pub spent_only : (ran budget c).end ≡ Budget → Goes budget c (ran budget c).last × ((ran budget c).count ≡ budget)
  pub ended : (n : ℕ) (e : End) (f : Config) → n < budget → Leads c n e f → ran budget c ≡ record { end = e; count = n + 1; last = f }
  pub ended_only :
      ((ran budget c).end ≢ Budget)
      → (n : ℕ) × (n < budget) × ((ran budget c).count ≡ n + 1) × Leads c n (ran budget c).end (ran budget c).last

abbrev pub AllChainsDecide : Type 0
AllChainsDecide = (budget : ℕ) (c : Config) → ChainsDecide budget c

-- A run that ends by itself is the same under every larger budget.
abbrev pub LargerAgree : Type 0
LargerAgree =
    (budget larger : ℕ) (c : Config) → ((ran budget c).end ≢ Budget) → budget ≤ larger → ran larger c ≡ ran budget c

abbrev pub CountWithin : Type 0
CountWithin = (budget : ℕ) (c : Config) → (ran budget c).count ≤ budget
