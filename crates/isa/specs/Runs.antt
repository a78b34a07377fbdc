-- The run of a budget: steps until an instruction ends the run or the budget is spent.
use Rattle.std.specs.Prelude.{ℕ, zero, suc, ◌+◌, Some, None, Option}
use Rattle.isa.specs.Steps.{Config, stepped}
use Rattle.isa.specs.declared.end.End.{End}
use Rattle.isa.specs.declared.end.End.TheVariants.{Budget}

-- How the run ended, how many instructions were begun, and where it stands.
pub record Ran : Type 0 where
  pub end : End
  pub count : ℕ
  pub last : Config

abbrev pub after : Option End → (End → Ran) → Ran → Ran
after (Some e) ended more = ended e
after None ended more = more

-- left: what is left of the budget; count: the instructions begun so far
unfoldable pub ran_on : ℕ → ℕ → Config → Ran
ran_on zero count c = record { end = Budget; count = count; last = c }
ran_on (suc left) count c =
    after (stepped c).end
    (λ e. record { end = e; count = count + 1; last = (stepped c).next })
    (ran_on left (count + 1) (stepped c).next)

abbrev pub ran : ℕ → Config → Ran
ran budget c = ran_on budget 0 c
