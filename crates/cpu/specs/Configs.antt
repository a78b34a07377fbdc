-- Where a run stands, as a memory's bytes, a window of it and a bank hold it.
use Rattle.std.specs.Prelude.{ℕ, ◌-◌, List, Option}
use Rattle.isa.specs.Steps.{Config, P, taking}
use Rattle.isa.specs.Runs.{Ran, after, ran_on}
use Rattle.isa.specs.declared.end.End.{End}
use Rattle.window.specs.Views.{seen}
use Rattle.window.specs.declared.extent.Extent.{Extent}
use Rattle.bank.specs.Banks.{words_of}
use Rattle.bank.specs.declared.guard.Bank.{Bank}

abbrev pub config : List ℕ → Extent → Bank → Config
config bytes e b = record { window = seen bytes e; registers = words_of b }

-- The same with P put back to p, where the instruction was begun.
abbrev pub begun : Config → ℕ → Config
begun c p = taking c P p

-- The run of a budget of which so many instructions are begun: as it has ended, or what is left of it.
abbrev pub left_of : Option End → ℕ → ℕ → Config → Ran
left_of ended budget count c = after ended (λ e. record { end = e; count = count; last = c }) (ran_on (budget - count) count c)
