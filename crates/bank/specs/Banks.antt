-- A register bank as the list of its words, in the order of the registers.
use Rattle.std.specs.Prelude.{ℕ, List}
use Rattle.std.specs.Borrow.{GName}
use Rattle.bank.specs.declared.guard.Bank.{Bank}

abbrev pub words_of : Bank → List ℕ
words_of b = b.words.now

-- The work area that the bank stands on.
abbrev pub lender : Bank → GName
lender b = b.words.ghost_name
