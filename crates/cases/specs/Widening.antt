-- Extensions, comparisons and reversals: opcodes 51 to 58 and 90 to 92.
use Rattle.std.specs.Prelude.{ℕ, List, [], ◌∷◌}
use Rattle.isa.specs.Steps.{P}
use Rattle.cases.specs.Runs.{RunCase}
use Rattle.cases.specs.Rows.{step, negative}
use Rattle.cases.specs.Computing.{of_one}

abbrev pub extensions : List RunCase
extensions =
    of_one 51 0x8182838485868788 0xFFFFFFFF85868788 ∷
    of_one 51 0x8182838475767778 0x75767778 ∷
    of_one 52 0x8182838485868788 0xFFFFFFFFFFFF8788 ∷
    of_one 52 0x8182838475767778 0x7778 ∷
    of_one 53 0x8182838485868788 0xFFFFFFFFFFFFFF88 ∷
    of_one 53 0x8182838475767778 0x78 ∷
    of_one 54 0x8182838485868788 0x85868788 ∷
    of_one 55 0x8182838485868788 0x8788 ∷
    of_one 56 0x8182838485868788 0x88 ∷
    of_one 90 0x8182838485868788 0x8887868584838281 ∷
    of_one 91 0x8182838485868788 0x88878685 ∷
    of_one 92 0x8182838485868788 0x8887 ∷
    []

-- What an opcode with the registers 1, 2 and 3 makes of the last two.
abbrev pub of_three : ℕ → ℕ → ℕ → ℕ → RunCase
of_three opcode s t result = step (opcode ∷ 1 ∷ 2 ∷ 3 ∷ []) ((1, 5) ∷ (2, s) ∷ (3, t) ∷ []) [] ((1, result) ∷ (P, 4) ∷ [])

abbrev pub comparisons : List RunCase
comparisons =
    of_three 57 (negative 1) 1 1 ∷
    of_three 57 1 (negative 1) (negative 1) ∷
    of_three 57 (negative 1) (negative 1) 0 ∷
    of_three 58 (negative 1) 1 (negative 1) ∷
    of_three 58 1 (negative 1) 1 ∷
    of_three 58 (negative 1) (negative 1) 0 ∷
    []
