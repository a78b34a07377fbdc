-- Shifts, bit by bit, sums and products, and divisions: opcodes 27 to 38, 45, 46, 49, 50, 80 and 81.
use Rattle.std.specs.Prelude.{ℕ, List, [], ◌∷◌}
use Rattle.isa.specs.Steps.{P}
use Rattle.cases.specs.Runs.{RunCase}
use Rattle.cases.specs.Rows.{step, ending, negative}

-- What an opcode with the registers 1 and 2, or with register 1 alone, makes of their values: it stands in register 1.
abbrev pub of_two : ℕ → ℕ → ℕ → ℕ → RunCase
of_two opcode r s result = step (opcode ∷ 1 ∷ 2 ∷ []) ((1, r) ∷ (2, s) ∷ []) [] ((1, result) ∷ (P, 3) ∷ [])

abbrev pub of_one : ℕ → ℕ → ℕ → RunCase
of_one opcode r result = step (opcode ∷ 1 ∷ []) ((1, r) ∷ []) [] ((1, result) ∷ (P, 2) ∷ [])

abbrev pub sums : List RunCase
sums =
    of_two 27 0x8182838485868788 68 0x1828384858687880 ∷
    of_two 27 0x8182838485868788 100 0x5868788000000000 ∷
    of_two 28 0x8182838485868788 68 0xF818283848586878 ∷
    of_two 28 0x8182838485868788 100 0xFFFFFFFFF8182838 ∷
    of_two 28 0x7172737475767778 68 0x0717273747576777 ∷
    of_two 29 0xCCCCCCCCCCCCCCCC 0xAAAAAAAAAAAAAAAA 0x8888888888888888 ∷
    of_two 30 0xCCCCCCCCCCCCCCCC 0xAAAAAAAAAAAAAAAA 0xEEEEEEEEEEEEEEEE ∷
    of_two 31 0xCCCCCCCCCCCCCCCC 0xAAAAAAAAAAAAAAAA 0x6666666666666666 ∷
    of_one 32 0x8182838485868788 0x7E7D7C7B7A797877 ∷
    of_one 33 0x8182838485868788 0x7E7D7C7B7A797878 ∷
    of_one 34 0x8000000000000000 1 ∷
    of_one 34 0 0 ∷
    of_one 35 0x8000000000000000 0 ∷
    of_one 35 0 1 ∷
    of_two 36 (negative 1) 3 2 ∷
    of_two 37 3 5 (negative 2) ∷
    of_two 38 0x8000000000000003 5 0x800000000000000F ∷
    of_one 80 0x81828384858687FF 0x8182838485868800 ∷
    of_one 80 (negative 1) 0 ∷
    of_one 81 0x8182838485868800 0x81828384858687FF ∷
    of_one 81 0 (negative 1) ∷
    []

-- A division by 0: code 16, P on the opcode, and nothing changed.
abbrev pub by_zero : ℕ → RunCase
by_zero opcode = ending (0 ∷ opcode ∷ 1 ∷ 2 ∷ []) ((P, 1) ∷ (1, 7) ∷ []) 16 []

abbrev pub divisions : List RunCase
divisions =
    of_two 45 0x8182838485868789 2 0x40C141C242C343C4 ∷
    of_two 46 0x8182838485868789 2 0xC0C141C242C343C5 ∷
    of_two 49 0x8182838485868789 2 1 ∷
    of_two 50 0x8182838485868789 2 (negative 1) ∷
    of_two 45 7 (negative 2) 0 ∷
    of_two 46 7 (negative 2) (negative 3) ∷
    of_two 49 7 (negative 2) 7 ∷
    of_two 50 7 (negative 2) 1 ∷
    of_two 46 0x8000000000000000 (negative 1) 0x8000000000000000 ∷
    of_two 50 0x8000000000000000 (negative 1) 0 ∷
    by_zero 45 ∷
    by_zero 46 ∷
    by_zero 49 ∷
    by_zero 50 ∷
    []
