-- The instructions that end a run, and the one that does nothing: opcodes 0 to 5 and the unknown ones.
use Rattle.std.specs.Prelude.{ℕ, List, [], ◌∷◌}
use Rattle.isa.specs.Steps.{P, S}
use Rattle.cases.specs.Runs.{RunCase}
use Rattle.cases.specs.Rows.{step, ending}

abbrev pub endings : List RunCase
endings =
    ending (0 ∷ []) ((1, 7) ∷ (S, 32) ∷ []) 0 ((P, 1) ∷ []) ∷
    step (1 ∷ []) ((1, 7) ∷ (S, 32) ∷ []) [] ((P, 1) ∷ []) ∷
    ending (0 ∷ 2 ∷ 1 ∷ 2 ∷ 3 ∷ 4 ∷ 5 ∷ []) ((P, 1) ∷ (1, 7) ∷ (S, 32) ∷ []) 1 [] ∷
    ending (0 ∷ 3 ∷ 1 ∷ []) ((P, 1) ∷ (1, 7) ∷ (S, 32) ∷ []) 3 [] ∷
    ending (0 ∷ 4 ∷ 1 ∷ 2 ∷ []) ((P, 1) ∷ (1, 7) ∷ (2, 8) ∷ (S, 32) ∷ []) 3 [] ∷
    ending (0 ∷ 5 ∷ []) ((P, 1) ∷ (1, 7) ∷ (S, 32) ∷ []) 4 ((P, 2) ∷ []) ∷
    []

-- An unknown opcode: code 5, P on the opcode, and nothing changed.
abbrev pub unknown : ℕ → RunCase
unknown opcode = ending (0 ∷ opcode ∷ 1 ∷ 2 ∷ []) ((P, 1) ∷ (1, 7) ∷ (2, 2) ∷ (S, 32) ∷ []) 5 []

abbrev pub unknowns : List RunCase
unknowns =
    unknown 39 ∷
    unknown 40 ∷
    unknown 41 ∷
    unknown 42 ∷
    unknown 43 ∷
    unknown 44 ∷
    unknown 47 ∷
    unknown 48 ∷
    unknown 59 ∷
    unknown 60 ∷
    unknown 76 ∷
    unknown 77 ∷
    unknown 78 ∷
    unknown 79 ∷
    unknown 94 ∷
    unknown 255 ∷
    []
