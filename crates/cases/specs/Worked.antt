-- The worked runs that show what a run is, of one compartment with its register file.
use Rattle.std.specs.Prelude.{ℕ, List, [], ◌∷◌}
use Rattle.isa.specs.Steps.{P, S}
use Rattle.cases.specs.Runs.{RunCase}
use Rattle.cases.specs.Rows.{run, negative}

abbrev pub literal : List ℕ
literal = 9 ∷ 5 ∷ 200 ∷ 0 ∷ []

abbrev pub dividing : ℕ → List ℕ
dividing opcode = opcode ∷ 1 ∷ 2 ∷ 0 ∷ []

abbrev pub loading : ℕ → List ℕ
loading address = 10 ∷ 5 ∷ 0 ∷ 0 ∷ 0 ∷ 0 ∷ 0 ∷ 0 ∷ 0 ∷ address ∷ 0 ∷ []

abbrev pub calling : List ℕ
calling = 62 ∷ 0 ∷ 0 ∷ 0 ∷ 0 ∷ 0 ∷ 0 ∷ 0 ∷ 20 ∷ 0 ∷ 0 ∷ 0 ∷ 0 ∷ 0 ∷ 0 ∷ 0 ∷ 0 ∷ 0 ∷ 0 ∷ 0 ∷ 65 ∷ []

abbrev pub worked : List RunCase
worked =
    run literal [] 256 10 0 2 [] ((5, 200) ∷ (P, 4) ∷ []) ∷
    run literal [] 256 2 0 2 [] ((5, 200) ∷ (P, 4) ∷ []) ∷
    run literal [] 256 1 2 1 [] ((5, 200) ∷ (P, 3) ∷ []) ∷
    run literal [] 256 0 2 0 [] [] ∷
    run (45 ∷ 1 ∷ 2 ∷ []) ((1, 7) ∷ []) 256 10 16 1 [] [] ∷
    run (dividing 46) ((1, negative 7) ∷ (2, 2) ∷ []) 256 10 0 2 [] ((1, negative 3) ∷ (P, 4) ∷ []) ∷
    run (dividing 50) ((1, negative 7) ∷ (2, 2) ∷ []) 256 10 0 2 [] ((1, negative 1) ∷ (P, 4) ∷ []) ∷
    run (28 ∷ 1 ∷ 2 ∷ 0 ∷ []) ((1, 0x8000000000000000) ∷ (2, 65) ∷ []) 256 10 0 2 [] ((1, 0xC000000000000000) ∷ (P, 4) ∷ []) ∷
    run (loading 57) [] 256 10 0 2 [] ((5, 0x0A05000000000000) ∷ (P, 11) ∷ []) ∷
    run (loading 56) [] 256 10 0 2 [] ((P, 11) ∷ []) ∷
    run (70 ∷ 1 ∷ 0 ∷ []) ((1, 0x0102) ∷ (S, 32) ∷ []) 256 10 0 2 ((32, 1) ∷ (33, 2) ∷ []) ((S, 34) ∷ (P, 3) ∷ []) ∷
    run calling ((S, 32) ∷ []) 256 10 0 3 ((39, 9) ∷ []) ((P, 10) ∷ []) ∷
    run (1 ∷ []) ((P, 70) ∷ []) 256 1 2 1 [] ((P, 71) ∷ []) ∷
    run (26 ∷ 1 ∷ 5 ∷ 0 ∷ []) ((5, 77) ∷ []) 2 10 0 2 [] ((P, 4) ∷ []) ∷
    []
