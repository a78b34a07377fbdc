-- Accesses at the edge of the window, sums that wrap, and a register named twice.
use Rattle.std.specs.Prelude.{List, [], ◌∷◌}
use Rattle.isa.specs.Steps.{P, S}
use Rattle.cases.specs.Runs.{RunCase}
use Rattle.cases.specs.Rows.{run, step, negative, eight, at, ahead, from}
use Rattle.cases.specs.Stacking.{below}

-- A whole access at the last place where it fits, and one place further on: it happens at 0.
abbrev pub edges : List RunCase
edges =
    step (at (14 ∷ 1 ∷ []) 56) ((1, 0x8182838485868788) ∷ []) (from 56 eight) ((P, 10) ∷ []) ∷
    step (at (14 ∷ 1 ∷ []) 57) ((1, 0x8182838485868788) ∷ []) (from 0 eight) ((P, 10) ∷ []) ∷
    step (at (17 ∷ 1 ∷ []) 63) ((1, 0x8182838485868788) ∷ []) ((63, 0x88) ∷ []) ((P, 10) ∷ []) ∷
    step (at (17 ∷ 1 ∷ []) 64) ((1, 0x8182838485868788) ∷ []) ((0, 0x88) ∷ []) ((P, 10) ∷ []) ∷
    step (20 ∷ 1 ∷ 2 ∷ []) ((2, negative 1) ∷ []) [] ((1, 0x1401) ∷ (P, 3) ∷ []) ∷
    step (68 ∷ 1 ∷ []) ((1, 0x8182838485868788) ∷ (S, 57) ∷ []) (from 0 eight) ((S, 65) ∷ (P, 2) ∷ []) ∷
    []

-- P, S and the addresses of operands modulo 2 ^ 64.
abbrev pub wraps : List RunCase
wraps =
    step (1 ∷ []) ((P, negative 1) ∷ []) [] ((P, 0) ∷ []) ∷
    step (9 ∷ 200 ∷ []) ((P, negative 1) ∷ []) [] ((9, 200) ∷ (P, 2) ∷ []) ∷
    step (68 ∷ 1 ∷ []) ((1, 0x8182838485868788) ∷ (S, negative 1) ∷ []) (from 0 eight) ((S, 7) ∷ (P, 2) ∷ []) ∷
    step (72 ∷ 1 ∷ []) ((S, 5) ∷ []) [] ((1, 0x4801000000000000) ∷ (S, negative 3) ∷ (P, 2) ∷ []) ∷
    step (below 85) ((S, 5) ∷ []) [] ((1, 85) ∷ (P, 6) ∷ []) ∷
    step (below 89) ((1, 0x8182838485868788) ∷ (S, 5) ∷ []) ((0, 0x88) ∷ []) ((P, 6) ∷ []) ∷
    []

-- The value is that from before the instruction.
abbrev pub twice : List RunCase
twice =
    step (36 ∷ 1 ∷ 1 ∷ []) ((1, 5) ∷ []) [] ((1, 10) ∷ (P, 3) ∷ []) ∷
    step (ahead (18 ∷ 1 ∷ 1 ∷ []) eight) ((1, 32) ∷ []) [] ((1, 0x8182838485868788) ∷ (P, 3) ∷ []) ∷
    step (22 ∷ 1 ∷ 1 ∷ []) ((1, 32) ∷ []) ((39, 32) ∷ []) ((P, 3) ∷ []) ∷
    step (93 ∷ 1 ∷ 1 ∷ 3 ∷ []) ((1, 5) ∷ (3, 7) ∷ []) [] ((1, 7) ∷ (P, 4) ∷ []) ∷
    []

-- The last register that is saved, and the first that is not: it starts at zero, and its entry stays.
abbrev pub saves : List RunCase
saves =
    run (80 ∷ 1 ∷ 80 ∷ 2 ∷ 0 ∷ []) ((1, 7) ∷ (2, 7) ∷ []) 2 10 0 3 [] ((1, 8) ∷ (P, 5) ∷ []) ∷
    run (17 ∷ 2 ∷ 0 ∷ 0 ∷ 0 ∷ 0 ∷ 0 ∷ 0 ∷ 0 ∷ 32 ∷ []) ((2, 7) ∷ []) 2 1 2 1 [] ((P, 10) ∷ []) ∷
    run (80 ∷ 255 ∷ 0 ∷ []) ((255, 7) ∷ (S, 5) ∷ []) 256 10 0 2 [] ((255, 8) ∷ (P, 3) ∷ []) ∷
    run (80 ∷ 255 ∷ 0 ∷ []) ((255, 7) ∷ (S, 5) ∷ []) 255 10 0 2 [] ((P, 3) ∷ []) ∷
    []
