-- Literals, loads and stores, and moves: opcodes 6 to 26 and 93.
use Rattle.std.specs.Prelude.{List, [], ◌∷◌}
use Rattle.isa.specs.Steps.{P}
use Rattle.cases.specs.Runs.{RunCase}
use Rattle.cases.specs.Rows.{step, negative, eight, at, ahead, from}

abbrev pub literals : List RunCase
literals =
    step (6 ∷ 1 ∷ eight) [] [] ((1, 0x8182838485868788) ∷ (P, 10) ∷ []) ∷
    step (7 ∷ 1 ∷ eight) ((1, negative 1) ∷ []) [] ((1, 0x81828384) ∷ (P, 6) ∷ []) ∷
    step (8 ∷ 1 ∷ eight) ((1, negative 1) ∷ []) [] ((1, 0x8182) ∷ (P, 4) ∷ []) ∷
    step (9 ∷ 1 ∷ eight) ((1, negative 1) ∷ []) [] ((1, 0x81) ∷ (P, 3) ∷ []) ∷
    []

abbrev pub loads : List RunCase
loads =
    step (ahead (at (10 ∷ 1 ∷ []) 32) eight) ((1, negative 1) ∷ []) [] ((1, 0x8182838485868788) ∷ (P, 10) ∷ []) ∷
    step (ahead (at (11 ∷ 1 ∷ []) 32) eight) ((1, negative 1) ∷ []) [] ((1, 0x81828384) ∷ (P, 10) ∷ []) ∷
    step (ahead (at (12 ∷ 1 ∷ []) 32) eight) ((1, negative 1) ∷ []) [] ((1, 0x8182) ∷ (P, 10) ∷ []) ∷
    step (ahead (at (13 ∷ 1 ∷ []) 32) eight) ((1, negative 1) ∷ []) [] ((1, 0x81) ∷ (P, 10) ∷ []) ∷
    step (ahead (18 ∷ 1 ∷ 2 ∷ []) eight) ((1, 40) ∷ (2, 32) ∷ []) [] ((1, 0x8182838485868788) ∷ (P, 3) ∷ []) ∷
    step (ahead (19 ∷ 1 ∷ 2 ∷ []) eight) ((1, 40) ∷ (2, 32) ∷ []) [] ((1, 0x81828384) ∷ (P, 3) ∷ []) ∷
    step (ahead (20 ∷ 1 ∷ 2 ∷ []) eight) ((1, 40) ∷ (2, 32) ∷ []) [] ((1, 0x8182) ∷ (P, 3) ∷ []) ∷
    step (ahead (21 ∷ 1 ∷ 2 ∷ []) eight) ((1, 40) ∷ (2, 32) ∷ []) [] ((1, 0x81) ∷ (P, 3) ∷ []) ∷
    []

abbrev pub stores : List RunCase
stores =
    step (at (14 ∷ 1 ∷ []) 32) ((1, 0x8182838485868788) ∷ []) (from 32 eight) ((P, 10) ∷ []) ∷
    step (at (15 ∷ 1 ∷ []) 32) ((1, 0x8182838485868788) ∷ []) (from 32 (0x85 ∷ 0x86 ∷ 0x87 ∷ 0x88 ∷ [])) ((P, 10) ∷ []) ∷
    step (at (16 ∷ 1 ∷ []) 32) ((1, 0x8182838485868788) ∷ []) (from 32 (0x87 ∷ 0x88 ∷ [])) ((P, 10) ∷ []) ∷
    step (at (17 ∷ 1 ∷ []) 32) ((1, 0x8182838485868788) ∷ []) (from 32 (0x88 ∷ [])) ((P, 10) ∷ []) ∷
    step (22 ∷ 1 ∷ 2 ∷ []) ((1, 32) ∷ (2, 0x8182838485868788) ∷ []) (from 32 eight) ((P, 3) ∷ []) ∷
    step (23 ∷ 1 ∷ 2 ∷ []) ((1, 32) ∷ (2, 0x8182838485868788) ∷ []) (from 32 (0x85 ∷ 0x86 ∷ 0x87 ∷ 0x88 ∷ [])) ((P, 3) ∷ []) ∷
    step (24 ∷ 1 ∷ 2 ∷ []) ((1, 32) ∷ (2, 0x8182838485868788) ∷ []) (from 32 (0x87 ∷ 0x88 ∷ [])) ((P, 3) ∷ []) ∷
    step (25 ∷ 1 ∷ 2 ∷ []) ((1, 32) ∷ (2, 0x8182838485868788) ∷ []) (from 32 (0x88 ∷ [])) ((P, 3) ∷ []) ∷
    []

abbrev pub moves : List RunCase
moves =
    step (26 ∷ 255 ∷ 128 ∷ []) ((255, 5) ∷ (128, 0x8182838485868788) ∷ []) [] ((255, 0x8182838485868788) ∷ (P, 3) ∷ []) ∷
    step (93 ∷ 1 ∷ 2 ∷ 3 ∷ []) ((1, 0x8000000000000000) ∷ (2, 5) ∷ (3, 7) ∷ []) [] ((2, 7) ∷ (P, 4) ∷ []) ∷
    step (93 ∷ 1 ∷ 2 ∷ 3 ∷ []) ((2, 5) ∷ (3, 7) ∷ []) [] ((P, 4) ∷ []) ∷
    []
