-- Jumps and the stack: opcodes 61 to 75 and 82 to 89.
use Rattle.std.specs.Prelude.{ℕ, List, [], ◌∷◌}
use Rattle.isa.specs.Steps.{P, S}
use Rattle.cases.specs.Runs.{RunCase}
use Rattle.cases.specs.Rows.{step, negative, eight, at, ahead, from}

abbrev pub jumps : List RunCase
jumps =
    step (at (61 ∷ []) 48) ((S, 32) ∷ []) [] ((P, 48) ∷ []) ∷
    step (at (62 ∷ []) 48) ((S, 32) ∷ []) (from 32 (0 ∷ 0 ∷ 0 ∷ 0 ∷ 0 ∷ 0 ∷ 0 ∷ 9 ∷ [])) ((P, 48) ∷ (S, 40) ∷ []) ∷
    step (at (63 ∷ 1 ∷ []) 48) ((1, 0x8000000000000000) ∷ []) [] ((P, 48) ∷ []) ∷
    step (at (63 ∷ 1 ∷ []) 48) [] [] ((P, 10) ∷ []) ∷
    step (at (64 ∷ 1 ∷ []) 48) ((1, 0x8000000000000000) ∷ []) [] ((P, 10) ∷ []) ∷
    step (at (64 ∷ 1 ∷ []) 48) [] [] ((P, 48) ∷ []) ∷
    step (ahead (65 ∷ []) eight) ((S, 40) ∷ []) [] ((P, 0x8182838485868788) ∷ (S, 32) ∷ []) ∷
    []

abbrev pub stacks : List RunCase
stacks =
    step (66 ∷ 1 ∷ []) ((1, 5) ∷ (S, 0x8182838485868788) ∷ []) [] ((1, 0x8182838485868788) ∷ (P, 2) ∷ []) ∷
    step (67 ∷ 1 ∷ []) ((1, 0x8182838485868788) ∷ (S, 32) ∷ []) [] ((S, 0x8182838485868788) ∷ (P, 2) ∷ []) ∷
    step (68 ∷ 1 ∷ []) ((1, 0x8182838485868788) ∷ (S, 32) ∷ []) (from 32 eight) ((S, 40) ∷ (P, 2) ∷ []) ∷
    step (69 ∷ 1 ∷ []) ((1, 0x8182838485868788) ∷ (S, 32) ∷ []) (from 32 (0x85 ∷ 0x86 ∷ 0x87 ∷ 0x88 ∷ [])) ((S, 36) ∷ (P, 2) ∷ []) ∷
    step (70 ∷ 1 ∷ []) ((1, 0x8182838485868788) ∷ (S, 32) ∷ []) (from 32 (0x87 ∷ 0x88 ∷ [])) ((S, 34) ∷ (P, 2) ∷ []) ∷
    step (71 ∷ 1 ∷ []) ((1, 0x8182838485868788) ∷ (S, 32) ∷ []) (from 32 (0x88 ∷ [])) ((S, 33) ∷ (P, 2) ∷ []) ∷
    step (ahead (72 ∷ 1 ∷ []) eight) ((1, negative 1) ∷ (S, 40) ∷ []) [] ((1, 0x8182838485868788) ∷ (S, 32) ∷ (P, 2) ∷ []) ∷
    step (ahead (73 ∷ 1 ∷ []) eight) ((1, negative 1) ∷ (S, 36) ∷ []) [] ((1, 0x81828384) ∷ (S, 32) ∷ (P, 2) ∷ []) ∷
    step (ahead (74 ∷ 1 ∷ []) eight) ((1, negative 1) ∷ (S, 34) ∷ []) [] ((1, 0x8182) ∷ (S, 32) ∷ (P, 2) ∷ []) ∷
    step (ahead (75 ∷ 1 ∷ []) eight) ((1, negative 1) ∷ (S, 33) ∷ []) [] ((1, 0x81) ∷ (S, 32) ∷ (P, 2) ∷ []) ∷
    []

-- An opcode with register 1 and an offset of 12, four bytes behind S 44: the place is 32.
abbrev pub below : ℕ → List ℕ
below opcode = opcode ∷ 1 ∷ 0 ∷ 0 ∷ 0 ∷ 12 ∷ []

abbrev pub offsets : List RunCase
offsets =
    step (ahead (below 82) eight) ((1, negative 1) ∷ (S, 44) ∷ []) [] ((1, 0x8182838485868788) ∷ (P, 6) ∷ []) ∷
    step (ahead (below 83) eight) ((1, negative 1) ∷ (S, 44) ∷ []) [] ((1, 0x81828384) ∷ (P, 6) ∷ []) ∷
    step (ahead (below 84) eight) ((1, negative 1) ∷ (S, 44) ∷ []) [] ((1, 0x8182) ∷ (P, 6) ∷ []) ∷
    step (ahead (below 85) eight) ((1, negative 1) ∷ (S, 44) ∷ []) [] ((1, 0x81) ∷ (P, 6) ∷ []) ∷
    step (below 86) ((1, 0x8182838485868788) ∷ (S, 44) ∷ []) (from 32 eight) ((P, 6) ∷ []) ∷
    step (below 87) ((1, 0x8182838485868788) ∷ (S, 44) ∷ []) (from 32 (0x85 ∷ 0x86 ∷ 0x87 ∷ 0x88 ∷ [])) ((P, 6) ∷ []) ∷
    step (below 88) ((1, 0x8182838485868788) ∷ (S, 44) ∷ []) (from 32 (0x87 ∷ 0x88 ∷ [])) ((P, 6) ∷ []) ∷
    step (below 89) ((1, 0x8182838485868788) ∷ (S, 44) ∷ []) (from 32 (0x88 ∷ [])) ((P, 6) ∷ []) ∷
    []
