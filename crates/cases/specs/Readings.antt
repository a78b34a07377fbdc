-- Worked readings, of the instructions that end a run before their operands show: opcodes 2 to 4 and an unknown one.
use Rattle.std.specs.Prelude.{◌≡◌, ℕ, ◌-◌, List, [], ◌∷◌, ◌++◌, length, map, replicate}
use Rattle.isa.specs.Reading.{decoded}
use Rattle.isa.specs.declared.operation.Operation.{Operation}
use Rattle.isa.specs.declared.operation.Operation.TheVariants.{BecomeUser, DeviceRead, DeviceWrite, Unknown}
use Rattle.isa.specs.declared.instruction.Instruction.{Instruction}

-- The bytes from address 0 on; the operation, the register numbers r, s, t, u and v, and the length.
pub record Reading : Type 0 where
  pub bytes : List ℕ
  pub is : Instruction

abbrev pub reading : List ℕ → Operation → ℕ → ℕ → ℕ → ℕ → ℕ → ℕ → Reading
reading bytes operation r s t u v its_length = record {
  bytes = bytes;
  is = record {
    operation = operation;
    operands = record { r = r; s = s; t = t; u = u; v = v; literal = 0 };
    length = its_length;
  };
}

abbrev pub readings : List Reading
readings =
    reading (2 ∷ 11 ∷ 12 ∷ 13 ∷ 14 ∷ 15 ∷ 16 ∷ []) BecomeUser 11 12 13 14 15 6 ∷
    reading (3 ∷ 11 ∷ 12 ∷ 13 ∷ 14 ∷ 15 ∷ 16 ∷ []) DeviceRead 11 0 0 0 0 2 ∷
    reading (4 ∷ 11 ∷ 12 ∷ 13 ∷ 14 ∷ 15 ∷ 16 ∷ []) DeviceWrite 11 12 0 0 0 3 ∷
    reading (39 ∷ 11 ∷ 12 ∷ 13 ∷ 14 ∷ 15 ∷ 16 ∷ []) Unknown 0 0 0 0 0 1 ∷
    []

-- Each instruction at address 0 of a window of 64 bytes is read as its case says.
abbrev pub AllRead : List Reading → Type 0
AllRead cases = map (λ c. decoded (c.bytes ++ replicate (64 - length c.bytes) 0) 0) cases ≡ map (λ c. c.is) cases
