-- Laws of what instructions make of qwords: divisions, shifts, comparisons, extensions and reversals.
use Rattle.std.specs.Prelude.{◌≡◌, ℕ, ◌+◌, ◌*◌, ◌/◌, ◌%◌, ◌^◌, ◌<◌, ◌⊎◌, ℤ, pos, ◌+ℤ◌, ◌*ℤ◌, ◌≢◌, int_div, int_rem, unsigned_abs}
use Rattle.std.specs.Int.Signed.{non_neg}
use Rattle.memory.specs.declared.width.Width.{Width}
use Rattle.numbers.specs.Signed.{signed, register, width_bits}
use Rattle.numbers.specs.Values.{plus, times, shifted_left, shifted_right, divided, remaining, compared, compared_signed, zero_extended, sign_extended, reversed}

-- a is q times b and m, m is smaller than b in size, and m is 0 or has the sign of a: so q is rounded toward zero.
pub record Divides (a b q m : ℤ) : Type 0 where
  pub sum : (q *ℤ b) +ℤ m ≡ a
  pub small : unsigned_abs m < unsigned_abs b
  pub sign : (m ≡ pos 0) ⊎ (non_neg m ≡ non_neg a)

abbrev pub DivisionStands : Type 0
DivisionStands = (a b : ℤ) → (b ≢ pos 0) → Divides a b (int_div a b) (int_rem a b)

abbrev pub SignedStands : Type 0
SignedStands = (v : ℕ) → v < 2 ^ 64 → register (signed 64 v) ≡ v

-- The signed quotient times the divisor, plus the remainder, is the dividend, all in registers.
abbrev pub RegistersDivide : Type 0
RegistersDivide = (r s : ℕ) → r < 2 ^ 64 → s < 2 ^ 64 → s ≢ 0 → plus (times (divided r s) s) (remaining r s) ≡ r

-- The same of unsigned numbers, and the remainder is below the divisor.
abbrev pub UnsignedDivisionStands : Type 0
UnsignedDivisionStands = (r s : ℕ) → s ≢ 0 → (r / s * s + r % s ≡ r) × (r % s < s)

-- To the left by n: the register of the signed number times 2 ^ n.
abbrev pub LeftShiftsMultiply : Type 0
LeftShiftsMultiply = (r s : ℕ) → r < 2 ^ 64 → shifted_left r s ≡ register (signed 64 r *ℤ pos (2 ^ (s % 64)))

-- x is q times d and a remainder from 0 to d - 1: so q is rounded down.
abbrev pub RoundsDown : ℤ → ℕ → ℤ → Type 0
RoundsDown x d q = (m : ℕ) × ((m < d) × ((q *ℤ pos d) +ℤ pos m ≡ x))

-- To the right by n: the signed number divided by 2 ^ n.
abbrev pub RightShiftsRoundDown : Type 0
RightShiftsRoundDown =
    (r s : ℕ) → r < 2 ^ 64 → RoundsDown (signed 64 r) (2 ^ (s % 64)) (signed 64 (shifted_right r s))

-- A signed comparison is the unsigned one of both numbers moved up by 2 ^ 63.
abbrev pub ComparisonsAgree : Type 0
ComparisonsAgree =
    (s t : ℕ) → s < 2 ^ 64 → t < 2 ^ 64 → compared_signed s t ≡ compared ((s + 2 ^ 63) % 2 ^ 64) ((t + 2 ^ 63) % 2 ^ 64)

-- What is extended stands for the signed number of the low bits.
abbrev pub ExtensionsStand : Type 0
ExtensionsStand = (w : Width) (r : ℕ) → signed 64 (sign_extended w r) ≡ signed (width_bits w) (r % 2 ^ width_bits w)

-- Reversed twice, the low bytes are as they were, zero above.
abbrev pub ReversalsReturn : Type 0
ReversalsReturn = (w : Width) (r : ℕ) → reversed w (reversed w r) ≡ zero_extended w r
