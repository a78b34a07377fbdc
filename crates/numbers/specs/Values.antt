-- What an instruction makes of the qwords in its registers.
use Rattle.std.specs.Prelude.{ℕ, ◌+◌, ◌-◌, ◌*◌, ◌%◌, ◌^◌, Bool, cond, reverse, int_div, int_lt, int_rem, nat_lt}
use Rattle.std.specs.Int.Signed.{shr_z}
use Rattle.memory.specs.Bytes.{bytes_of, value_at}
use Rattle.memory.specs.Widths.{width_bytes}
use Rattle.memory.specs.declared.width.Width.{Width}
use Rattle.numbers.specs.Signed.{signed, register, width_bits}

-- Sums, differences and products wrap.
abbrev pub plus : ℕ → ℕ → ℕ
plus a b = (a + b) % 2 ^ 64

abbrev pub minus : ℕ → ℕ → ℕ
minus a b = (a + (2 ^ 64 - b)) % 2 ^ 64

abbrev pub times : ℕ → ℕ → ℕ
times a b = (a * b) % 2 ^ 64

-- Shifts take the low six bits of s. To the left zeros come in.
abbrev pub shifted_left : ℕ → ℕ → ℕ
shifted_left r s = (r * 2 ^ (s % 64)) % 2 ^ 64

-- To the right copies of the top bit come in: the signed number is divided by 2 ^ n and rounded down.
abbrev pub shifted_right : ℕ → ℕ → ℕ
shifted_right r s = register (shr_z (signed 64 r) (2 ^ (s % 64)))

-- The signed quotient, rounded toward zero. Of -2 ^ 63 by -1 it is 2 ^ 63, which the register of -2 ^ 63 stands for too.
abbrev pub divided : ℕ → ℕ → ℕ
divided r s = register (int_div (signed 64 r) (signed 64 s))

-- The signed remainder, with the sign of r.
abbrev pub remaining : ℕ → ℕ → ℕ
remaining r s = register (int_rem (signed 64 r) (signed 64 s))

-- -1, 0 or 1.
abbrev pub ordered : Bool → Bool → ℕ
ordered below above = cond below (2 ^ 64 - 1) (cond above 1 0)

abbrev pub compared : ℕ → ℕ → ℕ
compared s t = ordered (nat_lt s t) (nat_lt t s)

abbrev pub compared_signed : ℕ → ℕ → ℕ
compared_signed s t = ordered (int_lt (signed 64 s) (signed 64 t)) (int_lt (signed 64 t) (signed 64 s))

-- The low bits alone, zero above.
abbrev pub zero_extended : Width → ℕ → ℕ
zero_extended w r = r % 2 ^ width_bits w

-- The register of the signed number that the low bits stand for.
abbrev pub sign_extended : Width → ℕ → ℕ
sign_extended w r = register (signed (width_bits w) (r % 2 ^ width_bits w))

-- The low bytes in reverse order, zero above.
abbrev pub reversed : Width → ℕ → ℕ
reversed w r = value_at (reverse (bytes_of (width_bytes w) r)) 0 (width_bytes w)
