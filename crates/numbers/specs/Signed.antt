-- Registers as signed numbers.
use Rattle.std.specs.Prelude.{ℕ, ◌-◌, ◌%◌, ◌^◌, cond, ℤ, pos, negsuc, ◌-ℤ◌, nat_lt}
use Rattle.memory.specs.declared.width.Width.{Width}
use Rattle.memory.specs.declared.width.Width.TheVariants.{Byte, Short, Long, Qword}

-- How many bits a width has.
abbrev pub width_bits : Width → ℕ
width_bits Byte = 8
width_bits Short = 16
width_bits Long = 32
width_bits Qword = 64

-- The signed number that v, a number of n bits, stands for: v itself, or v - 2 ^ n where its top bit is set.
abbrev pub signed : ℕ → ℕ → ℤ
signed n v = cond (nat_lt v (2 ^ (n - 1))) (pos v) (pos v -ℤ pos (2 ^ n))

-- The register that stands for a signed number, modulo 2 ^ 64. (negsuc n is -1 - n.)
abbrev pub register : ℤ → ℕ
register (pos n) = n % 2 ^ 64
register (negsuc n) = 2 ^ 64 - 1 - n % 2 ^ 64
