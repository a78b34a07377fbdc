-- What an instruction makes of qwords is a qword.
use Rattle.std.proofs.Common.{ℕ, ◌^◌, ◌<◌, Bool, true, false, List, [], ◌∷◌, ℤ, pos, negsuc, arith}
use mathlib.Core.List.{reverse_aux}
use native.Mathlib.Nat.{mod-le}
use Rattle.std.specs.List.{AllByRecursion}
use Rattle.memory.specs.Bytes.{bytes_of}
use Rattle.memory.specs.Widths.{width_bytes}
use Rattle.memory.specs.declared.width.Width.{Width}
use Rattle.memory.specs.declared.width.Width.TheVariants.{Byte, Short, Long, Qword}
use Rattle.memory.proofs.Bounds.{Small, value_at_below, all_bytes_of}
use Rattle.numbers.specs.Signed.{register, width_bits}
use Rattle.numbers.specs.Values.{ordered, reversed, zero_extended}

pub register_below : (z : ℤ) → register z < 2 ^ 64
register_below (pos n) = omega arith
register_below (negsuc n) = omega arith

pub ordered_below : (a b : Bool) → ordered a b < 2 ^ 64
ordered_below true b = omega arith
ordered_below false true = omega arith
ordered_below false false = omega arith

-- a number of so many bytes is a qword
pub width_below : (w : Width) (v : ℕ) → v < 256 ^ width_bytes w → v < 2 ^ 64
width_below Byte v h = omega arith
width_below Short v h = omega arith
width_below Long v h = omega arith
width_below Qword v h = h

pub zero_extended_below : (w : Width) (r : ℕ) → r < 2 ^ 64 → zero_extended w r < 2 ^ 64
zero_extended_below w r h = omega (arith, mod-le r (2 ^ width_bits w))

pub all_reverse : (P : ℕ → Type 0) (xs ys : List ℕ) → AllByRecursion P xs → AllByRecursion P ys → AllByRecursion P (reverse_aux xs ys)
all_reverse P [] ys h k = k
all_reverse P (x ∷ xs) ys h k = all_reverse P xs (x ∷ ys) h.1 (h.0, k)

pub reversed_below : (w : Width) (r : ℕ) → reversed w r < 2 ^ 64
reversed_below w r =
    width_below w _ (value_at_below _ 0 (width_bytes w) (all_reverse Small (bytes_of (width_bytes w) r) [] (all_bytes_of (width_bytes w) r) tt))
