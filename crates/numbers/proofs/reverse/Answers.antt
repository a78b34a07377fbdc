-- Each width's bytes, written out, are those that the swap gives.
use Rattle.std.proofs.Common.{◌≡◌, ℕ, ◌%◌, ◌^◌, List, reverse, sym, ap, ◌∙◌, arith}
use native.Mathlib.Nat.{div-div-eq-div-mul}
use Rattle.memory.specs.Bytes.{bytes_of, value_at}
use Rattle.memory.specs.Widths.{width_bytes}
use Rattle.memory.specs.declared.width.Width.{Width}
use Rattle.memory.specs.declared.width.Width.TheVariants.{Short, Long}
use Rattle.numbers.specs.Values.{reversed}
use Rattle.numbers.proofs.Low.{bytes_of_low}
use Rattle.numbers.proofs.reverse.Goals as goal

-- what an arm gives at the width that it stands for, and what it gives for the low part alone
at_width : (r v : ℕ) (w u : Width) → w ≡ u → v ≡ reversed u r → v ≡ reversed w r
at_width r v w u e h = h ∙ ap (λ (x : Width). reversed x r) (sym e)

of_low : (r v : ℕ) (u : Width) → v ≡ reversed u (r % 256 ^ width_bytes u) → v ≡ reversed u r
of_low r v u h =
    h ∙ ap (λ (x : List ℕ). value_at (reverse x) 0 (width_bytes u)) (bytes_of_low (width_bytes u) r)

pub returns-in-Byte : goal.returns-in-Byte
unfolding bytes_of value_at
returns-in-Byte c = at_width _ _ _ _ c.in-Byte.is (omega arith)

pub returns-in-Short : goal.returns-in-Short
unfolding bytes_of value_at
returns-in-Short c = at_width _ _ _ _ c.in-Short.is (of_low c.args.r _ Short (omega arith))

pub returns-in-Long : goal.returns-in-Long
unfolding bytes_of value_at
returns-in-Long c =
    at_width _ _ _ _ c.in-Long.is (of_low c.args.r _ Long (simp div-div-eq-div-mul (omega arith)))

pub returns-in-Qword : goal.returns-in-Qword
unfolding bytes_of value_at
returns-in-Qword c =
    at_width c.args.r _ _ _ c.in-Qword.is (simp div-div-eq-div-mul (omega arith))
