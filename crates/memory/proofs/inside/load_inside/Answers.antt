use Rattle.std.proofs.Common.{◌≡◌, ℕ, List, get_or, sym, ap, ◌∙◌, add-zero, arith}
use Rattle.memory.specs.Bytes.{value_at}
use Rattle.memory.specs.Widths.{width_bytes}
use Rattle.memory.specs.declared.width.Width.{Width}
use Rattle.memory.proofs.Digits.{from_be, from_be_2, from_be_4}
use Rattle.memory.proofs.Puts.{value_at-gathered}
use Rattle.memory.proofs.inside.load_inside.Goals as goal

-- what an arm gives is the value at the width that it stands for
at_width : (bs : List ℕ) (a r : ℕ) (w v : Width) → w ≡ v → r ≡ value_at bs a (width_bytes v) → r ≡ value_at bs a (width_bytes w)
at_width bs a r w v e h = h ∙ ap (λ (u : Width). value_at bs a (width_bytes u)) (sym e)

pub returns-in-Byte : goal.returns-in-Byte
unfolding value_at
returns-in-Byte g c =
    let z = ap (λ (k : ℕ). get_or (g.M.Memory.bytes c.args.memory.now) k 0) (add-zero c.args.address) in
    at_width _ _ _ _ _ c.in-Byte.is (omega arith)

pub returns-in-Short : goal.returns-in-Short
returns-in-Short g c = at_width _ _ _ _ _ c.in-Short.is
    (c.from-in-Short.ensures ∙ c.from_be_bytes.ensures ∙ from_be_2 _ ∙ value_at-gathered _ _ _ _ c.gather.ensures.each)

pub returns-in-Long : goal.returns-in-Long
returns-in-Long g c = at_width _ _ _ _ _ c.in-Long.is
    (c.from-in-Long.ensures ∙ c.from_be_bytes-in-Long.ensures ∙ from_be_4 _ ∙ value_at-gathered _ _ _ _ c.gather-in-Long.ensures.each)

pub returns-in-Qword : goal.returns-in-Qword
returns-in-Qword g c = at_width _ _ _ _ _ c.in-Qword.is (c.from_be_bytes-in-Qword.ensures ∙ from_be _ ∙ value_at-gathered _ _ _ _ c.gather-in-Qword.ensures.each)
