use Rattle.std.proofs.Common.{◌≡◌, ℕ, List, sym, ap, ◌∙◌, arith}
use Rattle.memory.specs.Bytes.{value_at, put_at}
use Rattle.memory.specs.Widths.{width_bytes}
use Rattle.memory.specs.declared.width.Width.{Width}
use Rattle.std.proofs.lemmas.Nat.{and_mask}
use Rattle.memory.proofs.Digits.{to_be, to_be_2, to_be_4}
use Rattle.memory.proofs.Puts.{put_none, put_more}
use Rattle.memory.proofs.Scatters.{put_bytes_of, put_masked, value_at-bytes_of}
use Rattle.memory.proofs.inside.store_inside.Goals as goal

-- what an arm leaves is what is put at the width that it stands for
at_width : (bs cs : List ℕ) (a x : ℕ) (w v : Width) → w ≡ v → cs ≡ put_at bs a (width_bytes v) x → cs ≡ put_at bs a (width_bytes w) x
at_width bs cs a x w v e h = h ∙ ap (λ (u : Width). put_at bs a (width_bytes u) x) (sym e)

pub returns-in-Byte : goal.returns-in-Byte
returns-in-Byte g c = at_width _ _ _ _ _ _ c.in-Byte.is
    (put_more _ _ 0 _ c.write_inside.ensures.value (omega arith) (and_mask c.args.value 8) (put_none _ _ _))

pub returns-in-Short : goal.returns-in-Short
returns-in-Short g c = at_width _ _ _ _ _ _ c.in-Short.is
    (c.write_bytes.ensures.value ∙ put_bytes_of _ _ _ 2 _ (c.to_be_bytes.ensures ∙ to_be_2 _) ∙ put_masked _ _ 2 _ _ (and_mask c.args.value 16))

pub returns-in-Long : goal.returns-in-Long
returns-in-Long g c = at_width _ _ _ _ _ _ c.in-Long.is
    (c.write_bytes-in-Long.ensures.value ∙ put_bytes_of _ _ _ 4 _ (c.to_be_bytes-in-Long.ensures ∙ to_be_4 _) ∙ put_masked _ _ 4 _ _ (and_mask c.args.value 32))

pub returns-in-Qword : goal.returns-in-Qword
returns-in-Qword g c =
    let whole : value_at c.to_be_bytes-in-Qword.result 0 8 ≡ c.args.value =
    ap (λ (l : List ℕ). value_at l 0 8) (c.to_be_bytes-in-Qword.ensures ∙ to_be _) ∙ value_at-bytes_of 8 _ ∙ omega arith in
    at_width _ _ _ _ _ _ c.in-Qword.is
    (c.write_qword.ensures.value ∙ ap (λ (x : ℕ). put_at (g.M.Memory.bytes c.args.memory.now) c.args.address 8 x) whole)
