-- Bytes in their order and the number that they stand for, there and back.
use Rattle.std.proofs.Common.{◌≡◌, ℕ, ◌%◌, ◌^◌, List, [], length, reverse, refl, ap, ◌∙◌, arith}
use Rattle.std.proofs.lemmas.List.{length-reverse, reverse-reverse, take_all}
use Rattle.memory.specs.Bytes.{bytes_of, value_at}
use Rattle.memory.specs.Elements.{length-bytes_of}
use Rattle.memory.specs.Widths.{width_bytes}
use Rattle.memory.specs.declared.width.Width.{Width}
use Rattle.memory.specs.declared.width.Width.TheVariants.{Byte, Short, Long, Qword}
use Rattle.memory.proofs.Bounds.{Small, all_at, all_bytes_of}
use Rattle.memory.proofs.Digits.{bytes_of-value_at}
use Rattle.memory.proofs.Scatters.{value_at-bytes_of}
use Rattle.numbers.specs.Signed.{width_bits}
use Rattle.numbers.specs.Laws.{ReversalsReturn}
use Rattle.numbers.proofs.Bounds.{all_reverse}

powers : (w : Width) → 256 ^ width_bytes w ≡ 2 ^ width_bits w
powers Byte = refl
powers Short = refl
powers Long = refl
powers Qword = refl

pub reversals_return : ReversalsReturn
reversals_return w r =
    let n = width_bytes w in
    let bs = bytes_of n r in
    let l : length (reverse bs) ≡ n = length-reverse bs ∙ length-bytes_of n r in
    let e : bytes_of n (value_at (reverse bs) 0 n) ≡ reverse bs =
    bytes_of-value_at (reverse bs) n (omega arith) (λ k. all_at Small (reverse bs) k (omega arith) (all_reverse Small bs [] (all_bytes_of n r) tt)) ∙ take_all n (reverse bs) (omega arith)
    in
    ap (λ (xs : List ℕ). value_at (reverse xs) 0 n) e
    ∙ ap (λ (xs : List ℕ). value_at xs 0 n) (reverse-reverse bs)
    ∙ value_at-bytes_of n r
    ∙ ap (λ (k : ℕ). r % k) (powers w)
