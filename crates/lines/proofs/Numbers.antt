-- A word is written for one number at most.
use Rattle.std.proofs.Common.{◌≡◌, ℕ, ◌<◌, ◌≤◌, List, length, get_or, take, codes, sym, ap, ◌∙◌, inl, inr, arith, length-take, get_or-take}
use Rattle.lines.specs.Numerals.{digit_of_lem, Digits, Written}

-- no decimal number begins with 0x
pub not_both : (w : List ℕ) → Digits 10 w → take 2 w ≡ codes "0x" → ⊥
not_both w ds mark =
    let long : 2 ≤ length w = omega (arith, ap length mark, length-take 2 w) in
    let x : get_or w 1 0 ≡ 120 = sym (get_or-take 2 w 1 0 (omega arith)) ∙ ap (λ (bs : List ℕ). get_or bs 1 0) mark in
    let d : digit_of_lem (get_or w 1 0) < 10 = ds.1 1 long in
    let e : digit_of_lem (get_or w 1 0) ≡ 16 = ap digit_of_lem x in
    omega arith

pub one_number : (w : List ℕ) (m n : ℕ) → Written w m → Written w n → m ≡ n
one_number w m n (inl (ds, v)) (inl (es, u)) = sym v ∙ u
one_number w m n (inl (ds, v)) (inr (mark, es)) = absurd (not_both w ds mark)
one_number w m n (inr (mark, h)) (inl (es, u)) = absurd (not_both w es mark)
one_number w m n (inr (mark, h)) (inr (nark, i)) = sym h.1 ∙ i.1
