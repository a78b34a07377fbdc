-- A right shift keeps to half the range, and rounds down.
use Rattle.std.proofs.Common.{◌≡◌, ℕ, suc, ◌+◌, ◌-◌, ◌*◌, ◌/◌, ◌%◌, ◌^◌, ◌<◌, ◌≤◌, ltb, ℤ, pos, negsuc, ◌+ℤ◌, ◌-ℤ◌, neg_ℤ, sym, refl, ap, ◌∙◌, subst, mod-lt, mod-eq_of_lt, arith}
use lib.Signed.{mag, mag_shr, shr_z}
use Rattle.std.proofs.lemmas.Nat.{div-add-mod', pow_pos}
use Rattle.std.proofs.lemmas.Int.{ints}
use Rattle.std.proofs.lemmas.Bool.{cond_both, ltb-true, ltb-false}
use Rattle.numbers.specs.Signed.{signed, register}
use Rattle.numbers.specs.Laws.{RightShiftsRoundDown, RoundsDown}
use Rattle.numbers.proofs.Dividing.{below_zero}

half : (v : ℕ) → v < 2 ^ 64 → mag (signed 64 v) < 2 ^ 63
half v h =
    cond_both (ltb v (2 ^ 63)) (pos v) (pos v -ℤ pos (2 ^ 64)) (λ z. mag z < 2 ^ 63)
    (λ e. ltb-true v (2 ^ 63) e)
    (λ e. let l : 2 ^ 63 ≤ v = ltb-false v (2 ^ 63) e in rw (below_zero v (2 ^ 64 - 1) h) (omega arith))

back : (z : ℤ) → mag z < 2 ^ 63 → signed 64 (register z) ≡ z
back (pos n) h =
    let e : n % 2 ^ 64 ≡ n = mod-eq_of_lt (omega arith) in
    ap (signed 64) e ∙ cond_both (ltb n (2 ^ 63)) (pos n) (pos n -ℤ pos (2 ^ 64)) (λ z. z ≡ pos n) (λ t. refl) (λ t. absurd (omega (arith, ltb-false n (2 ^ 63) t)))
back (negsuc n) h =
    let v = register (negsuc n) in
    let l : 2 ^ 63 ≤ v = omega arith in
    cond_both (ltb v (2 ^ 63)) (pos v) (pos v -ℤ pos (2 ^ 64)) (λ z. z ≡ negsuc n) (λ t. absurd (omega (arith, ltb-true v (2 ^ 63) t)))
    (λ t. below_zero v (2 ^ 64 - 1) (omega arith) ∙ ap negsuc (omega arith))

-- a product below zero and a remainder
raised : (p a m : ℕ) → p ≡ suc a + m → neg_ℤ (pos p) +ℤ pos m ≡ negsuc a
raised p a m e = omega (arith, ints)

rounds : (z : ℤ) (d : ℕ) → 0 < d → RoundsDown z d (shr_z z d)
rounds (pos a) d h = (a % d, (mod-lt a h, ap pos (div-add-mod' a d)))
rounds (negsuc a) d h =
    let l : a % d < d = mod-lt a h in
    let e = div-add-mod' a d in
    let f : suc (a / d) * d ≡ d + a / d * d = omega arith in
    (d - 1 - a % d, (omega arith, raised (suc (a / d) * d) a (d - 1 - a % d) (omega arith)))

pub right_shifts_round_down : RightShiftsRoundDown
right_shifts_round_down r s l =
    let z = signed 64 r in
    let d = 2 ^ (s % 64) in
    subst (RoundsDown z d) (sym (back (shr_z z d) (omega (arith, mag_shr z d, half r l)))) (rounds z d (pow_pos (s % 64)))
