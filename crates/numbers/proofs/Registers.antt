-- Sums and products of registers stand for those of signed numbers.
use Rattle.std.proofs.Common.{◌≡◌, ℕ, zero, suc, ◌+◌, ◌-◌, ◌*◌, ◌%◌, ◌^◌, ◌<◌, ◌≤◌, ltb, ◌≢◌, ℤ, pos, negsuc, ◌+ℤ◌, ◌*ℤ◌, neg_ℤ, sym, refl, ap, ◌∙◌, mul_comm, arith}
use Rattle.std.proofs.lemmas.Nat.{mul-mod, mul-mod_first, mul-mod_second}
use Rattle.std.proofs.lemmas.Bool.{cond_both}
use Rattle.std.proofs.lemmas.Bool.Decides.{nat_tests}
use Rattle.std.proofs.Math.Nat.{add-mul}
use Rattle.std.specs.Int.RustNames.{int_div, int_rem}
use Rattle.numbers.specs.Signed.{signed, register}
use Rattle.numbers.specs.Values.{plus, times, divided, remaining}
use Rattle.numbers.specs.Laws.{LeftShiftsMultiply, RegistersDivide}
use Rattle.numbers.proofs.Bounds.{register_below}
use Rattle.numbers.proofs.Dividing.{division_stands, signed_stands}

-- two registers that a third brings to a multiple of 2 ^ 64 are one
alone : (u v x : ℕ) → u < 2 ^ 64 → v < 2 ^ 64 → (u + x) % 2 ^ 64 ≡ 0 → (v + x) % 2 ^ 64 ≡ 0 → u ≡ v
alone u v x l m h k = omega arith

neg_sum : (x : ℕ) → (register (neg_ℤ (pos x)) + x) % 2 ^ 64 ≡ 0
neg_sum zero = refl
neg_sum (suc n) = omega arith

neg_times : (x y : ℕ) → register (neg_ℤ (pos (x * y))) ≡ (register (neg_ℤ (pos x)) * y) % 2 ^ 64
neg_times x y =
    let v = register (neg_ℤ (pos x)) in
    let e : (v * y + x * y) % 2 ^ 64 ≡ 0 =
    ap (λ (n : ℕ). n % 2 ^ 64) (sym (add-mul v x y))
    ∙ sym (mul-mod_first (v + x) y (2 ^ 64))
    ∙ ap (λ (n : ℕ). (n * y) % 2 ^ 64) (neg_sum x)
    ∙ omega arith
    in
    let f : ((v * y) % 2 ^ 64 + x * y) % 2 ^ 64 ≡ 0 = omega arith in
    alone _ _ (x * y) (register_below (neg_ℤ (pos (x * y)))) (omega arith) (neg_sum (x * y)) f

-- what is turned twice is as before
twice : (p x y a d : ℕ) → a ≡ p % 2 ^ 64 → (a + x) % 2 ^ 64 ≡ 0 → d ≡ x % 2 ^ 64 → (d + y) % 2 ^ 64 ≡ 0 → y % 2 ^ 64 ≡ p % 2 ^ 64
twice p x y a d e f g h = omega arith

pub register_times : (a b : ℤ) → register (a *ℤ b) ≡ times (register a) (register b)
register_times (pos m) (pos n) = mul-mod m n (2 ^ 64)
register_times (negsuc m) (pos n) = neg_times (suc m) n ∙ sym (mul-mod_second (register (negsuc m)) n (2 ^ 64))
register_times (pos m) (negsuc n) =
    ap (λ (k : ℕ). register (neg_ℤ (pos k))) (mul_comm m (suc n))
    ∙ neg_times (suc n) m
    ∙ ap (λ (k : ℕ). k % 2 ^ 64) (mul_comm (register (negsuc n)) m)
    ∙ sym (mul-mod_first m (register (negsuc n)) (2 ^ 64))
register_times (negsuc m) (negsuc n) =
    let w = register (negsuc n) in
    twice _ (suc m * w) (suc m * suc n) _ _ (neg_times (suc m) w) (neg_sum (suc m * w))
    (ap (λ (k : ℕ). register (neg_ℤ (pos k))) (mul_comm (suc m) (suc n)) ∙ neg_times (suc n) (suc m) ∙ ap (λ (k : ℕ). k % 2 ^ 64) (mul_comm w (suc m)))
    (neg_sum (suc m * suc n))

pub register_plus : (a b : ℤ) → register (a +ℤ b) ≡ plus (register a) (register b)
register_plus (pos m) (pos n) = omega arith
register_plus (pos m) (negsuc n) =
    cond_both (ltb m (suc n)) (negsuc (suc n - suc m)) (pos (m - suc n)) (λ z. register z ≡ plus (register (pos m)) (register (negsuc n)))
    (λ e. let l : m < suc n = grind (arith, nat_tests) in omega arith) (λ e. let l : suc n ≤ m = grind (arith, nat_tests) in omega arith)
register_plus (negsuc m) (pos n) =
    cond_both (ltb n (suc m)) (negsuc (suc m - suc n)) (pos (n - suc m)) (λ z. register z ≡ plus (register (negsuc m)) (register (pos n)))
    (λ e. let l : n < suc m = grind (arith, nat_tests) in omega arith) (λ e. let l : suc m ≤ n = grind (arith, nat_tests) in omega arith)
register_plus (negsuc m) (negsuc n) = omega arith

divisor : (s : ℕ) → s < 2 ^ 64 → s ≢ 0 → signed 64 s ≢ pos 0
divisor s l n e = n (sym (signed_stands s l) ∙ ap register e)

pub registers_divide : RegistersDivide
registers_divide r s l m n =
    let a = signed 64 r in
    let b = signed 64 s in
    let t : times (divided r s) s ≡ register (int_div a b *ℤ b) =
    ap (λ (x : ℕ). times (divided r s) x) (sym (signed_stands s m)) ∙ sym (register_times (int_div a b) b)
    in
    ap (λ (x : ℕ). plus x (remaining r s)) t
    ∙ sym (register_plus (int_div a b *ℤ b) (int_rem a b))
    ∙ ap register (division_stands a b (divisor s m n)).sum
    ∙ signed_stands r l

pub left_shifts_multiply : LeftShiftsMultiply
left_shifts_multiply r s l =
    sym (mul-mod_second r (2 ^ (s % 64)) (2 ^ 64))
    ∙ ap (λ (x : ℕ). times x (2 ^ (s % 64) % 2 ^ 64)) (sym (signed_stands r l))
    ∙ sym (register_times (signed 64 r) (pos (2 ^ (s % 64))))
