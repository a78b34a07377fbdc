-- Quotient and remainder of signed numbers, by those of their sizes.
use Rattle.std.proofs.Common.{◌≡◌, ℕ, zero, suc, ◌+◌, ◌-◌, ◌*◌, ◌/◌, ◌%◌, ◌^◌, ◌<◌, ltb, ◌⊎◌, ℤ, pos, negsuc, ◌+ℤ◌, ◌-ℤ◌, ◌*ℤ◌, neg_ℤ, nat_abs, sym, refl, ap, ◌∙◌, inl, inr, mod-lt, mod-eq_of_lt, zero-mul, arith}
use lib.IntN.{neg_ℤ-+ℤ}
use lib.Signed.{non_neg}
use Rattle.std.proofs.lemmas.Nat.{div-add-mod'}
use Rattle.std.proofs.lemmas.Int.{ints}
use Rattle.std.proofs.lemmas.Bool.{cond_both}
use Rattle.numbers.specs.Signed.{register}
use Rattle.numbers.specs.Laws.{DivisionStands, SignedStands}

neg_times : (q d : ℕ) → neg_ℤ (pos q) *ℤ pos d ≡ neg_ℤ (pos (q * d))
neg_times zero d = rw (zero-mul d)
neg_times (suc q) d = refl

neg_times_neg : (q d : ℕ) → neg_ℤ (pos q) *ℤ negsuc d ≡ pos (q * suc d)
neg_times_neg zero d = rw (zero-mul (suc d))
neg_times_neg (suc q) d = refl

neg_plus : (x y : ℕ) → neg_ℤ (pos x) +ℤ neg_ℤ (pos y) ≡ neg_ℤ (pos (x + y))
neg_plus x y = sym (neg_ℤ-+ℤ (pos x) (pos y))

size_neg : (x : ℕ) → nat_abs (neg_ℤ (pos x)) ≡ x
size_neg zero = refl
size_neg (suc x) = refl

sign_neg : (x n : ℕ) → (neg_ℤ (pos x) ≡ pos 0) ⊎ (non_neg (neg_ℤ (pos x)) ≡ non_neg (negsuc n))
sign_neg zero n = inl refl
sign_neg (suc x) n = inr refl

some : (d : ℕ) → (pos d ≡ pos 0 → ⊥) → 0 < d
some zero h = absurd (h refl)
some (suc d) h = omega arith

pub division_stands : DivisionStands
division_stands (pos n) (pos d) h =
    record { sum = ap pos (div-add-mod' n d); small = mod-lt n (some d h); sign = inr refl }
division_stands (pos n) (negsuc d) h = record {
  sum = ap (λ (z : ℤ). z +ℤ pos (n % suc d)) (neg_times_neg (n / suc d) d) ∙ ap pos (div-add-mod' n (suc d));
  small = mod-lt n (omega arith);
  sign = inr refl;
}
division_stands (negsuc n) (pos d) h = record {
  sum =
      ap (λ (z : ℤ). z +ℤ neg_ℤ (pos (suc n % d))) (neg_times (suc n / d) d)
      ∙ neg_plus ((suc n / d) * d) (suc n % d)
      ∙ ap (λ (k : ℕ). neg_ℤ (pos k)) (div-add-mod' (suc n) d);
  small = rw (size_neg (suc n % d)) (mod-lt (suc n) (some d h));
  sign = sign_neg (suc n % d) n;
}
division_stands (negsuc n) (negsuc d) h = record {
  sum = neg_plus ((suc n / suc d) * suc d) (suc n % suc d) ∙ ap (λ (k : ℕ). neg_ℤ (pos k)) (div-add-mod' (suc n) (suc d));
  small = rw (size_neg (suc n % suc d)) (mod-lt (suc n) (omega arith));
  sign = sign_neg (suc n % suc d) n;
}

-- a difference below zero
pub below_zero : (v n : ℕ) → v < suc n → pos v -ℤ pos (suc n) ≡ negsuc (n - v)
below_zero v n h = omega (arith, ints)

pub signed_stands : SignedStands
signed_stands v h =
    cond_both (ltb v (2 ^ 63)) (pos v) (pos v -ℤ pos (2 ^ 64)) (λ z. register z ≡ v) (λ t. mod-eq_of_lt h)
    (λ t. ap register (below_zero v (2 ^ 64 - 1) h) ∙ omega arith)
