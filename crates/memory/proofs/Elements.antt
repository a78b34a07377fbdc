-- A list of numbers as the bytes that they stand for, w bytes each. Below, u and v are the w that the code has.
use Rattle.std.proofs.Common.{◌≡◌, ℕ, ◌+◌, ◌*◌, ◌/◌, ◌%◌, ◌^◌, ◌<◌, ◌≤◌, List, length, ap, arith}
use Rattle.std.proofs.Math.Nat.{div-add-mod, div-lt_iff_lt-mul, mul_comm, mul-le-mul_left}
use Rattle.memory.specs.Bytes.{cut}
use Rattle.memory.proofs.Cuts.{length_cut}

module _ {E : Type 0} (spread : List E → List ℕ) (w : ℕ) (held : List E) (whole : length (spread held) ≡ w * length held) where
  pub few_elements : (n v : ℕ) → v ≡ w → w * (2 ^ 32 / w) ≡ 2 ^ 32 → n ≡ length held → n < 2 ^ 32 / v → w * n ≡ length (cut (spread held))
  few_elements n v is even e h =
      let l : w * n ≤ w * (2 ^ 32 / w) = mul-le-mul_left w (rw (← is) (omega (arith, h))) in
      let same : w * n ≡ w * length held = ap (λ (k : ℕ). w * k) e in
      omega (arith, length_cut (spread held), whole)

  pub many_elements : (n v : ℕ) → v ≡ w → w * (2 ^ 32 / w) ≡ 2 ^ 32 → n ≡ length held → 2 ^ 32 / v ≤ n → 2 ^ 32 ≡ length (cut (spread held))
  many_elements n v is even e h =
      let l : w * (2 ^ 32 / w) ≤ w * n = mul-le-mul_left w (rw (← is) h) in
      let same : w * n ≡ w * length held = ap (λ (k : ℕ). w * k) e in
      omega (arith, length_cut (spread held), whole)

  pub element_inside : (a n v : ℕ) → v ≡ w → 0 < w → n ≡ length (cut (spread held)) → a < n → a / v < length held
  element_inside a n v is some e h =
      rw is ((div-lt_iff_lt-mul some).1 (rw (mul_comm (length held) w) (omega (arith, length_cut (spread held), whole))))

-- The place of a byte is that of its number, w bytes each, and one of the w places in it.
pub byte_place : (a u v w : ℕ) → u ≡ w → v ≡ w → w * (a / u) + a % v ≡ a
byte_place a u v w is same = rw (is, same) (div-add-mod a w)
