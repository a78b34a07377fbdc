-- The low bytes of a number depend on its low part alone.
use Rattle.std.proofs.Common.{◌≡◌, ℕ, zero, suc, ◌+◌, ◌*◌, ◌/◌, ◌%◌, ◌^◌, ◌<◌, List, [], ◌∷◌, ◌++◌, refl, ap, ◌∙◌, pow-suc, arith}
use lib.Arith.{mod-mul, digits_div, digits_mod}
use Rattle.memory.specs.Bytes.{bytes_of}

big : (n : ℕ) → 0 < 256 ^ n
big zero = omega arith
big (suc n) = let h = big n in rw (pow-suc 256 n) (omega arith)

pub bytes_of_low : (n v : ℕ) → bytes_of n (v % 256 ^ n) ≡ bytes_of n v
unfolding bytes_of
bytes_of_low zero v = refl
bytes_of_low (suc n) v =
    let s : v % 256 < 256 = omega arith in
    let e : v % 256 ^ suc n ≡ (v / 256 % 256 ^ n) * 256 + v % 256 = ap (λ (x : ℕ). v % x) (pow-suc 256 n) ∙ mod-mul v {m = 256 ^ n} {c = 256} (big n) (omega arith) in
    ap (λ (x : ℕ). bytes_of n (x / 256) ++ (x % 256 ∷ [])) e
    ∙ ap (λ (x : ℕ). bytes_of n x ++ (((v / 256 % 256 ^ n) * 256 + v % 256) % 256 ∷ [])) (digits_div (v / 256 % 256 ^ n) s)
    ∙ ap (λ (x : ℕ). bytes_of n (v / 256 % 256 ^ n) ++ (x ∷ [])) (digits_mod (v / 256 % 256 ^ n) s)
    ∙ ap (λ (x : List ℕ). x ++ (v % 256 ∷ [])) (bytes_of_low n (v / 256))
