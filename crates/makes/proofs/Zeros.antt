-- Memories that are made of zeros.
use Rattle.std.proofs.Common.{◌≡◌, ℕ, zero, suc, ◌+◌, ◌*◌, ◌^◌, ◌<◌, ◌≤◌, min, List, ◌++◌, replicate, refl, ap, ◌∙◌, ⊎_elim, arith}
use lib.ListN.{length-replicate}
use Rattle.std.proofs.lemmas.List.{take-replicate, take_all, replicate-append-replicate}
use Rattle.std.proofs.lemmas.Bool.{cases_lt}
use Rattle.memory.specs.Bytes.{cut, bytes_of, bytes_of_all}

pub cut_zeros : (n : ℕ) → cut (replicate n 0) ≡ replicate (min (2 ^ 32) n) 0
unfolding cut
cut_zeros n =
    ⊎_elim
    (λ (h : 2 ^ 32 < n). let e : 2 ^ 32 ≡ min (2 ^ 32) n = omega arith in take-replicate (2 ^ 32) n 0 (omega arith) ∙ ap (λ (k : ℕ). replicate k 0) e)
    (λ (h : n ≤ 2 ^ 32). let e : n ≡ min (2 ^ 32) n = omega arith in take_all (2 ^ 32) (replicate n 0) (omega (arith, length-replicate {A = ℕ} n 0)) ∙ ap (λ (k : ℕ). replicate k 0) e)
    (cases_lt (2 ^ 32) n)

all_zeros : (n : ℕ) → bytes_of_all (replicate n 0) ≡ replicate (8 * n) 0
unfolding bytes_of bytes_of_all
all_zeros zero = refl
all_zeros (suc n) =
    let e : 8 + 8 * n ≡ 8 * suc n = omega arith in
    ap (λ (bs : List ℕ). replicate 8 0 ++ bs) (all_zeros n) ∙ replicate-append-replicate 8 (8 * n) 0 ∙ ap (λ (k : ℕ). replicate k 0) e

pub words_zeros : (n : ℕ) → cut (bytes_of_all (replicate n 0)) ≡ replicate (min (2 ^ 32) (8 * n)) 0
words_zeros n = ap cut (all_zeros n) ∙ cut_zeros (8 * n)

pub spliced_zeros : (n m : ℕ) → cut (cut (replicate n 0) ++ cut (bytes_of_all (replicate m 0))) ≡ replicate (min (2 ^ 32) (n + 8 * m)) 0
spliced_zeros n m =
    let e : min (2 ^ 32) (min (2 ^ 32) n + min (2 ^ 32) (8 * m)) ≡ min (2 ^ 32) (n + 8 * m) = omega arith in
    rw (cut_zeros n, words_zeros m, replicate-append-replicate {A = ℕ} (min (2 ^ 32) n) (min (2 ^ 32) (8 * m)) 0, cut_zeros (min (2 ^ 32) n + min (2 ^ 32) (8 * m)), e)
