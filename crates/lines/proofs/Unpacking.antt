-- The values of operands, taken out of the array that they were read into.
use Rattle.std.proofs.Common.{◌≡◌, ℕ, zero, suc, ◌+◌, ◌<◌, List, [], ◌∷◌, length, get_or, sym, ap, ◌∙◌, subst, add-zero, arith}
use Rattle.lines.specs.Operands.{Filled, Gives}
use Rattle.lines.specs.declared.operand.Operand.{Operand}
use Rattle.lines.specs.declared.operand.Operand.TheVariants.{N}

-- n elements from place i on, each by itself
abbrev pub unpacked : List ℕ → ℕ → ℕ → List ℕ
unpacked vs i zero = []
unpacked vs i (suc n) = get_or vs i 0 ∷ unpacked vs (suc i) n

slice_index-unpacked : (vs : List ℕ) (i n k : ℕ) → k < n → get_or (unpacked vs i n) k 0 ≡ get_or vs (i + k) 0
slice_index-unpacked vs i zero k h = absurd (omega arith)
slice_index-unpacked vs i (suc n) zero h = ap (λ (j : ℕ). get_or vs j 0) (sym (add-zero i))
slice_index-unpacked vs i (suc n) (suc k) h = slice_index-unpacked vs (suc i) n k (omega arith) ∙ ap (λ (j : ℕ). get_or vs j 0) (omega arith)

pub filled_unpacked : (os : List Operand) (ws : List (List ℕ)) (vs : List ℕ) (n : ℕ) → length os ≡ n → Filled os ws vs → Filled os ws (unpacked vs 0 n)
filled_unpacked os ws vs n e (long, all) =
    (long, λ k h. subst (λ (v : ℕ). Gives (get_or os k N) (get_or ws k []) v) (sym (slice_index-unpacked vs 0 n k (omega arith) ∙ ap (λ (j : ℕ). get_or vs j 0) (omega arith))) (all k h))
