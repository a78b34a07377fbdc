-- Words that fill operands, one after the other.
use Rattle.std.proofs.Common.{◌≡◌, ℕ, zero, suc, ◌+◌, ◌<◌, ◌≤◌, ◌≢◌, List, [], ◌∷◌, length, get_or, drop, set, sym, refl, ap, ◌∙◌, subst, inl, inr, add-one, arith, length-drop, length-set, drop-cons, get_or-set_other, get_or-set_same, below_more}
use Rattle.std.proofs.lemmas.List.{drop_all}
use Rattle.lines.specs.Faulty.{NextFails, OperandsFail}
use Rattle.lines.specs.Operands.{Gives}
use Rattle.lines.specs.declared.fault.Fault.{Fault}
use Rattle.lines.specs.declared.operand.Operand.{Operand}
use Rattle.lines.specs.declared.operand.Operand.TheVariants.{N}

-- what stands from place i on
drop_head : (ws : List (List ℕ)) (i : ℕ) (w : List ℕ) (vs : List (List ℕ)) → drop i ws ≡ w ∷ vs → (i < length ws) × (get_or ws i [] ≡ w) × (drop (i + 1) ws ≡ vs)
drop_head ws i w vs e =
    let l : i < length ws = omega (arith, length-drop i ws, ap length e) in
    let two = sym (drop-cons ws i [] l) ∙ e in
    let same : get_or ws i [] ≡ w = cc in
    let rest : drop (suc i) ws ≡ vs = cc in
    (l, same, rw (add-one) rest)

-- the first i operands are filled with the first i words
abbrev pub FilledTo : ℕ → List Operand → List (List ℕ) → List ℕ → Type 0
FilledTo i os ws ns = (k : ℕ) → k < i → Gives (get_or os k N) (get_or ws k []) (get_or ns k 0)

module _ (os : List Operand) (ws : List (List ℕ)) (i : ℕ) where
  -- one word more
  pub filled_more : (ns : List ℕ) (left : List (List ℕ)) (w : List ℕ) (rest : List (List ℕ)) (n : ℕ) → i < length os → length ns ≡ length os → drop i ws ≡ left → left ≡ w ∷ rest → Gives (get_or os i N) w n → FilledTo i os ws ns → (length (set ns i n) ≡ length os) × (i + 1 ≤ length ws) × (drop (i + 1) ws ≡ rest) × FilledTo (i + 1) os ws (set ns i n)
  filled_more ns left w rest n l long here next given so_far =
      let head = drop_head ws i w rest (here ∙ next) in (
        length-set ns i n ∙ long,
        omega (arith, head.0),
        head.2,
        below_more _ _
            (λ k h. let ne : k ≢ i = omega arith in subst (λ (x : ℕ). Gives (get_or os k N) (get_or ws k []) x) (sym (get_or-set_other ns i k n 0 ne)) (so_far k h))
            (subst (λ (x : ℕ). Gives (get_or os i N) (get_or ws i []) x) (sym (get_or-set_same ns i n 0 (omega arith)))
            (subst (λ (v : List ℕ). Gives (get_or os i N) v n) (sym head.1) given)),
      )

-- where the first i operands have their words, what fails behind these fails
fails_behind : (R : List (List ℕ) → Fault → Type 0) (f : Fault) (i : ℕ) (os : List Operand) (ws : List (List ℕ)) → i ≤ length os → i ≤ length ws → ((k : ℕ) → k < i → (n : ℕ) × Gives (get_or os k N) (get_or ws k []) n) → OperandsFail (drop i os) R (drop i ws) f → OperandsFail os R ws f
fails_behind R f zero os ws l m fit h = h
fails_behind R f (suc i) [] ws l m fit h = absurd (omega arith)
fails_behind R f (suc i) (o ∷ os) [] l m fit h = absurd (omega arith)
fails_behind R f (suc i) (o ∷ os) (w ∷ ws) l m fit h =
    inr (w, ws, (fit 0 (omega arith)).0, refl, (fit 0 (omega arith)).1, fails_behind R f i os ws (omega arith) (omega arith) (λ k less. fit (suc k) (omega arith)) h)

module _ (R : List (List ℕ) → Fault → Type 0) (f : Fault) (os : List Operand) (ws : List (List ℕ)) (ns : List ℕ) (i : ℕ) (short : i ≤ length ws) (so_far : FilledTo i os ws ns) where
  behind : i ≤ length os → (ps : List Operand) → drop i os ≡ ps → OperandsFail ps R (drop i ws) f → OperandsFail os R ws f
  behind l ps here fails =
      fails_behind R f i os ws l short (λ k h. (get_or ns k 0, so_far k h)) (subst (λ (qs : List Operand). OperandsFail qs R (drop i ws) f) (sym here) fails)

  -- the next operand gets no value
  pub next_fails : (left : List (List ℕ)) → i < length os → drop i ws ≡ left → NextFails (get_or os i N) left f → OperandsFail os R ws f
  next_fails left l here fails = behind (omega arith) (get_or os i N ∷ drop (suc i) os) (drop-cons os i N l) (inl (rw (sym here) at fails))

  -- all operands have their words, and what stands behind these fails
  pub filled_fails : (left : List (List ℕ)) → i ≡ length os → drop i ws ≡ left → R left f → OperandsFail os R ws f
  filled_fails left l here fails = behind (omega arith) [] (drop_all i os (omega arith)) (rw (sym here) at fails)
