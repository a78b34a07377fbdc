-- What `from_fn` makes with a closure that changes no capture.
use Rattle.std.proofs.Common.{◌≡◌, ℕ, zero, suc, ◌+◌, ◌<◌, ◌≤◌, List, slice_index_or, subst, sym, ⊎_elim, arith}
use denote.Param.Members.{Mut, Called}
use Rattle.std.specs.Array.{IsFromFnResultFrom}
use Rattle.std.proofs.lemmas.Bool.{cases_eq}

module _ {F B : Type 0} (g : Mut F (ℕ × Unit {0}) B) (f : F) (P : ℕ → B → Type 0) (one : (i : ℕ) (y : B) (q : F) → Called g f (i, tt) y q → (q ≡ f) × P i y) (ys : List B) (e : B) where
  pub from_fn_each : (n i k : ℕ) → IsFromFnResultFrom g f ys i n → i ≤ k → k < i + n → P k (slice_index_or ys k e)
  from_fn_each zero i k made l u = absurd (omega arith)
  from_fn_each (suc n) i k made l u =
      let y = made.1 in
      let at : slice_index_or ys i e ≡ y = made.2.1 e in
      let w = one i y made.0 made.3 in
      ⊎_elim
      (λ (s : k ≡ i). subst (λ (j : ℕ). P j (slice_index_or ys j e)) (sym s) (subst (λ (v : B). P i v) (sym at) w.1))
      (λ (s : k ≡ i → ⊥). from_fn_each n (i + 1) k (subst (λ (q : F). IsFromFnResultFrom g q ys (i + 1) n) w.0 made.4) (omega arith) (omega arith))
      (cases_eq k i)
