-- A work area of a wrong length: which one makes no difference. And how a run leaves a whole one.
use Rattle.std.proofs.Common.{◌≡◌, ℕ, Bool, true, false, cond, List, Ok, Err, Some, None, Result, replicate, refl, ap, ◌∙◌, is_ok, is_err, arith}
use Rattle.std.specs.Prelude.{◌==◌, nat_lt}
use Rattle.std.proofs.lemmas.Bool.Decides.{nat_tests}
use Rattle.plan.specs.declared.row.Row.{Row}
use Rattle.machine.specs.Calls.{Run}
use Rattle.machine.specs.Outcomes.{admission, by_grant, grant_at, outcome, row_unless}
use Rattle.machine.specs.States.{State}
use Rattle.machine.specs.declared.refusal.Refusal.{Refusal}
use Rattle.machine.specs.declared.refusal.Refusal.TheVariants as refusal

module _ (s : State) (k budget work : ℕ) (other : work ≡ 258 → ⊥) where
  -- what is done of an admitted run does not look at the work area
  same_done : (g : Result Row Refusal) → by_grant s (Run k budget work) g ≡ by_grant s (Run k budget 0) g
  same_done (Ok r) = refl
  same_done (Err e) = refl

  same_grant : (a : Result Row Refusal) → by_grant s (Run k budget work) (grant_at (Run k budget work) a) ≡ by_grant s (Run k budget 0) (grant_at (Run k budget 0) a)
  same_grant (Err e) = refl
  same_grant (Ok r) =
      let e : (work == 258) ≡ false = grind (arith, nat_tests) in
      same_done _ ∙ ap (λ (b : Bool). by_grant s (Run k budget 0) (row_unless r (cond (nat_lt 1000000 budget) (Some refusal.Budget) (cond b None (Some refusal.Work))))) e

  pub other_work : outcome s (Run k budget work) ≡ outcome s (Run k budget 0)
  other_work = same_grant (admission s k)

pub still_wiped : {A E : Type 0} (r : Result A E) (old new : List ℕ) → (is_ok r ≡ true → new ≡ replicate 258 0) → (is_err r ≡ true → new ≡ old) → old ≡ replicate 258 0 → new ≡ replicate 258 0
still_wiped (Ok _) old new wiped kept h = wiped refl
still_wiped (Err _) old new wiped kept h = kept refl ∙ h
