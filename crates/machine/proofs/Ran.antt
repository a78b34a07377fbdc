-- An accepted run: its answer and the state that it leaves are those of the definition.
use Rattle.std.proofs.Common.{◌≡◌, ℕ, ◌≤◌, Bool, cond, eqb, List, set, Some, None, Ok, Option, Result, sym, ap, ◌∙◌}
use lib.Seq.{sets}
use Rattle.std.proofs.lemmas.Bool.{le-ltb, eq-eqb}
use Rattle.plan.specs.declared.row.Row.{Row}
use Rattle.machine.specs.States.{State}
use Rattle.machine.specs.Calls.{Run, Answer, Ended as EndedWith}
use Rattle.machine.specs.Outcomes.{admission, row_unless, grant_at, by_grant, run_of, recording, outcome}
use Rattle.machine.specs.declared.refusal.Refusal.{Refusal}
use Rattle.machine.specs.declared.refusal.Refusal.TheVariants as refusal

module _ (s : State) (r : Row) (k budget work : ℕ) where
  -- no ground stands against it
  accepted-is : admission s k ≡ Ok r → budget ≤ 1000000 → work ≡ 258 → outcome s (Run k budget work) ≡ (EndedWith (run_of s r budget).code (run_of s r budget).count, recording s r k (run_of s r budget))
  accepted-is a b w =
      let by : Option Refusal → Answer × State = λ o. by_grant s (Run k budget work) (row_unless r o) in
      ap (λ (x : Result Row Refusal). by_grant s (Run k budget work) (grant_at (Run k budget work) x)) a
      ∙ ap (λ (x : Bool). by (cond x (Some refusal.Budget) (cond (eqb work 258) None (Some refusal.Work)))) (le-ltb 1000000 budget b)
      ∙ ap (λ (x : Bool). by (cond x None (Some refusal.Work))) (eq-eqb work 258 w)

  pub ran-outcome : (code count : ℕ) (held : List ℕ) (latest : List (Option (ℕ × ℕ))) → admission s k ≡ Ok r → budget ≤ 1000000 → work ≡ 258 → code ≡ (run_of s r budget).code → count ≡ (run_of s r budget).count → held ≡ sets (sets s.held r.off (run_of s r budget).window) r.file (run_of s r budget).file → latest ≡ set s.latest k (Some (code, count)) → outcome s (Run k budget work) ≡ (EndedWith code count, record { held = held; plan = s.plan; latest = latest })
  ran-outcome code count held latest a b w c n h l =
      let e = run_of s r budget in
      let records : latest ≡ set s.latest k (Some (e.code, e.count)) =
      l ∙ ap (λ (x : ℕ). set s.latest k (Some (x, count))) c ∙ ap (λ (x : ℕ). set s.latest k (Some (e.code, x))) n in
      accepted-is a b w
      ∙ sym (λ i. (EndedWith (c i) (n i), record { held = h i; plan = s.plan; latest = records i }))
