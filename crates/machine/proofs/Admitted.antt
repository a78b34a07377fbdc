-- What an admitted row keeps to.
use Rattle.std.proofs.Common.{◌≡◌, ℕ, ◌+◌, ◌<◌, ◌≤◌, Bool, true, false, cond, ltb, ◌⊎◌, length, Some, None, Ok, Err, Option, Result, IfOk, refl, sym, inl, inr, ⊎_elim, arith}
use Rattle.std.proofs.lemmas.Option.{slice_get_past}
use Rattle.std.proofs.lemmas.Bool.{cases_lt, ltb-false}
use Rattle.plan.specs.Areas.{Crosses}
use Rattle.plan.specs.Plans.{rows_of}
use Rattle.plan.specs.declared.plan.Plan.{Plan}
use Rattle.plan.specs.declared.row.Row.{Row}
use Rattle.plan.proofs.Found.{sound}
use Rattle.machine.specs.States.{State, row_of}
use Rattle.machine.specs.Outcomes.{admission, row_or}
use Rattle.machine.specs.Inside.{Inside}
use Rattle.machine.specs.declared.refusal.Refusal.{Refusal}
use Rattle.machine.specs.declared.refusal.Refusal.TheVariants as refusal

-- a byte of both areas, where each begins before the other ends
both : (r : Row) → r.file < r.off + (r.max + 1) → r.off < r.file + 2064 → Crosses r
both r l m =
    ⊎_elim
    (λ (o : r.off < r.file). (r.file, ((omega arith, omega arith), (omega arith, omega arith))))
    (λ (o : r.file ≤ r.off). (r.off, ((omega arith, omega arith), (omega arith, omega arith))))
    (cases_lt r.off r.file)

row_is : (o : Option Row) (r : Row) → row_or o ≡ Ok r → o ≡ Some r
row_is None r e = let z : ◌≡◌ {A = ℕ} 0 1 = cc in absurd (omega arith)
row_is (Some q) r e = cc

-- past the test of the size, and with a row
tested : (s : State) (k : ℕ) (r : Row) (b : Bool) → cond b (Err refusal.Memory) (row_or (row_of s.plan k)) ≡ Ok r → (b ≡ false) × (row_of s.plan k ≡ Some r)
tested s k r true e = let z : ◌≡◌ {A = ℕ} 0 1 = cc in absurd (omega arith)
tested s k r false e = (refl, row_is (row_of s.plan k) r e)

place : (p : Plan) (k : ℕ) (r : Row) → row_of p k ≡ Some r → k < length (rows_of p)
place p k r e =
    elim (cases_lt k (length (rows_of p))) [ inl l ↦ l | inr l ↦ let z : ◌≡◌ {A = ℕ} 0 1 = cc (slice_get_past (rows_of p) k l) in absurd (omega arith) ]

-- two areas that share no byte lie one behind the other
split-ways : (r : Row) → (Crosses r → ⊥) → (r.off + (r.max + 1) ≤ r.file) ⊎ (r.file + 2064 ≤ r.off)
split-ways r none =
    ⊎_elim
    (λ (l : r.file < r.off + (r.max + 1)). ⊎_elim
    (λ (m : r.off < r.file + 2064). absurd (none (both r l m)))
    (λ (m : r.file + 2064 ≤ r.off). inr m)
    (cases_lt r.off (r.file + 2064)))
    (λ (l : r.off + (r.max + 1) ≤ r.file). inl l)
    (cases_lt r.file (r.off + (r.max + 1)))

pub admitted : (s : State) (k : ℕ) (r : Row) → admission s k ≡ Ok r → Inside s k r
admitted s k r e =
    let h = tested s k r (ltb (length s.held) s.plan.size) e in
    let room : s.plan.size ≤ length s.held = ltb-false (length s.held) s.plan.size h.0 in
    let all = sound s.plan in
    let fit = all.bounded k r h.1 in
    record {
      long = fit.0;
      apart = split-ways r (all.split k r h.1);
      recorded = omega (arith, place s.plan k r h.1, all.few);
      window_held = omega (arith, fit.3);
      file_held = omega (arith, fit.4);
      window_low = omega (arith, fit.3, all.small);
      file_low = omega (arith, fit.4, all.small);
    }

-- the same of an answer, whichever it is
pub admitted_if : (s : State) (k : ℕ) (a : Result Row Refusal) → a ≡ admission s k → IfOk a (λ r. Inside s k r)
admitted_if s k (Ok r) e = admitted s k r (sym e)
admitted_if s k (Err x) e = tt
