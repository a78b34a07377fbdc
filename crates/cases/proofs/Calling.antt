-- What a call answers hangs on the plan's rows and its laid size alone.
use Rattle.std.proofs.Common.{◌≡◌, ℕ, suc, Bool, false, List, map, length, Some, None, Ok, Err, Option, Result, cond, ltb, sym, ap, ◌∙◌}
use Rattle.std.specs.List.{slice_get}
use Rattle.isa.specs.Compartments.{compartment_ran, ended, started}
use Rattle.isa.specs.Runs.{Ran, after, ran_on}
use Rattle.isa.specs.Steps.{stepped}
use Rattle.isa.specs.declared.end.End.{End}
use Rattle.plan.specs.Plans.{rows_of}
use Rattle.plan.specs.declared.plan.Plan.{Plan}
use Rattle.plan.specs.declared.row.Row.{Row}
use Rattle.machine.specs.Calls.{Answer, Call, Ended as EndedWith, Run, named}
use Rattle.machine.specs.Machines.{opening}
use Rattle.machine.specs.Outcomes.{admission, outcome, by_grant, grant_at, row_or, row_unless, run_of}
use Rattle.machine.specs.States.{State}
use Rattle.machine.specs.declared.refusal.Refusal.{Refusal}
use Rattle.machine.specs.declared.refusal.Refusal.TheVariants as refusal
use Rattle.cases.specs.Calling.{CallCase, memory}
use Rattle.cases.specs.Layings.{row, two_compartments}

abbrev pub second : Row
second = row 2072 15 2088 256

-- the outcome under a plan, with rows and a laid size in the place of the plan's own
abbrev pub by_rows : Plan → List Row → ℕ → CallCase → Answer × State
by_rows plan rows laid c =
    by_grant (opening (memory c.size) plan) c.call
    (grant_at c.call (cond (ltb (length (memory c.size)) laid) (Err refusal.Memory) (row_or (slice_get rows (named c.call)))))

pub with_rows : (plan : Plan) → rows_of plan ≡ two_compartments → plan.size ≡ 4152 → (cases : List CallCase)
    → map (λ c. outcome (opening (memory c.size) plan) c.call) cases ≡ map (by_rows plan two_compartments 4152) cases
with_rows plan rows size cases =
    ap (λ (rs : List Row). map (by_rows plan rs plan.size) cases) rows
    ∙ ap (λ (n : ℕ). map (by_rows plan two_compartments n) cases) size

-- the same of one call in any state
pub outcome_by : (s : State) (rows : List Row) (laid : ℕ) → rows_of s.plan ≡ rows → s.plan.size ≡ laid → (c : Call)
    → outcome s c ≡ by_grant s c (grant_at c (cond (ltb (length s.held) laid) (Err refusal.Memory) (row_or (slice_get rows (named c)))))
outcome_by s rows laid e f c =
    ap (λ (rs : List Row). by_grant s c (grant_at c (cond (ltb (length s.held) s.plan.size) (Err refusal.Memory) (row_or (slice_get rs (named c)))))) e
    ∙ ap (λ (n : ℕ). by_grant s c (grant_at c (cond (ltb (length s.held) n) (Err refusal.Memory) (row_or (slice_get rows (named c)))))) f

-- a first instruction that ends the run ends it under every budget but 0
past_end : (o : Option End) (e : End) (f : End → Ran) (x y : Ran) → o ≡ Some e → after o f x ≡ after o f y
past_end o e f x y h = ap (λ (p : Option End). after p f x) h ∙ ap (λ (p : Option End). after p f y) (sym h)

pub at_once : (window file : List ℕ) (saved budget : ℕ) (e : End) → (stepped (record { window = window; registers = started file saved })).end ≡ Some e
    → compartment_ran window file saved (suc budget) ≡ compartment_ran window file saved 1
unfolding compartment_ran ran_on
at_once window file saved budget e h = ap (ended file saved) (past_end _ e _ _ _ h)

-- the answer of a run that is granted
pub run_ends : (s : State) (k budget : ℕ) (r : Row) → admission s k ≡ Ok r → ltb 1000000 budget ≡ false
    → (outcome s (Run k budget 258)).0 ≡ EndedWith (run_of s r budget).code (run_of s r budget).count
run_ends s k budget r e l =
    ap (λ (a : Result Row Refusal). (by_grant s (Run k budget 258) (grant_at (Run k budget 258) a)).0) e
    ∙ ap (λ (b : Bool). (by_grant s (Run k budget 258) (row_unless r (cond b (Some refusal.Budget) None))).0) l

pub admitted : (plan : Plan) → rows_of plan ≡ two_compartments → plan.size ≡ 4152 → admission (opening (memory 4152) plan) 1 ≡ Ok second
admitted plan rows size =
    ap (λ (rs : List Row). cond (ltb 4152 plan.size) (Err refusal.Memory) (row_or (slice_get rs 1))) rows
    ∙ ap (λ (n : ℕ). cond (ltb 4152 n) (Err refusal.Memory) (Ok second)) size
