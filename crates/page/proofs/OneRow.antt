-- A plan of one row that fills a page: a word that is set is got again.
use Rattle.std.proofs.Common.{◌≡◌, ℕ, ◌^◌, ◌<◌, List, [], ◌∷◌, length, Some, Ok, Err, Result, sym, ap, ◌∙◌, arith}
use Rattle.std.specs.Result.{result_ok, result_and}
use Rattle.memory.specs.Bytes.{value_at, put_at}
use Rattle.memory.proofs.Puts.{length-put_at, value_at-put_at}
use Rattle.plan.specs.Lays.{Accepts, Lays}
use Rattle.plan.specs.Plans.{rows_of}
use Rattle.plan.specs.declared.ground.LayRefusal.{LayRefusal}
use Rattle.plan.specs.declared.plan.Plan.{Plan}
use Rattle.plan.specs.declared.row.Row.{Row}
use Rattle.machine.specs.Answers.{done_answer, word_answer}
use Rattle.machine.specs.Calls.{Answer, Set, Get, Done, Word}
use Rattle.machine.specs.Outcomes.{Outcome, outcome, admission, grant_at, by_grant, holding}
use Rattle.machine.specs.States.{State}
use Rattle.machine.specs.declared.refusal.Refusal.{Refusal}

abbrev the_row : Row
the_row = record { off = 0; max = 2031; file = 2032; saved = 1 }

-- what admits every call to compartment 0
abbrev Fills : State → Type 0
Fills s = (length s.held ≡ 4096) × (s.plan.size ≡ 4096) × (rows_of s.plan ≡ the_row ∷ [])

admits : (s : State) → Fills s → admission s 0 ≡ Ok the_row
admits s (l, z, r) = rw (l, z, r)

-- the state once the last entry is set
abbrev after : State → ℕ → State
after s w = holding s (put_at s.held 4088 8 w)

set_is : (s : State) (w : ℕ) → Fills s → outcome s (Set 0 257 w) ≡ (Done, after s w)
set_is s w h = ap (λ (a : Result Row Refusal). by_grant s (Set 0 257 w) (grant_at (Set 0 257 w) a)) (admits s h)

get_is : (s : State) (w : ℕ) → Fills s → w < 2 ^ 64 → outcome (after s w) (Get 0 257) ≡ (Word w, after s w)
get_is s w (l, z, r) small =
    let long : length (put_at s.held 4088 8 w) ≡ 4096 = length-put_at s.held 4088 8 w ∙ l in
    let back : value_at (put_at s.held 4088 8 w) 4088 8 ≡ w = value_at-put_at s.held 4088 8 w (omega arith) ∙ omega arith in
    ap (λ (a : Result Row Refusal). by_grant (after s w) (Get 0 257) (grant_at (Get 0 257) a)) (admits (after s w) (long, z, r)) ∙ ap (λ (x : ℕ). (Word x, after s w)) back

both_done : (set : Result (Unit {0}) Refusal) (got : Result ℕ Refusal) (w : ℕ) → done_answer set ≡ Done → word_answer got ≡ Word w → result_ok (result_and set got) ≡ Some w
both_done (Ok x) (Ok v) w e f = cc
both_done (Ok x) (Err r) w e f = let z : ◌≡◌ {A = ℕ} 0 1 = cc in absurd (omega arith)
both_done (Err r) got w e f = let z : ◌≡◌ {A = ℕ} 0 1 = cc in absurd (omega arith)

pub kept_word : (s t : State) (w : ℕ) (set : Result (Unit {0}) Refusal) (got : Result ℕ Refusal) → Fills s → w < 2 ^ 64 → Outcome (Set 0 257 w) s (done_answer set) t → Outcome (Get 0 257) t (word_answer got) t → result_ok (result_and set got) ≡ Some w
kept_word s t w set got h small p q =
    let done : (done_answer set, t) ≡ (Done, after s w) = sym p ∙ set_is s w h in
    let same : t ≡ after s w = ap (λ (a : Answer × State). a.1) done in
    let word : outcome t (Get 0 257) ≡ (Word w, after s w) = rw same (get_is s w h small) in
    both_done set got w (ap (λ (a : Answer × State). a.0) done) (ap (λ (a : Answer × State). a.0) (sym q ∙ word))

-- rows that were laid, by what `ok` makes of the answer
pub laid_ok : (rows : List Row) (laid : ℕ) (p q : Plan) (r : Result (Unit {0}) LayRefusal) (x : Unit {0}) → Lays rows laid p r q → result_ok r ≡ Some x → Accepts rows laid q
laid_ok rows laid p q (Ok u) x h e = h
laid_ok rows laid p q (Err u) x h e = let z : ◌≡◌ {A = ℕ} 0 1 = cc in absurd (omega arith)
