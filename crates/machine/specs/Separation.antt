-- Lists of calls on a machine straight from its making, and what keeps its compartments apart.
use Rattle.std.specs.Prelude.{◌≡◌, ℕ, ◌+◌, ◌≤◌, ◌≢◌, List, [], ◌∷◌, ◌++◌, length, map, Some, None, Option, ◌==◌, slice_index, slice_index_or}
use Rattle.std.specs.List.{filter}
use Rattle.plan.specs.Areas.{Owns}
use Rattle.plan.specs.declared.plan.Plan.{Plan}
use Rattle.plan.specs.declared.row.Row.{Row}
use Rattle.machine.specs.States.{State, row_of}
use Rattle.machine.specs.Calls.{Call, Answer, named}
use Rattle.machine.specs.Outcomes.{Outcome, part}
use Rattle.machine.specs.Machines.{opening}

-- A compartment's length, its saved count, and its bytes: the window's, then the register file's. One that the plan lacks
-- has no bytes, and both numbers are 0.
abbrev pub row_length : Option Row → ℕ
row_length None = 0
row_length (Some r) = r.max + 1

abbrev pub row_saved : Option Row → ℕ
row_saved None = 0
row_saved (Some r) = r.saved

abbrev pub row_bytes : State → Option Row → List ℕ
row_bytes s None = []
row_bytes s (Some r) = part s.held r.off (r.max + 1) ++ part s.held r.file 2064

abbrev pub compartment_length : State → ℕ → ℕ
compartment_length s k = row_length (row_of s.plan k)

abbrev pub compartment_saved : State → ℕ → ℕ
compartment_saved s k = row_saved (row_of s.plan k)

abbrev pub compartment_bytes : State → ℕ → List ℕ
compartment_bytes s k = row_bytes s (row_of s.plan k)

-- Compartment k is the same in both.
pub record Alike (k : ℕ) (s t : State) : Type 0 where
  pub same_length : compartment_length s k ≡ compartment_length t k
  pub same_saved : compartment_saved s k ≡ compartment_saved t k
  pub same_bytes : compartment_bytes s k ≡ compartment_bytes t k

-- The memory has at least the plan's laid size.
abbrev pub Roomy : State → Type 0
Roomy s = s.plan.size ≤ length s.held

-- A call that was made, accepted or refused, with its answer.
pub record Event : Type 0 where
  pub call : Call
  pub answer : Answer

-- The events, one after the other, take a machine from s to t.
abbrev pub Session : State → List Event → State → Type 0
Session s [] t = s ≡ t
Session s (e ∷ es) t = (m : State) × (Outcome e.call s e.answer m × Session m es t)

abbrev pub calls : List Event → List Call
calls es = map (λ e. e.call) es

abbrev pub answers : List Event → List Answer
answers es = map (λ e. e.answer) es

-- The events whose call names k.
abbrev pub naming : ℕ → List Event → List Event
naming k es = filter (λ e. named e.call == k) es

-- Whatever the other compartments hold and whatever calls name them: where compartment k starts the same, and the same calls
-- name it in the same order, these calls have the same answers, and k has the same bytes at the end.
abbrev pub Separated : State → State → Type 0
Separated s t =
    (k : ℕ) (es fs : List Event) (s' t' : State)
    → Session s es s' → Session t fs t' → Roomy s → Roomy t → Alike k s t → calls (naming k es) ≡ calls (naming k fs)
    → (answers (naming k es) ≡ answers (naming k fs)) × (compartment_bytes s' k ≡ compartment_bytes t' k)

-- The byte at address a is one of compartment k.
abbrev pub HasByte : Plan → ℕ → ℕ → Type 0
HasByte p k a = (r : Row) × ((row_of p k ≡ Some r) × Owns r a)

-- From m to n nothing changes but bytes of compartment k and its record.
pub record OnlyChanges (k : ℕ) (m n : State) : Type 0 where
  pub same_plan : n.plan ≡ m.plan
  pub same_length : length n.held ≡ length m.held
  pub other_bytes : (a : ℕ) → (HasByte m.plan k a → ⊥) → slice_index n.held a ≡ slice_index m.held a
  pub other_records : (j : ℕ) → j ≢ k → slice_index_or n.latest j None ≡ slice_index_or m.latest j None

-- Wherever a list of calls has led, one more call changes nothing but the compartment that it names.
abbrev pub Confined : State → Type 0
Confined s =
    (es : List Event) (m n : State) (c : Call) (b : Answer) → Session s es m → Outcome c m b n → OnlyChanges (named c) m n

-- The machine is separated from every other that is straight from its making, over a memory of any make and under any plan;
-- each of its calls stays in its compartment; and every list of calls has its events.
pub record KeptApart (s : State) : Type 0 where
  pub separated : (held : List ℕ) (plan : Plan) → Separated s (opening held plan)
  pub confined : Confined s
  pub answered : (cs : List Call) → (es : List Event) × ((t : State) × ((calls es ≡ cs) × Session s es t))
