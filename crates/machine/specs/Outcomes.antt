-- What a call answers and the state that it leads to: a refusal, or what is done by the row and the record of the compartment
-- that it names.
use Rattle.std.specs.Prelude.{◌≡◌, ℕ, ◌+◌, ◌*◌, cond, List, length, take, drop, Some, None, Ok, Err, Option, Result, ◌==◌, nat_lt, slice_index_or, slice_set}
use Rattle.std.proofs.lemmas.List.Edits.{sets}
use Rattle.memory.specs.Bytes.{value_at, put_at}
use Rattle.isa.specs.Compartments.{Ended, compartment_ran}
use Rattle.plan.specs.declared.row.Row.{Row}
use Rattle.machine.specs.Refusals.{refusal_number}
use Rattle.machine.specs.declared.refusal.Refusal.{Refusal}
use Rattle.machine.specs.declared.refusal.Refusal.TheVariants as refusal
use Rattle.machine.specs.States.{State, row_of}
use Rattle.machine.specs.Calls.{Call, Put, Fetch, Set, Get, Run, Last, Answer, Refused, Done, Filled, Word, Ended as EndedWith, Latest, named}

-- The n bytes from an address on.
abbrev pub part : List ℕ → ℕ → ℕ → List ℕ
part bs from n = take n (drop from bs)

-- The ground on which a call to a compartment of this length is refused, where there is one.
abbrev pub ground : ℕ → Call → Option Refusal
ground long (Put k a bs) = cond (nat_lt long (a + length bs)) (Some refusal.Span) None
ground long (Fetch k a n) = cond (nat_lt long (a + n)) (Some refusal.Span) None
ground long (Set k i w) = cond (nat_lt 257 i) (Some refusal.Index) None
ground long (Get k i) = cond (nat_lt 257 i) (Some refusal.Index) None
ground long (Run k budget work) =
    cond (nat_lt 1000000 budget) (Some refusal.Budget) (cond (work == 258) None (Some refusal.Work))
ground long (Last k) = None

-- The row of compartment k, or the refusal of every call that names it.
abbrev pub row_or : Option Row → Result Row Refusal
row_or None = Err refusal.Compartment
row_or (Some r) = Ok r

abbrev pub admission : State → ℕ → Result Row Refusal
admission s k = cond (nat_lt (length s.held) s.plan.size) (Err refusal.Memory) (row_or (row_of s.plan k))

-- The row on which a call works, or the ground on which it is refused.
abbrev pub row_unless : Row → Option Refusal → Result Row Refusal
row_unless r (Some e) = Err e
row_unless r None = Ok r

abbrev pub grant_at : Call → Result Row Refusal → Result Row Refusal
grant_at c (Err e) = Err e
grant_at c (Ok r) = row_unless r (ground (r.max + 1) c)

abbrev pub grant : State → Call → Result Row Refusal
grant s c = grant_at c (admission s (named c))

-- The state once the memory holds these bytes.
abbrev pub holding : State → List ℕ → State
holding s bs = record { held = bs; plan = s.plan; latest = s.latest }

-- The run of the row's compartment, from its own bytes alone.
abbrev pub run_of : State → Row → ℕ → Ended
run_of s r budget = compartment_ran (part s.held r.off (r.max + 1)) (part s.held r.file 2064) r.saved budget

-- The state once compartment k's run has ended so: its window and its register file, and its record.
abbrev pub recording : State → Row → ℕ → Ended → State
recording s r k e = record {
  held = sets (sets s.held r.off e.window) r.file e.file;
  plan = s.plan;
  latest = slice_set s.latest k (Some (e.code, e.count));
}

-- An accepted call: `sets` puts bytes in the places from an address on, one after the other.
abbrev pub accepted : State → Row → Call → Answer × State
accepted s r (Put k a bs) = (Done, holding s (sets s.held (r.off + a) bs))
accepted s r (Fetch k a n) = (Filled (part s.held (r.off + a) n), s)
accepted s r (Set k i w) = (Done, holding s (put_at s.held (r.file + 8 * i) 8 w))
accepted s r (Get k i) = (Word (value_at s.held (r.file + 8 * i) 8), s)
accepted s r (Run k budget work) =
    (EndedWith (run_of s r budget).code (run_of s r budget).count, recording s r k (run_of s r budget))
accepted s r (Last k) = (Latest (slice_index_or s.latest k None), s)

abbrev pub by_grant : State → Call → Result Row Refusal → Answer × State
by_grant s c (Err e) = (Refused (refusal_number e), s)
by_grant s c (Ok r) = accepted s r c

abbrev pub outcome : State → Call → Answer × State
outcome s c = by_grant s c (grant s c)

-- The call c takes a machine from s to t and answers a.
abbrev pub Outcome : Call → State → Answer → State → Type 0
Outcome c s a t = outcome s c ≡ (a, t)
