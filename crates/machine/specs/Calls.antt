-- The calls as data, and their answers. Each names a compartment first; of fetch's buffer and of run's work area only
-- the length counts.
use Rattle.std.specs.Prelude.{ℕ, List, Option}

pub data Call : Type 0 where
  Put : ℕ → ℕ → List ℕ → Call
  Fetch : ℕ → ℕ → ℕ → Call
  Set : ℕ → ℕ → ℕ → Call
  Get : ℕ → ℕ → Call
  Run : ℕ → ℕ → ℕ → Call
  Last : ℕ → Call

-- A refusal by its number; that a call was done; the bytes that a fetch filled in; a word; a run's error code and count;
-- those of the latest run, where there was one.
pub data Answer : Type 0 where
  Refused : ℕ → Answer
  Done : Answer
  Filled : List ℕ → Answer
  Word : ℕ → Answer
  Ended : ℕ → ℕ → Answer
  Latest : Option (ℕ × ℕ) → Answer

-- The compartment that a call names.
abbrev pub named : Call → ℕ
named (Put k a bs) = k
named (Fetch k a n) = k
named (Set k i w) = k
named (Get k i) = k
named (Run k budget work) = k
named (Last k) = k
