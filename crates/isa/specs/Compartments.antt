-- The run of a compartment: from its window, its register file, its saved count and a budget.
use Rattle.std.specs.Prelude.{ℕ, ◌*◌, Bool, true, cond, List, map, take, drop, nat_le, nat_lt, slice_index}
use Rattle.std.specs.List.{range_with_len, flat_map}
use Rattle.memory.specs.Bytes.{bytes_of, value_at}
use Rattle.isa.specs.Ends.{end_code}
use Rattle.isa.specs.Steps.{P}
use Rattle.isa.specs.Runs.{Ran, ran}

-- Entry k of a register file: eight bytes, and the qword that they stand for.
abbrev pub entry_bytes : List ℕ → ℕ → List ℕ
entry_bytes file k = take 8 (drop (8 * k) file)

abbrev pub entry_value : List ℕ → ℕ → ℕ
entry_value file k = value_at (entry_bytes file k) 0 8

-- The entries that last from run to run: those below the saved count, P and S.
abbrev pub keeps : ℕ → ℕ → Bool
keeps saved k = cond (nat_lt k saved) true (nat_le P k)

-- The registers at the start: what the kept entries hold, and zero.
unfoldable pub started : List ℕ → ℕ → List ℕ
started file saved = map (λ k. cond (keeps saved k) (entry_value file k) 0) (range_with_len 0 258)

-- The register file at the end: the kept entries are the registers', the others stay.
unfoldable pub filed : List ℕ → ℕ → List ℕ → List ℕ
filed file saved registers =
    flat_map (λ k. cond (keeps saved k) (bytes_of 8 (slice_index registers k)) (entry_bytes file k)) (range_with_len 0 258)

-- The error code, the count, the window and the register file at the end.
pub record Ended : Type 0 where
  pub code : ℕ
  pub count : ℕ
  pub window : List ℕ
  pub file : List ℕ

abbrev pub ended : List ℕ → ℕ → Ran → Ended
ended file saved r =
    record { code = end_code r.end; count = r.count; window = r.last.window; file = filed file saved r.last.registers }

unfoldable pub compartment_ran : List ℕ → List ℕ → ℕ → ℕ → Ended
compartment_ran window file saved budget =
    ended file saved (ran budget (record { window = window; registers = started file saved }))
