-- A worked run: what it starts from, and what it leaves.
use Rattle.std.specs.Prelude.{◌≡◌, ℕ, ◌-◌, List, [], ◌∷◌, ◌++◌, length, map, replicate, slice_set}
use Rattle.memory.specs.Bytes.{bytes_of_all}
use Rattle.isa.specs.Ends.{end_code}
use Rattle.isa.specs.Steps.{Config}
use Rattle.isa.specs.Runs.{Ran, ran}
use Rattle.isa.specs.Compartments.{compartment_ran}

-- The bytes from address 0 on, the entries of the register file by index, the saved count and the budget; then the
-- error code, the count, and the bytes and the entries that have changed. What is not said is zero, or as it was.
pub record RunCase : Type 0 where
  pub bytes : List ℕ
  pub entries : List (ℕ × ℕ)
  pub saved : ℕ
  pub budget : ℕ
  pub code : ℕ
  pub count : ℕ
  pub stored : List (ℕ × ℕ)
  pub written : List (ℕ × ℕ)

-- The list with these values at these places.
abbrev pub changed : List ℕ → List (ℕ × ℕ) → List ℕ
changed xs [] = xs
changed xs (p ∷ ps) = changed (slice_set xs p.0 p.1) ps

-- A window of 64 bytes, and the 258 entries.
abbrev pub window_of : RunCase → List ℕ
window_of c = c.bytes ++ replicate (64 - length c.bytes) 0

abbrev pub entries_of : RunCase → List ℕ
entries_of c = changed (replicate 258 0) c.entries

abbrev pub window_left : RunCase → List ℕ
window_left c = changed (window_of c) c.stored

abbrev pub entries_left : RunCase → List ℕ
entries_left c = changed (entries_of c) c.written

-- Each run of the list, as that of a compartment with a register file, ends as its case says.
abbrev pub RanFromFiles : List RunCase → Type 0
RanFromFiles cases =
    map (λ c. compartment_ran (window_of c) (bytes_of_all (entries_of c)) c.saved c.budget) cases
    ≡ map (λ c. record { code = c.code; count = c.count; window = window_left c; file = bytes_of_all (entries_left c) }) cases

-- The error code, the count and what is left of a run that starts from the registers.
abbrev pub left_by : Ran → ℕ × ℕ × Config
left_by r = (end_code r.end, r.count, r.last)

-- Each run of the list, with the entries in the registers, ends as its case says.
abbrev pub RanFromRegisters : List RunCase → Type 0
RanFromRegisters cases =
    map (λ c. left_by (ran c.budget (record { window = window_of c; registers = entries_of c }))) cases
    ≡ map (λ c. (c.code, c.count, record { window = window_left c; registers = entries_left c })) cases
