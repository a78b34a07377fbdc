-- An admitted row lies inside the memory, and so below 2 ^ 32; its window has eight bytes at least and lies apart from its
-- register file; its compartment has a record.
use Rattle.std.specs.Prelude.{ℕ, ◌+◌, ◌^◌, ◌<◌, ◌≤◌, ◌⊎◌, length}
use Rattle.plan.specs.declared.row.Row.{Row}
use Rattle.machine.specs.States.{State}

pub record Inside (s : State) (k : ℕ) (r : Row) : Type 0 where
  pub recorded : k < 16
  pub long : 7 ≤ r.max
  pub apart : (r.off + (r.max + 1) ≤ r.file) ⊎ (r.file + 2064 ≤ r.off)
  pub window_held : r.off + r.max + 1 ≤ length s.held
  pub file_held : r.file + 2064 ≤ length s.held
  pub window_low : r.off + r.max + 1 ≤ 2 ^ 32
  pub file_low : r.file + 2064 ≤ 2 ^ 32
