-- What a run keeps: the lengths of window, registers and register file, and that bytes and qwords are such.
use Rattle.std.specs.Prelude.{◌≡◌, ℕ, ◌^◌, ◌<◌, ◌≤◌, List, length}
use Rattle.std.specs.List.{AllByRecursion}
use Rattle.isa.specs.Steps.{Config}
use Rattle.isa.specs.Runs.{ran}
use Rattle.isa.specs.Compartments.{entry_bytes, compartment_ran}

abbrev pub Bytes : List ℕ → Type 0
Bytes bs = AllByRecursion (λ b. b < 256) bs

abbrev pub Qwords : List ℕ → Type 0
Qwords vs = AllByRecursion (λ v. v < 2 ^ 64) vs

pub record Keeps (c d : Config) : Type 0 where
  pub same_window : length d.window ≡ length c.window
  pub same_registers : length d.registers ≡ length c.registers
  pub bytes : Bytes c.window → Qwords c.registers → Bytes d.window
  pub qwords : Bytes c.window → Qwords c.registers → Qwords d.registers

abbrev pub RunsKeep : Type 0
RunsKeep = (budget : ℕ) (c : Config) → Keeps c (ran budget c).last

-- A register file of 2,064 bytes has the same length afterwards, and its entries from the saved count to 255 stay.
pub record KeepsFile (window file : List ℕ) (saved budget : ℕ) : Type 0 where
  pub within : (compartment_ran window file saved budget).count ≤ budget
  pub same_window : length (compartment_ran window file saved budget).window ≡ length window
  pub same_file : length (compartment_ran window file saved budget).file ≡ 2064
  pub unsaved : (k : ℕ) → saved ≤ k → k < 256 → entry_bytes (compartment_ran window file saved budget).file k ≡ entry_bytes file k
  pub bytes : Bytes window → Bytes file → Bytes (compartment_ran window file saved budget).window
  pub file_bytes : Bytes file → Bytes (compartment_ran window file saved budget).file

abbrev pub FilesKeep : Type 0
FilesKeep = (window file : List ℕ) (saved budget : ℕ) → length file ≡ 2064 → KeepsFile window file saved budget
