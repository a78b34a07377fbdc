-- Where a run stands, as a window and a bank hold it.
use Rattle.std.specs.Prelude.{◌≡◌, ℕ, ◌+◌, ◌≤◌, List, slice_set}
use Rattle.memory.specs.declared.meaning.Memory.{Ghosts}
use Rattle.isa.specs.Opcodes.{Entry}
use Rattle.isa.specs.Reading.{instruction_of}
use Rattle.isa.specs.Steps.{Config, P, held, obeyed}
use Rattle.window.specs.Windows.{parts_of}
use Rattle.bank.specs.Banks.{words_of, lender}
use Rattle.window.specs.Views.{seen}
use Rattle.cpu.specs.declared.processor.Processor.{Processor}

-- The bank's words, with P in its place among them.
abbrev pub registers_of : {M : Type 0} {g : Ghosts M} → Processor M g → List ℕ
registers_of p = slice_set (words_of p.bank.now) P p.p

abbrev pub config_of : {M : Type 0} {g : Ghosts M} → Processor M g → Config
config_of {M} {g} p = record { window = seen (g.bytes p.window.memory.now) p.window.extent; registers = registers_of p }

-- The processor stands at c, in the same window and on the same bank; the memory's other bytes stay.
pub record Reaches {M : Type 0} {g : Ghosts M} (old new : Processor M g) (c : Config) : Type 0 where
  pub window : parts_of new.window ≡ record (parts_of old.window) { window = c.window }
  pub registers : registers_of new ≡ c.registers
  pub lent : lender new.bank.now ≡ lender old.bank.now
  pub same_memory : new.window.memory.ghost_name ≡ old.window.memory.ghost_name
  pub same_bank : new.bank.ghost_name ≡ old.bank.ghost_name

-- The instruction at P lies in the window whole, however long it is.
abbrev pub Ready : {M : Type 0} {g : Ghosts M} → Processor M g → Type 0
Ready p = held (config_of p) P + 10 ≤ p.window.extent.max + 1

-- The processor has done the instruction of a table's entry at P.
pub record Does {M : Type 0} {g : Ghosts M} (old : Processor M g) (e : Entry) (new : Processor M g) : Type 0 where
  pub end_is : new.ended ≡ (obeyed (config_of old) (instruction_of e (config_of old).window (held (config_of old) P))).end
  pub next : Reaches old new (obeyed (config_of old) (instruction_of e (config_of old).window (held (config_of old) P))).next
