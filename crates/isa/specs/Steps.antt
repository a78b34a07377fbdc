-- One step: the instruction at P is read, P moves on, the source registers are read, and the effect follows.
use Rattle.std.specs.Prelude.{ℕ, List, Some, None, Option, slice_index, slice_set}
use Rattle.memory.specs.Widths.{width_bytes}
use Rattle.numbers.specs.Values.{plus, minus}
use Rattle.isa.specs.Windows.{load, store}
use Rattle.isa.specs.Reading.{decoded}
use Rattle.isa.specs.Effects.{Sources, effect_of}
use Rattle.isa.specs.declared.end.End.{End}
use Rattle.isa.specs.declared.instruction.Operands.{Operands}
use Rattle.isa.specs.declared.instruction.Instruction.{Instruction}
use Rattle.isa.specs.declared.effect.Effect.{Effect}
use Rattle.isa.specs.declared.effect.Effect.TheVariants.{Ends, Faults, Nothing, Sets, Jumps, Stacks, Loads, Stores, Pushes, Pops, Calls, Returns}

-- Where a run stands: the bytes of the window, and the 258 registers: 0 to 255 the general ones, then P and S.
pub record Config : Type 0 where
  pub window : List ℕ
  pub registers : List ℕ

abbrev pub P : ℕ
P = 256

abbrev pub S : ℕ
S = 257

abbrev pub held : Config → ℕ → ℕ
held c k = slice_index c.registers k

-- Register k takes v.
abbrev pub taking : Config → ℕ → ℕ → Config
taking c k v = record { window = c.window; registers = slice_set c.registers k v }

-- The window takes the low n bytes of v at address a.
abbrev pub storing : Config → ℕ → ℕ → ℕ → Config
storing c n a v = record { window = store c.window n a v; registers = c.registers }

-- The end, where an instruction ends the run, and where the run then stands.
pub record Stepped : Type 0 where
  pub end : Option End
  pub next : Config

abbrev pub goes_on : Config → Stepped
goes_on c = record { end = None; next = c }

abbrev pub ends : End → Config → Stepped
ends e c = record { end = Some e; next = c }

-- A value is stored at S, and then S moves up; S moves down, and then register k takes what is loaded there.
abbrev pub pushing : Config → ℕ → ℕ → Config
pushing c n v = taking (storing c n (held c S) v) S (plus (held c S) n)

abbrev pub popping : Config → ℕ → ℕ → Config
popping c k n = taking (taking c S (minus (held c S) n)) k (load c.window n (minus (held c S) n))

-- The effect of an instruction that was begun at b; in c P stands behind it already.
abbrev pub performed : Effect → Config → Config → Stepped
performed (Ends e) b c = ends e c
performed (Faults e) b c = ends e b
performed Nothing b c = goes_on c
performed (Sets k v) b c = goes_on (taking c k v)
performed (Jumps a) b c = goes_on (taking c P a)
performed (Stacks a) b c = goes_on (taking c S a)
performed (Loads k n a) b c = goes_on (taking c k (load c.window (width_bytes n) a))
performed (Stores n a v) b c = goes_on (storing c (width_bytes n) a v)
performed (Pushes n v) b c = goes_on (pushing c (width_bytes n) v)
performed (Pops k n) b c = goes_on (popping c k (width_bytes n))
performed (Calls a) b c = goes_on (taking (pushing c 8 (held c P)) P a)
performed Returns b c = goes_on (popping c P 8)

abbrev pub sources_of : List ℕ → Operands → Sources
sources_of rs i = record { r = slice_index rs i.r; s = slice_index rs i.s; t = slice_index rs i.t; stack = slice_index rs S }

-- P moves on by the instruction's length.
abbrev pub passed : Config → Instruction → Config
passed c i = taking c P (plus (held c P) i.length)

abbrev pub obeyed : Config → Instruction → Stepped
obeyed c i = performed (effect_of i.operation i.operands (sources_of (passed c i).registers i.operands)) c (passed c i)

unfoldable pub stepped : Config → Stepped
stepped c = obeyed c (decoded c.window (held c P))
