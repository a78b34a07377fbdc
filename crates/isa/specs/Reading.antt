-- Reading the instruction at P: the opcode, then its operands, one access each at successive addresses.
use Rattle.std.specs.Prelude.{ℕ, ◌+◌, List}
use Rattle.memory.specs.Widths.{width_bytes}
use Rattle.numbers.specs.Values.{plus}
use Rattle.isa.specs.Windows.{load}
use Rattle.isa.specs.Opcodes.{Entry, entry_of}
use Rattle.isa.specs.declared.form.Form.{Form}
use Rattle.isa.specs.declared.form.Form.TheVariants.{Plain, One, Two, Three, Five, Literal, Address, Offset, Far}
use Rattle.isa.specs.declared.instruction.Operands.{Operands}
use Rattle.isa.specs.declared.instruction.Instruction.{Instruction}

-- How many bytes the operands have.
abbrev pub operand_bytes : Form → ℕ
operand_bytes Plain = 0
operand_bytes One = 1
operand_bytes Two = 2
operand_bytes Three = 3
operand_bytes Five = 5
operand_bytes (Literal x) = 1 + width_bytes x
operand_bytes Address = 9
operand_bytes Offset = 5
operand_bytes Far = 8

-- The n bytes at i places behind the opcode, modulo 2 ^ 64.
abbrev pub behind : List ℕ → ℕ → ℕ → ℕ → ℕ
behind w p i n = load w n (plus p i)

-- What an instruction lacks is 0.
abbrev pub operands : ℕ → ℕ → ℕ → ℕ → Operands
operands r s t literal = record { r = r; s = s; t = t; u = 0; v = 0; literal = literal }

abbrev pub operands_at : Form → List ℕ → ℕ → Operands
operands_at Plain w p = operands 0 0 0 0
operands_at One w p = operands (behind w p 1 1) 0 0 0
operands_at Two w p = operands (behind w p 1 1) (behind w p 2 1) 0 0
operands_at Three w p = operands (behind w p 1 1) (behind w p 2 1) (behind w p 3 1) 0
operands_at Five w p =
    record { r = behind w p 1 1; s = behind w p 2 1; t = behind w p 3 1; u = behind w p 4 1; v = behind w p 5 1; literal = 0 }
operands_at (Literal x) w p = operands (behind w p 1 1) 0 0 (behind w p 2 (width_bytes x))
operands_at Address w p = operands (behind w p 1 1) 0 0 (behind w p 2 8)
operands_at Offset w p = operands (behind w p 1 1) 0 0 (behind w p 2 4)
operands_at Far w p = operands 0 0 0 (behind w p 1 8)

-- The instruction of a table's entry at p.
unfoldable pub instruction_of : Entry → List ℕ → ℕ → Instruction
instruction_of e w p = record { operation = e.0; operands = operands_at e.1 w p; length = e.2 }

unfoldable pub decoded : List ℕ → ℕ → Instruction
decoded w p = instruction_of (entry_of (load w 1 p)) w p
