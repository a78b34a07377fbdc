-- The operands that go with each operation, and what the table keeps to.
use Rattle.std.specs.Prelude.{◌≡◌, ℕ, ◌+◌}
use Rattle.isa.specs.Opcodes.{entry_of}
use Rattle.isa.specs.Reading.{operand_bytes}
use Rattle.isa.specs.declared.operation.Operation.{Operation}
use Rattle.isa.specs.declared.operation.Operation.TheVariants as op
use Rattle.isa.specs.declared.form.Form.{Form}
use Rattle.isa.specs.declared.form.Form.TheVariants as form

-- A literal is as wide as the operation says.
abbrev pub form_of : Operation → Form
form_of op.Halt = form.Plain
form_of op.Nop = form.Plain
form_of op.BecomeUser = form.Five
form_of op.DeviceRead = form.One
form_of op.DeviceWrite = form.Two
form_of op.SystemCall = form.Plain
form_of (op.Immediate n) = form.Literal n
form_of (op.Load n) = form.Address
form_of (op.Store n) = form.Address
form_of (op.LoadIndirect n) = form.Two
form_of (op.StoreIndirect n) = form.Two
form_of op.Move = form.Two
form_of op.ShiftLeft = form.Two
form_of op.ShiftRight = form.Two
form_of op.And = form.Two
form_of op.Or = form.Two
form_of op.Xor = form.Two
form_of op.Complement = form.One
form_of op.Negate = form.One
form_of op.Bool = form.One
form_of op.Not = form.One
form_of op.Add = form.Two
form_of op.Subtract = form.Two
form_of op.Multiply = form.Two
form_of op.UnsignedDivide = form.Two
form_of op.SignedDivide = form.Two
form_of op.UnsignedModulo = form.Two
form_of op.SignedModulo = form.Two
form_of (op.SignExtend n) = form.One
form_of (op.ZeroExtend n) = form.One
form_of op.UnsignedCompare = form.Three
form_of op.SignedCompare = form.Three
form_of op.Jump = form.Far
form_of op.Call = form.Far
form_of op.JumpNotZero = form.Address
form_of op.JumpZero = form.Address
form_of op.Return = form.Plain
form_of op.GetStack = form.One
form_of op.SetStack = form.One
form_of (op.Push n) = form.One
form_of (op.Pop n) = form.One
form_of op.Increment = form.One
form_of op.Decrement = form.One
form_of (op.LoadStack n) = form.Offset
form_of (op.StoreStack n) = form.Offset
form_of (op.Reverse n) = form.One
form_of op.MoveNotZero = form.Three
form_of op.Unknown = form.Plain

-- Each opcode has the operands of its operation, and the length of its operands and one.
abbrev pub FormsAgree : Type 0
FormsAgree = (opcode : ℕ) → (entry_of opcode).1 ≡ form_of (entry_of opcode).0

abbrev pub LengthsAgree : Type 0
LengthsAgree = (opcode : ℕ) → (entry_of opcode).2 ≡ 1 + operand_bytes (entry_of opcode).1
