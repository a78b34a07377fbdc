-- The effect of each operation, in the order of the opcodes. i has the operands, x what the source registers hold.
use Rattle.std.specs.Prelude.{ℕ, ◌-◌, ◌/◌, ◌%◌, ◌^◌, cond, ◌==◌, bit_and, bit_or, bit_xor}
use Rattle.numbers.specs.Values.{plus, minus, times, shifted_left, shifted_right, divided, remaining, compared, compared_signed, zero_extended, sign_extended, reversed}
use Rattle.isa.specs.declared.operation.Operation.{Operation}
use Rattle.isa.specs.declared.operation.Operation.TheVariants as op
use Rattle.isa.specs.declared.end.End.TheVariants as end
use Rattle.isa.specs.declared.instruction.Operands.{Operands}
use Rattle.isa.specs.declared.effect.Effect.{Effect}
use Rattle.isa.specs.declared.effect.Effect.TheVariants.{Ends, Faults, Nothing, Sets, Jumps, Stacks, Loads, Stores, Pushes, Pops, Calls, Returns}

-- What the registers r, s and t hold, and S.
pub record Sources : Type 0 where
  pub r : ℕ
  pub s : ℕ
  pub t : ℕ
  pub stack : ℕ

-- A division by 0 is a fault.
abbrev pub unless_zero : ℕ → Effect → Effect
unless_zero s effect = cond (s == 0) (Faults end.IntegerMath) effect

abbrev pub effect_of : Operation → Operands → Sources → Effect
effect_of op.Halt i x = Ends end.Halt
effect_of op.Nop i x = Nothing
effect_of op.BecomeUser i x = Faults end.Privilege
effect_of op.DeviceRead i x = Faults end.Device
effect_of op.DeviceWrite i x = Faults end.Device
effect_of op.SystemCall i x = Ends end.SystemCall
effect_of (op.Immediate n) i x = Sets i.r i.literal
effect_of (op.Load n) i x = Loads i.r n i.literal
effect_of (op.Store n) i x = Stores n i.literal x.r
effect_of (op.LoadIndirect n) i x = Loads i.r n x.s
effect_of (op.StoreIndirect n) i x = Stores n x.r x.s
effect_of op.Move i x = Sets i.r x.s
effect_of op.ShiftLeft i x = Sets i.r (shifted_left x.r x.s)
effect_of op.ShiftRight i x = Sets i.r (shifted_right x.r x.s)
effect_of op.And i x = Sets i.r (bit_and x.r x.s)
effect_of op.Or i x = Sets i.r (bit_or x.r x.s)
effect_of op.Xor i x = Sets i.r (bit_xor x.r x.s)
effect_of op.Complement i x = Sets i.r (2 ^ 64 - 1 - x.r)
effect_of op.Negate i x = Sets i.r (minus 0 x.r)
effect_of op.Bool i x = Sets i.r (cond (x.r == 0) 0 1)
effect_of op.Not i x = Sets i.r (cond (x.r == 0) 1 0)
effect_of op.Add i x = Sets i.r (plus x.r x.s)
effect_of op.Subtract i x = Sets i.r (minus x.r x.s)
effect_of op.Multiply i x = Sets i.r (times x.r x.s)
effect_of op.UnsignedDivide i x = unless_zero x.s (Sets i.r (x.r / x.s))
effect_of op.SignedDivide i x = unless_zero x.s (Sets i.r (divided x.r x.s))
effect_of op.UnsignedModulo i x = unless_zero x.s (Sets i.r (x.r % x.s))
effect_of op.SignedModulo i x = unless_zero x.s (Sets i.r (remaining x.r x.s))
effect_of (op.SignExtend n) i x = Sets i.r (sign_extended n x.r)
effect_of (op.ZeroExtend n) i x = Sets i.r (zero_extended n x.r)
effect_of op.UnsignedCompare i x = Sets i.r (compared x.s x.t)
effect_of op.SignedCompare i x = Sets i.r (compared_signed x.s x.t)
effect_of op.Jump i x = Jumps i.literal
effect_of op.Call i x = Calls i.literal
effect_of op.JumpNotZero i x = cond (x.r == 0) Nothing (Jumps i.literal)
effect_of op.JumpZero i x = cond (x.r == 0) (Jumps i.literal) Nothing
effect_of op.Return i x = Returns
effect_of op.GetStack i x = Sets i.r x.stack
effect_of op.SetStack i x = Stacks x.r
effect_of (op.Push n) i x = Pushes n x.r
effect_of (op.Pop n) i x = Pops i.r n
effect_of op.Increment i x = Sets i.r (plus x.r 1)
effect_of op.Decrement i x = Sets i.r (minus x.r 1)
effect_of (op.LoadStack n) i x = Loads i.r n (minus x.stack i.literal)
effect_of (op.StoreStack n) i x = Stores n (minus x.stack i.literal) x.r
effect_of (op.Reverse n) i x = Sets i.r (reversed n x.r)
effect_of op.MoveNotZero i x = cond (x.r == 0) Nothing (Sets i.s x.t)
effect_of op.Unknown i x = Faults end.UnknownOpcode
