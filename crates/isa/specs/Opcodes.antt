-- The table of opcodes: for each below 94 its operation, its operands and its length.
use Rattle.std.specs.Prelude.{ℕ, List, [], ◌∷◌, slice_index_or}
use Rattle.memory.specs.declared.width.Width.TheVariants.{Byte, Short, Long, Qword}
use Rattle.isa.specs.declared.operation.Operation.{Operation}
use Rattle.isa.specs.declared.operation.Operation.TheVariants as op
use Rattle.isa.specs.declared.form.Form.{Form}
use Rattle.isa.specs.declared.form.Form.TheVariants as form

abbrev pub Entry : Type 0
Entry = Operation × Form × ℕ

unfoldable pub opcodes : List Entry
opcodes =
    (op.Halt, form.Plain, 1) ∷  -- 0 hlt
    (op.Nop, form.Plain, 1) ∷  -- 1 nop
    (op.BecomeUser, form.Five, 6) ∷  -- 2 become_user
    (op.DeviceRead, form.One, 2) ∷  -- 3 dread
    (op.DeviceWrite, form.Two, 3) ∷  -- 4 dwrite
    (op.SystemCall, form.Plain, 1) ∷  -- 5 syscall
    (op.Immediate Qword, form.Literal Qword, 10) ∷  -- 6 im64
    (op.Immediate Long, form.Literal Long, 6) ∷  -- 7 im32
    (op.Immediate Short, form.Literal Short, 4) ∷  -- 8 im16
    (op.Immediate Byte, form.Literal Byte, 3) ∷  -- 9 im8
    (op.Load Qword, form.Address, 10) ∷  -- 10 ld64
    (op.Load Long, form.Address, 10) ∷  -- 11 ld32
    (op.Load Short, form.Address, 10) ∷  -- 12 ld16
    (op.Load Byte, form.Address, 10) ∷  -- 13 ld8
    (op.Store Qword, form.Address, 10) ∷  -- 14 st64
    (op.Store Long, form.Address, 10) ∷  -- 15 st32
    (op.Store Short, form.Address, 10) ∷  -- 16 st16
    (op.Store Byte, form.Address, 10) ∷  -- 17 st8
    (op.LoadIndirect Qword, form.Two, 3) ∷  -- 18 ild64
    (op.LoadIndirect Long, form.Two, 3) ∷  -- 19 ild32
    (op.LoadIndirect Short, form.Two, 3) ∷  -- 20 ild16
    (op.LoadIndirect Byte, form.Two, 3) ∷  -- 21 ild8
    (op.StoreIndirect Qword, form.Two, 3) ∷  -- 22 ist64
    (op.StoreIndirect Long, form.Two, 3) ∷  -- 23 ist32
    (op.StoreIndirect Short, form.Two, 3) ∷  -- 24 ist16
    (op.StoreIndirect Byte, form.Two, 3) ∷  -- 25 ist8
    (op.Move, form.Two, 3) ∷  -- 26 mov
    (op.ShiftLeft, form.Two, 3) ∷  -- 27 lsh
    (op.ShiftRight, form.Two, 3) ∷  -- 28 rsh
    (op.And, form.Two, 3) ∷  -- 29 and
    (op.Or, form.Two, 3) ∷  -- 30 or
    (op.Xor, form.Two, 3) ∷  -- 31 xor
    (op.Complement, form.One, 2) ∷  -- 32 compl
    (op.Negate, form.One, 2) ∷  -- 33 neg
    (op.Bool, form.One, 2) ∷  -- 34 bool
    (op.Not, form.One, 2) ∷  -- 35 not
    (op.Add, form.Two, 3) ∷  -- 36 iadd
    (op.Subtract, form.Two, 3) ∷  -- 37 isub
    (op.Multiply, form.Two, 3) ∷  -- 38 imul
    (op.Unknown, form.Plain, 1) ∷  -- 39 unknown
    (op.Unknown, form.Plain, 1) ∷  -- 40 unknown
    (op.Unknown, form.Plain, 1) ∷  -- 41 unknown
    (op.Unknown, form.Plain, 1) ∷  -- 42 unknown
    (op.Unknown, form.Plain, 1) ∷  -- 43 unknown
    (op.Unknown, form.Plain, 1) ∷  -- 44 unknown
    (op.UnsignedDivide, form.Two, 3) ∷  -- 45 udiv
    (op.SignedDivide, form.Two, 3) ∷  -- 46 idiv
    (op.Unknown, form.Plain, 1) ∷  -- 47 unknown
    (op.Unknown, form.Plain, 1) ∷  -- 48 unknown
    (op.UnsignedModulo, form.Two, 3) ∷  -- 49 umod
    (op.SignedModulo, form.Two, 3) ∷  -- 50 imod
    (op.SignExtend Long, form.One, 2) ∷  -- 51 se32
    (op.SignExtend Short, form.One, 2) ∷  -- 52 se16
    (op.SignExtend Byte, form.One, 2) ∷  -- 53 se8
    (op.ZeroExtend Long, form.One, 2) ∷  -- 54 ze32
    (op.ZeroExtend Short, form.One, 2) ∷  -- 55 ze16
    (op.ZeroExtend Byte, form.One, 2) ∷  -- 56 ze8
    (op.UnsignedCompare, form.Three, 4) ∷  -- 57 ucmp
    (op.SignedCompare, form.Three, 4) ∷  -- 58 icmp
    (op.Unknown, form.Plain, 1) ∷  -- 59 unknown
    (op.Unknown, form.Plain, 1) ∷  -- 60 unknown
    (op.Jump, form.Far, 9) ∷  -- 61 jmp
    (op.Call, form.Far, 9) ∷  -- 62 call
    (op.JumpNotZero, form.Address, 10) ∷  -- 63 jnz
    (op.JumpZero, form.Address, 10) ∷  -- 64 jiz
    (op.Return, form.Plain, 1) ∷  -- 65 ret
    (op.GetStack, form.One, 2) ∷  -- 66 getstp
    (op.SetStack, form.One, 2) ∷  -- 67 setstp
    (op.Push Qword, form.One, 2) ∷  -- 68 push64
    (op.Push Long, form.One, 2) ∷  -- 69 push32
    (op.Push Short, form.One, 2) ∷  -- 70 push16
    (op.Push Byte, form.One, 2) ∷  -- 71 push8
    (op.Pop Qword, form.One, 2) ∷  -- 72 pop64
    (op.Pop Long, form.One, 2) ∷  -- 73 pop32
    (op.Pop Short, form.One, 2) ∷  -- 74 pop16
    (op.Pop Byte, form.One, 2) ∷  -- 75 pop8
    (op.Unknown, form.Plain, 1) ∷  -- 76 unknown
    (op.Unknown, form.Plain, 1) ∷  -- 77 unknown
    (op.Unknown, form.Plain, 1) ∷  -- 78 unknown
    (op.Unknown, form.Plain, 1) ∷  -- 79 unknown
    (op.Increment, form.One, 2) ∷  -- 80 inc
    (op.Decrement, form.One, 2) ∷  -- 81 dec
    (op.LoadStack Qword, form.Offset, 6) ∷  -- 82 ldsp64
    (op.LoadStack Long, form.Offset, 6) ∷  -- 83 ldsp32
    (op.LoadStack Short, form.Offset, 6) ∷  -- 84 ldsp16
    (op.LoadStack Byte, form.Offset, 6) ∷  -- 85 ldsp8
    (op.StoreStack Qword, form.Offset, 6) ∷  -- 86 stsp64
    (op.StoreStack Long, form.Offset, 6) ∷  -- 87 stsp32
    (op.StoreStack Short, form.Offset, 6) ∷  -- 88 stsp16
    (op.StoreStack Byte, form.Offset, 6) ∷  -- 89 stsp8
    (op.Reverse Qword, form.One, 2) ∷  -- 90 bswap64
    (op.Reverse Long, form.One, 2) ∷  -- 91 bswap32
    (op.Reverse Short, form.One, 2) ∷  -- 92 bswap16
    (op.MoveNotZero, form.Three, 4) ∷  -- 93 mnz
    []

-- Every other opcode is unknown and stands alone.
abbrev pub unknown : Entry
unknown = (op.Unknown, form.Plain, 1)

unfoldable pub entry_of : ℕ → Entry
entry_of opcode = slice_index_or opcodes opcode unknown
