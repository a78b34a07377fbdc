-- The effect of an instruction on qwords has qwords only.
use Rattle.std.proofs.Common.{ℕ, ◌^◌, ◌<◌, Bool, true, false, cond, eqb, ltb, div-le_self, arith}
use native.Mathlib.Nat.{mod-le}
use lib.Signed.{lt_z}
use Rattle.std.proofs.lemmas.Nat.{and_le_l, or_lt, xor_lt}
use Rattle.numbers.specs.Signed.{signed}
use Rattle.numbers.proofs.Bounds.{register_below, ordered_below, zero_extended_below, reversed_below}
use Rattle.isa.specs.Effects.{Sources, effect_of}
use Rattle.isa.specs.declared.operation.Operation.{Operation}
use Rattle.isa.specs.declared.operation.Operation.TheVariants as op
use Rattle.isa.specs.declared.instruction.Operands.{Operands}
use Rattle.isa.specs.declared.effect.Effect.{Effect}
use Rattle.isa.specs.declared.effect.Effect.TheVariants.{Ends, Faults, Nothing, Sets, Jumps, Stacks, Loads, Stores, Pushes, Pops, Calls, Returns}

-- what registers take by the effect are qwords
abbrev pub Fit : Effect → Type 0
Fit (Ends e) = Unit {0}
Fit (Faults e) = Unit {0}
Fit Nothing = Unit {0}
Fit (Sets k v) = v < 2 ^ 64
Fit (Jumps a) = a < 2 ^ 64
Fit (Stacks a) = a < 2 ^ 64
Fit (Loads k n a) = Unit {0}
Fit (Stores n a v) = Unit {0}
Fit (Pushes n v) = Unit {0}
Fit (Pops k n) = Unit {0}
Fit (Calls a) = a < 2 ^ 64
Fit Returns = Unit {0}

pub record FitSources (x : Sources) : Type 0 where
  pub r : x.r < 2 ^ 64
  pub s : x.s < 2 ^ 64
  pub t : x.t < 2 ^ 64
  pub stack : x.stack < 2 ^ 64

fit_cond : (b : Bool) (x y : Effect) → Fit x → Fit y → Fit (cond b x y)
fit_cond true x y p q = p
fit_cond false x y p q = q

below_cond : (b : Bool) (x y : ℕ) → x < 2 ^ 64 → y < 2 ^ 64 → cond b x y < 2 ^ 64
below_cond true x y p q = p
below_cond false x y p q = q

pub fit : (o : Operation) (i : Operands) (x : Sources) → i.literal < 2 ^ 64 → FitSources x → Fit (effect_of o i x)
fit op.Halt i x l f = tt
fit op.Nop i x l f = tt
fit op.BecomeUser i x l f = tt
fit op.DeviceRead i x l f = tt
fit op.DeviceWrite i x l f = tt
fit op.SystemCall i x l f = tt
fit (op.Immediate n) i x l f = l
fit (op.Load n) i x l f = tt
fit (op.Store n) i x l f = tt
fit (op.LoadIndirect n) i x l f = tt
fit (op.StoreIndirect n) i x l f = tt
fit op.Move i x l f = f.s
fit op.ShiftLeft i x l f = omega arith
fit op.ShiftRight i x l f = register_below _
fit op.And i x l f = omega (arith, and_le_l x.r x.s, f.r)
fit op.Or i x l f = or_lt 64 x.r x.s f.r f.s
fit op.Xor i x l f = xor_lt 64 x.r x.s f.r f.s
fit op.Complement i x l f = omega arith
fit op.Negate i x l f = omega arith
fit op.Bool i x l f = below_cond (eqb x.r 0) 0 1 (omega arith) (omega arith)
fit op.Not i x l f = below_cond (eqb x.r 0) 1 0 (omega arith) (omega arith)
fit op.Add i x l f = omega arith
fit op.Subtract i x l f = omega arith
fit op.Multiply i x l f = omega arith
fit op.UnsignedDivide i x l f = fit_cond (eqb x.s 0) _ _ tt (omega (arith, div-le_self x.r x.s, f.r))
fit op.SignedDivide i x l f = fit_cond (eqb x.s 0) _ _ tt (register_below _)
fit op.UnsignedModulo i x l f = fit_cond (eqb x.s 0) _ _ tt (omega (arith, mod-le x.r x.s, f.r))
fit op.SignedModulo i x l f = fit_cond (eqb x.s 0) _ _ tt (register_below _)
fit (op.SignExtend n) i x l f = register_below _
fit (op.ZeroExtend n) i x l f = zero_extended_below n x.r f.r
fit op.UnsignedCompare i x l f = ordered_below (ltb x.s x.t) (ltb x.t x.s)
fit op.SignedCompare i x l f =
    ordered_below (lt_z (signed 64 x.s) (signed 64 x.t)) (lt_z (signed 64 x.t) (signed 64 x.s))
fit op.Jump i x l f = l
fit op.Call i x l f = l
fit op.JumpNotZero i x l f = fit_cond (eqb x.r 0) _ _ tt l
fit op.JumpZero i x l f = fit_cond (eqb x.r 0) _ _ l tt
fit op.Return i x l f = tt
fit op.GetStack i x l f = f.stack
fit op.SetStack i x l f = f.r
fit (op.Push n) i x l f = tt
fit (op.Pop n) i x l f = tt
fit op.Increment i x l f = omega arith
fit op.Decrement i x l f = omega arith
fit (op.LoadStack n) i x l f = tt
fit (op.StoreStack n) i x l f = tt
fit (op.Reverse n) i x l f = reversed_below n x.r
fit op.MoveNotZero i x l f = fit_cond (eqb x.r 0) _ _ tt f.t
fit op.Unknown i x l f = tt
