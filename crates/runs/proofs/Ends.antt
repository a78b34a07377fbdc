-- What an instruction that ends the run leaves, from its effect.
use Rattle.std.proofs.Common.{◌≡◌, ℕ, Bool, true, false, cond, eqb, Some, None, Option, sym, refl, ap, ◌∙◌, subst, arith}
use Rattle.isa.specs.Ends.{end_code}
use Rattle.isa.specs.Effects.{Sources, effect_of}
use Rattle.isa.specs.Reading.{decoded}
use Rattle.isa.specs.Steps.{Config, P, held, passed, sources_of, performed, stepped}
use Rattle.isa.specs.declared.end.End.{End}
use Rattle.isa.specs.declared.end.End.TheVariants as end
use Rattle.isa.specs.declared.operation.Operation.{Operation}
use Rattle.isa.specs.declared.operation.Operation.TheVariants as op
use Rattle.isa.specs.declared.instruction.Operands.{Operands}
use Rattle.isa.specs.declared.effect.Effect.{Effect}
use Rattle.isa.specs.declared.effect.Effect.TheVariants.{Ends, Faults, Nothing, Sets, Jumps, Stacks, Loads, Stores, Pushes, Pops, Calls, Returns}
use Rattle.runs.specs.Ending.{Leaves, EndsLeave, CodesDiffer}

-- the ends that leave P behind the instruction, and those that leave all as it was
abbrev Proper : Effect → Type 0
Proper (Ends e) = (b c : Config) → c ≡ passed b (decoded b.window (held b P)) → Leaves e b c
Proper (Faults e) = (b : Config) → Leaves e b b
Proper Nothing = Unit {0}
Proper (Sets k v) = Unit {0}
Proper (Jumps a) = Unit {0}
Proper (Stacks a) = Unit {0}
Proper (Loads k n a) = Unit {0}
Proper (Stores n a v) = Unit {0}
Proper (Pushes n v) = Unit {0}
Proper (Pops k n) = Unit {0}
Proper (Calls a) = Unit {0}
Proper Returns = Unit {0}

proper_cond : (b : Bool) (x y : Effect) → Proper x → Proper y → Proper (cond b x y)
proper_cond true x y p q = p
proper_cond false x y p q = q

proper_math : Proper (Faults end.IntegerMath)
proper_math b = refl

-- every operation that ends the run does so as its end says
proper : (o : Operation) (i : Operands) (x : Sources) → Proper (effect_of o i x)
proper op.Halt i x = λ b c e. e
proper op.Nop i x = tt
proper op.BecomeUser i x = λ b. refl
proper op.DeviceRead i x = λ b. refl
proper op.DeviceWrite i x = λ b. refl
proper op.SystemCall i x = λ b c e. e
proper (op.Immediate n) i x = tt
proper (op.Load n) i x = tt
proper (op.Store n) i x = tt
proper (op.LoadIndirect n) i x = tt
proper (op.StoreIndirect n) i x = tt
proper op.Move i x = tt
proper op.ShiftLeft i x = tt
proper op.ShiftRight i x = tt
proper op.And i x = tt
proper op.Or i x = tt
proper op.Xor i x = tt
proper op.Complement i x = tt
proper op.Negate i x = tt
proper op.Bool i x = tt
proper op.Not i x = tt
proper op.Add i x = tt
proper op.Subtract i x = tt
proper op.Multiply i x = tt
proper op.UnsignedDivide i x = proper_cond (eqb x.s 0) _ _ proper_math tt
proper op.SignedDivide i x = proper_cond (eqb x.s 0) _ _ proper_math tt
proper op.UnsignedModulo i x = proper_cond (eqb x.s 0) _ _ proper_math tt
proper op.SignedModulo i x = proper_cond (eqb x.s 0) _ _ proper_math tt
proper (op.SignExtend n) i x = tt
proper (op.ZeroExtend n) i x = tt
proper op.UnsignedCompare i x = tt
proper op.SignedCompare i x = tt
proper op.Jump i x = tt
proper op.Call i x = tt
proper op.JumpNotZero i x = proper_cond (eqb x.r 0) _ _ tt tt
proper op.JumpZero i x = proper_cond (eqb x.r 0) _ _ tt tt
proper op.Return i x = tt
proper op.GetStack i x = tt
proper op.SetStack i x = tt
proper (op.Push n) i x = tt
proper (op.Pop n) i x = tt
proper op.Increment i x = tt
proper op.Decrement i x = tt
proper (op.LoadStack n) i x = tt
proper (op.StoreStack n) i x = tt
proper (op.Reverse n) i x = tt
proper op.MoveNotZero i x = proper_cond (eqb x.r 0) _ _ tt tt
proper op.Unknown i x = λ b. refl

-- the two options are one
same_end : (e f : End) → ◌≡◌ {A = Option End} (Some e) (Some f) → e ≡ f
same_end e f h = cc

never : (e : End) → ◌≡◌ {A = Option End} None (Some e) → ⊥
never e h = let z : ◌≡◌ {A = ℕ} 0 1 = cc in omega arith

leave : (x : Effect) (b c : Config) (e : End) → c ≡ passed b (decoded b.window (held b P)) → Proper x → (performed x b c).end ≡ Some e → Leaves e b (performed x b c).next
leave (Ends f) b c e h p q = let P' : End → Type 0 = λ z. Leaves z b c in subst P' (same_end f e q) (p b c h)
leave (Faults f) b c e h p q = let P' : End → Type 0 = λ z. Leaves z b b in subst P' (same_end f e q) (p b)
leave Nothing b c e h p q = absurd (never e q)
leave (Sets k v) b c e h p q = absurd (never e q)
leave (Jumps a) b c e h p q = absurd (never e q)
leave (Stacks a) b c e h p q = absurd (never e q)
leave (Loads k n a) b c e h p q = absurd (never e q)
leave (Stores n a v) b c e h p q = absurd (never e q)
leave (Pushes n v) b c e h p q = absurd (never e q)
leave (Pops k n) b c e h p q = absurd (never e q)
leave (Calls a) b c e h p q = absurd (never e q)
leave Returns b c e h p q = absurd (never e q)

pub ends_leave_lem : EndsLeave
unfolding stepped
ends_leave_lem c e h =
    let i = decoded c.window (held c P) in
    leave (effect_of i.operation i.operands (sources_of (passed c i).registers i.operands)) c (passed c i) e refl
    (proper i.operation i.operands (sources_of (passed c i).registers i.operands)) h

-- the end of a code
end_of : ℕ → End
end_of n =
    cond (eqb n 0) end.Halt
    (cond (eqb n 1) end.Privilege
    (cond (eqb n 2) end.Budget
    (cond (eqb n 3) end.Device (cond (eqb n 4) end.SystemCall (cond (eqb n 5) end.UnknownOpcode end.IntegerMath)))))

end_of_code : (e : End) → end_of (end_code e) ≡ e
unfolding end_of
end_of_code end.Halt = refl
end_of_code end.Privilege = refl
end_of_code end.Budget = refl
end_of_code end.Device = refl
end_of_code end.SystemCall = refl
end_of_code end.UnknownOpcode = refl
end_of_code end.IntegerMath = refl

pub codes_differ : CodesDiffer
codes_differ e f h = sym (end_of_code e) ∙ ap end_of h ∙ end_of_code f
