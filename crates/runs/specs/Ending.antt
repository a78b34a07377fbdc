-- What an instruction that ends the run leaves.
use Rattle.std.specs.Prelude.{◌≡◌, Some}
use Rattle.isa.specs.Ends.{end_code}
use Rattle.isa.specs.Reading.{decoded}
use Rattle.isa.specs.Steps.{Config, P, held, passed, stepped}
use Rattle.isa.specs.declared.end.End.{End}
use Rattle.isa.specs.declared.end.End.TheVariants.{Halt, Privilege, Budget, Device, SystemCall, UnknownOpcode, IntegerMath}

-- P stands behind the instruction at c, and all else is as before it.
abbrev pub Behind : Config → Config → Type 0
Behind c d = d ≡ passed c (decoded c.window (held c P))

-- The instruction at c, where it ends the run so, leaves d. None ends it for want of budget.
abbrev pub Leaves : End → Config → Config → Type 0
Leaves Halt c d = Behind c d
Leaves Privilege c d = d ≡ c
Leaves Budget c d = ⊥
Leaves Device c d = d ≡ c
Leaves SystemCall c d = Behind c d
Leaves UnknownOpcode c d = d ≡ c
Leaves IntegerMath c d = d ≡ c

abbrev pub EndsLeave : Type 0
EndsLeave = (c : Config) (e : End) → (stepped c).end ≡ Some e → Leaves e c (stepped c).next

-- No two ends have one code.
abbrev pub CodesDiffer : Type 0
CodesDiffer = (e f : End) → end_code e ≡ end_code f → e ≡ f
