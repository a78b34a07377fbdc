-- The error code of each end of a run.
use Rattle.std.specs.Prelude.{ℕ}
use Rattle.isa.specs.declared.end.End.{End}
use Rattle.isa.specs.declared.end.End.TheVariants.{Halt, Privilege, Budget, Device, SystemCall, UnknownOpcode, IntegerMath}

abbrev pub end_code : End → ℕ
end_code Halt = 0
end_code Privilege = 1
end_code Budget = 2
end_code Device = 3
end_code SystemCall = 4
end_code UnknownOpcode = 5
end_code IntegerMath = 16
