-- The number of each refusal.
use Rattle.std.specs.Prelude.{ℕ}
use Rattle.machine.specs.declared.refusal.Refusal.{Refusal}
use Rattle.machine.specs.declared.refusal.Refusal.TheVariants.{Memory, Compartment, Span, Index, Budget, Work}

abbrev pub refusal_number : Refusal → ℕ
refusal_number Memory = 107
refusal_number Compartment = 108
refusal_number Span = 109
refusal_number Index = 110
refusal_number Budget = 111
refusal_number Work = 112
