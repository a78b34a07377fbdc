use Rattle.numbers.proofs.Halves.{right_shifts_round_down}
use Rattle.numbers.proofs.Registers.{left_shifts_multiply}
use Rattle.numbers.proofs.shifts_scale.Goals as goal

pub returns : goal.returns
returns c = record { left = left_shifts_multiply; right = right_shifts_round_down }
