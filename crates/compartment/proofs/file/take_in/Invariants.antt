use Rattle.std.proofs.Common.{◌≡◌, ℕ, ◌<◌, length, get_or}
use Rattle.isa.specs.Compartments.{entry_value}
use Rattle.compartment.proofs.file.take_in.Given as goal

abbrev pub invariant-loop-index : goal.invariant-loop-index
invariant-loop-index g l =
    record {
      taken : (k : ℕ) → k < l.index → get_or l.registers k 0 ≡ entry_value l.file k;
      full : length l.registers ≡ 258;
    }
