-- Where an access happens.
use Rattle.std.proofs.Common.{◌≡◌, ℕ, ◌+◌, ◌≤◌, arith}
use Rattle.std.proofs.lemmas.Bool.Decides.{nat_tests}
use Rattle.isa.specs.Windows.{placed}

pub placed_fits : (long n a : ℕ) → a + n ≤ long → placed long n a ≡ a
placed_fits long n a h = grind (arith, nat_tests)
