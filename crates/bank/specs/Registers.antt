-- Where a register's word stands in a bank: 0 to 255 are the general registers, 256 is P and 257 is S.
use Rattle.std.specs.Prelude.{ℕ}
use Rattle.bank.specs.declared.register.Register.{Register}
use Rattle.bank.specs.declared.register.Register.TheVariants.{General, P, S}

abbrev pub register_index : Register → ℕ
register_index (General r) = r
register_index P = 256
register_index S = 257
