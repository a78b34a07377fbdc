use Rattle.std.proofs.Common.{rules}
use Rattle.isa.specs.Reading.{instruction_of}
use Rattle.isa.proofs.decoder.decode_row.Goals as goal

pub returns : goal.returns
unfolding instruction_of
returns g c = search rules
