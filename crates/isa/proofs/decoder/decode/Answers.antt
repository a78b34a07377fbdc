use Rattle.std.proofs.Common.{rules}
use Rattle.isa.specs.Reading.{decoded}
use Rattle.isa.proofs.decoder.decode.Goals as goal

pub returns : goal.returns
unfolding decoded
returns g c = search rules
