use Rattle.std.proofs.Common.{refl, inr, rules}
use Rattle.lines.specs.declared.keyword.CommandWord.TheVariants as first
use Rattle.lines.proofs.Rests.{rest_fails}
use Rattle.lines.proofs.reading.read_put.Goals as goal

pub returns-in_err-hex : goal.returns-in_err-hex
returns-in_err-hex c =
    let k = c.in_ok-k.ensures in
    let address = c.in_ok-address.ensures in
    rest_fails first.Put _ _ refl c.from_residual-in_err-hex.result c.in_err-hex.field-0.0 (search rules)
    (inr (_, _, _, k.1, k.2, inr (_, _, _, address.1, address.2, c.in_err-hex.ensures)))
