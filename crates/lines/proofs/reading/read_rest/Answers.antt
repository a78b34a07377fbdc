use Rattle.std.proofs.Common.{[], ◌∷◌, refl}
use Rattle.lines.specs.declared.operand.Operand.TheVariants as operand
use Rattle.lines.proofs.Rests.{rest_reads}
use Rattle.lines.proofs.Unpacking.{filled_unpacked}
use Rattle.lines.proofs.reading.read_rest.Goals as goal

pub returns-in_ok-k-in-Set : goal.returns-in_ok-k-in-Set
returns-in_ok-k-in-Set c = rest_reads _ _ _ c.in-Set.is _ (_, _, _, refl, filled_unpacked (operand.K ∷ operand.Index ∷ operand.Word ∷ []) _ _ 3 refl c.in_ok-k-in-Set.ensures)

pub returns-in_ok-k-in-Fetch : goal.returns-in_ok-k-in-Fetch
returns-in_ok-k-in-Fetch c = rest_reads _ _ _ c.in-Fetch.is _ (_, _, _, refl, filled_unpacked (operand.K ∷ operand.Address ∷ operand.Length ∷ []) _ _ 3 refl c.in_ok-k-in-Fetch.ensures)

pub returns-in_ok-k-in-Get : goal.returns-in_ok-k-in-Get
returns-in_ok-k-in-Get c = rest_reads _ _ _ c.in-Get.is _ (_, _, refl, filled_unpacked (operand.K ∷ operand.Index ∷ []) _ _ 2 refl c.in_ok-k-in-Get.ensures)
