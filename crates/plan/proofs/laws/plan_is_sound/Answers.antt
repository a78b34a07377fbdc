-- The law is proved in proofs/Found.antt.
use Rattle.plan.proofs.Found.{sound}
use Rattle.plan.proofs.laws.plan_is_sound.Goals as goal

pub returns : goal.returns
returns c = sound c.args.plan.now
