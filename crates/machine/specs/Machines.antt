-- The state of a machine over a memory whose bytes are given by `bytes`, and the state straight from its making.
use Rattle.std.specs.Prelude.{ℕ, List, replicate, None}
use Rattle.plan.specs.declared.plan.Plan.{Plan}
use Rattle.machine.specs.States.{State}
use Rattle.machine.specs.declared.machine.Machine.{Machine}

abbrev pub state : {M : Type 0} → (M → List ℕ) → Machine M → State
state bytes m = record { held = bytes m.memory; plan = m.plan; latest = m.runs.latest }

abbrev pub opening : List ℕ → Plan → State
opening held plan = record { held = held; plan = plan; latest = replicate 16 None }
