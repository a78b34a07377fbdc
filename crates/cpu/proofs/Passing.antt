-- Putting P back after it has moved on.
use Rattle.std.proofs.Common.{◌≡◌, ℕ, ap, ◌∙◌}
use Rattle.std.proofs.lemmas.List.{set-set, set-get_or}
use Rattle.isa.specs.Steps.{Config, P, held, taking}
use Rattle.cpu.specs.Configs.{begun}

pub begun_is : (c : Config) (p : ℕ) → begun (taking c P p) (held c P) ≡ c
begun_is c p =
    ap (λ (x : _). record { window = c.window; registers = x }) (set-set c.registers 256 p (held c P) ∙ set-get_or c.registers 256 0)
