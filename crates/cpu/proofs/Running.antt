-- A run that has begun so many instructions, and one more.
use Rattle.std.proofs.Common.{◌≡◌, ℕ, suc, ◌+◌, ◌-◌, ◌<◌, ◌≤◌, false, Some, None, Option, unwrap_or, refl, sym, ap, ◌∙◌, subst, arith}
use Rattle.std.specs.Option.{is_some}
use Rattle.std.proofs.lemmas.Bool.{true≢false}
use Rattle.memory.specs.declared.meaning.Memory.{Ghosts}
use Rattle.isa.specs.Steps.{Config, stepped}
use Rattle.isa.specs.Runs.{ran_on}
use Rattle.isa.specs.declared.end.End.{End}
use Rattle.isa.specs.declared.end.End.TheVariants.{Budget}
use Rattle.isa.proofs.Going.{ran_spent}
use Rattle.window.specs.Windows.{Parts}
use Rattle.cpu.specs.declared.processor.Processor.{Processor}
use Rattle.cpu.specs.Configs.{left_of}
use Rattle.cpu.specs.Processors.{config_of, Reaches}

-- what is left of a run is left of it after a step
pub left_stepped : (budget count : ℕ) (c : Config) → count < budget → left_of (stepped c).end budget (count + 1) (stepped c).next ≡ left_of None budget count c
unfolding ran_on
left_stepped budget count c some =
    let one : budget - count ≡ suc (budget - (count + 1)) = omega arith in
    sym (ap (λ (n : ℕ). ran_on n count c) one)

pub left_next : (budget count : ℕ) (c next : Config) (o : Option End) → count < budget → o ≡ (stepped c).end → next ≡ (stepped c).next → left_of o budget (count + 1) next ≡ left_of None budget count c
left_next budget count c next o some end is =
    ap (λ (x : Option End). left_of x budget (count + 1) next) end
    ∙ ap (λ (x : Config). left_of (stepped c).end budget (count + 1) x) is
    ∙ left_stepped budget count c some

-- a run that has not ended has no end yet
pub none_is : (o : Option End) → is_some o ≡ false → o ≡ None
none_is None h = refl
none_is (Some e) h = absurd (true≢false h)

-- where a run ends, or has spent its budget, nothing is left of it
pub left_is : (budget count : ℕ) (c : Config) (o : Option End) → (o ≡ None → budget ≤ count) → count ≤ budget → left_of o budget count c ≡ record { end = unwrap_or o Budget; count = count; last = c }
left_is budget count c (Some e) spent within = refl
left_is budget count c None spent within =
    let z : budget - count ≡ 0 = omega (arith, spent refl) in
    ap (λ (n : ℕ). ran_on n count c) z ∙ ran_spent count c

module _ {M : Type 0} {g : Ghosts M} (first now next : Processor M g) (b c : Config) (reached : Reaches first now b) (step : Reaches now next c) where
  reaches_more : Reaches first next c
  reaches_more =
      record {
        window = step.window ∙ ap (λ (h : Parts). record h { window = c.window }) reached.window;
        registers = step.registers;
        lent = step.lent ∙ reached.lent;
        same_memory = step.same_memory ∙ reached.same_memory;
        same_bank = step.same_bank ∙ reached.same_bank;
      }

  pub config_is : config_of next ≡ c
  config_is =
      λ i. record { window = ap (λ (h : Parts). h.window) step.window i; registers = step.registers i }

  pub reaches_next : Reaches first next (config_of next)
  reaches_next =
      let P : Config → Type 0 = λ x. Reaches first next x in
      subst P (sym config_is) reaches_more
