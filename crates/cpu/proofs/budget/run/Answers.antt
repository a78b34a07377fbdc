use Rattle.std.proofs.Common.{◌≡◌, ℕ, ◌≤◌, None, Option, List, length, unwrap_or, sym, ap, ◌∙◌, arith}
use Rattle.std.specs.Option.{is_some}
use Rattle.std.proofs.lemmas.Bool.{false≢true}
use Rattle.isa.specs.Runs.{Ran, ran}
use Rattle.isa.specs.declared.end.End.{End}
use Rattle.isa.specs.declared.end.End.TheVariants.{Budget}
use Rattle.window.specs.Views.{seen}
use Rattle.window.specs.Windows.{Parts, memory_parts}
use Rattle.window.proofs.Seeing.{memory_replaced, length_replaced}
use Rattle.cpu.specs.Configs.{config, left_of}
use Rattle.cpu.proofs.Running.{left_next, left_is, none_is}
use Rattle.cpu.proofs.budget.run.Given as given
use Rattle.cpu.proofs.budget.run.Goals as goal
use Rattle.cpu.proofs.budget.run.Goals.{then-loop-ended-test+else-count-budget, else-loop-ended-test}

pub loop-ended-preserved : goal.loop-ended-preserved
loop-ended-preserved g c =
    let inv = c.loop-ended.invariant in
    let step = c.step-ended.ensures in
    let cfg = config (g.M.Memory.bytes c.loop-ended.memory) c.args.extent c.loop-ended.bank in
    let none = none_is _ c.loop-ended-test.ensures in (
      omega arith,
      left_next c.args.budget c.loop-ended.count cfg _ _ (omega arith) step.end step.next
          ∙ ap (λ (o : Option End). left_of o c.args.budget c.loop-ended.count cfg) (sym none)
          ∙ inv.1,
      step.around ∙ ap (λ (h : Parts). record h { window = seen (g.M.Memory.bytes c.step-ended.new.memory) c.args.extent }) inv.2,
      step.whole,
      step.lent ∙ inv.4,
    )

pub loop-ended-preserved-then-is_none : goal.loop-ended-preserved-then-is_none
loop-ended-preserved-then-is_none g c =
    let inv = c.loop-ended.invariant in
    let step = c.step-ended.ensures in
    let dash = c.dash.ensures in
    let cfg = config (g.M.Memory.bytes c.loop-ended.memory) c.args.extent c.loop-ended.bank in
    let none = none_is _ c.loop-ended-test.ensures in
    let on = none_is _ c.if-is_none.ensures in (
      dash.within,
      dash.left
          ∙ left_next c.args.budget c.loop-ended.count cfg _ None (omega arith) (sym on ∙ step.end) step.next
          ∙ ap (λ (o : Option End). left_of o c.args.budget c.loop-ended.count cfg) (sym none)
          ∙ inv.1,
      dash.around
          ∙ ap (λ (h : Parts). record h { window = seen (g.M.Memory.bytes c.dash.new.memory) c.args.extent }) (step.around
          ∙ ap (λ (h : Parts). record h { window = seen (g.M.Memory.bytes c.step-ended.new.memory) c.args.extent }) inv.2),
      dash.whole,
      dash.lent ∙ step.lent ∙ inv.4,
    )

module _ (g : given.Over) (c : goal.After-unwrap_or g) where
  spent : c.loop-ended.ended ≡ None → c.args.budget ≤ c.loop-ended.count
  spent h =
      elim c.loop-ended-test.branch [
        | then-loop-ended-test+else-count-budget w ↦ omega arith
        | else-loop-ended-test w ↦ absurd (false≢true (sym (ap (λ (o : Option End). is_some o) h) ∙ w.loop-ended-test.ensures))
      ]

  ends : record { end = unwrap_or c.loop-ended.ended Budget; count = c.loop-ended.count; last = config (g.M.Memory.bytes c.loop-ended.memory) c.args.extent c.loop-ended.bank } ≡ ran c.args.budget (config (g.M.Memory.bytes c.args.memory.now) c.args.extent c.args.bank.now)
  ends =
      let inv = c.loop-ended.invariant in
      sym (left_is c.args.budget c.loop-ended.count _ c.loop-ended.ended spent inv.0) ∙ inv.1

pub returns-clause-end : goal.returns-clause-end
returns-clause-end g c = c.unwrap_or.ensures ∙ ap (λ (r : Ran). r.end) (ends g c)

pub returns-clause-count : goal.returns-clause-count
returns-clause-count g c = ap (λ (r : Ran). r.count) (ends g c)

pub returns-clause-words : goal.returns-clause-words
returns-clause-words g c = ap (λ (r : Ran). r.last.registers) (ends g c)

pub returns-clause-bytes : goal.returns-clause-bytes
returns-clause-bytes g c =
    let inv = c.loop-ended.invariant in
    memory_replaced _ _ c.args.extent c.args.extent c.requires inv.3 _
    (inv.2 ∙ ap (λ (r : Ran). record (memory_parts (g.M.Memory.bytes c.args.memory.now) c.args.extent) { window = r.last.window }) (ends g c))

pub returns-clause-size : goal.returns-clause-size
returns-clause-size g c =
    ap (λ (l : List ℕ). length l) (returns-clause-bytes g c) ∙ length_replaced (g.M.Memory.bytes c.args.memory.now) c.args.extent c.requires _
