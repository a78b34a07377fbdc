use Rattle.std.proofs.Common.{◌≡◌, sym, ap, ◌∙◌, arith}
use Rattle.std.specs.Result.{result_ok}
use Rattle.plan.specs.Plans.{rows_of}
use Rattle.machine.specs.Machines.{state}
use Rattle.machine.specs.States.{State}
use Rattle.page.specs.declared.page.Page.{Page}
use Rattle.page.proofs.OneRow.{kept_word, laid_ok}
use Rattle.page.proofs.client.kept.Goals as goal

pub returns : goal.returns
returns c =
    let bytes = λ (p : Page). p.cells in
    let made = c.make-machine.ensures.opening in
    let plan = laid_ok _ _ _ _ c.lay.result _ c.lay.ensures.lays (sym c.ok.ensures.value ∙ c.in_ok-ok.was) in
    let size : c.make-machine.result.plan.size ≡ 4096 = omega (arith, ap (λ (s : State). s.plan.size) made, plan.same_size) in
    let rows = ap (λ (s : State). rows_of s.plan) made ∙ plan.same_rows in
    c.ok-2.ensures.value
    ∙ ap result_ok c.and.ensures
    ∙ kept_word (state bytes c.make-machine.result) (state bytes c.set-set.new.self) c.args.word c.set-set.result c.get-got.result (c.make-machine.result.memory.whole, size, rows) (omega arith) c.set-set.ensures c.get-got.ensures
