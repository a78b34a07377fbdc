use Rattle.std.proofs.Common.{◌≡◌, ℕ, length, set, Some, sym, ap, ◌∙◌, arith, rules}
use Rattle.isa.specs.Ends.{end_code}
use Rattle.window.specs.Views.{seen, replaced}
use Rattle.machine.specs.Machines.{state}
use Rattle.machine.proofs.Ran.{ran-outcome}
use Rattle.machine.proofs.machine.Machine.run.Goals as goal

pub returns : goal.returns
unfolding seen replaced
returns g c =
    let s = state g.M.Memory.bytes c.args.self.now in
    let latest = c.record.new.self.latest in
    let code : latest ≡ set s.latest c.args.k (Some (end_code c.run-end.result.0, c.run-end.result.1)) =
    c.record.ensures ∙ ap (λ (x : ℕ). set s.latest c.args.k (Some (x, c.run-end.result.1))) c.from.ensures in
    record {
      outcome =
          ran-outcome s c.in_ok-row.row c.args.k c.args.budget (length c.args.work.now) _ _ _ latest
          (sym c.admit.ensures.is ∙ c.in_ok-row.was) (omega arith) (omega arith)
          c.run-end.ensures.code c.run-end.ensures.count c.run-end.ensures.bytes code;
      wiped = search rules;
      kept = search rules;
      within = search rules;
    }
