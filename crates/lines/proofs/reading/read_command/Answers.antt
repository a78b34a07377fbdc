use Rattle.std.proofs.Common.{sym, ◌∙◌, rules}
use Rattle.lines.proofs.Excluding.{line_fails}
use Rattle.lines.proofs.reading.read_command.Goals as goal

pub returns-in_err-read_rest : goal.returns-in_err-read_rest
returns-in_err-read_rest c =
    let begins = sym c.new-words.ensures ∙ c.in-Some.ensures.steps in
    line_fails c.in_err-read_rest.field-0.0 _ _ _ _ begins c.in_ok-first.ensures c.in_err-read_rest.ensures c.from_residual-in_err-read_rest.result (search rules)
