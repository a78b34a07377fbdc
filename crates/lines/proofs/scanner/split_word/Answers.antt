use Rattle.std.proofs.Common.{sym, ◌∙◌, rules}
use borrow.Author.Tests.{tests}
use Rattle.std.proofs.lemmas.Iterator.{YieldsList-from_slice}
use Rattle.std.proofs.lemmas.Iterator.Search.{position_from_yields_List}
use Rattle.lines.specs.Lines.{blank}
use Rattle.lines.proofs.Splitting.{solid, none_found, word_found}
use Rattle.lines.proofs.scanner.split_word.Goals as goal

pub returns-in_err-start : goal.returns-in_err-start
returns-in_err-start c =
    let first = position_from_yields_List solid _ _ c.position.result c.position.ensures.ran (YieldsList-from_slice c.args.line.now cc) (λ x b q k. search (rules, tests)) in
    rw c.from_residual.ensures (none_found _ (sym first ∙ c.in_err-start.was))

pub returns : goal.returns
returns c =
    let first = position_from_yields_List solid _ _ c.position.result c.position.ensures.ran (YieldsList-from_slice c.args.line.now cc) (λ x b q k. search (rules, tests)) in
    let second = position_from_yields_List blank _ _ c.position-2.result c.position-2.ensures.ran (YieldsList-from_slice c.split_at.result.1.now cc) (λ x b q k. search (rules, tests)) in
    word_found _ _ _ _ _ _ _ (sym first ∙ c.in_ok-start.was) c.split_at.ensures.back second c.unwrap_or-end.ensures c.split_at-2.ensures.front c.split_at-2.ensures.back
