-- What stands behind the name of a command that is known.
use Rattle.std.proofs.Common.{◌≡◌, ℕ, List, Ok, Err, Result, sym, subst}
use Rattle.lines.specs.Commands.{Behind, ReadsRest}
use Rattle.lines.specs.Faulty.{BehindFails}
use Rattle.lines.specs.declared.fault.Fault.{Fault}
use Rattle.lines.specs.declared.keyword.CommandWord.{CommandWord}
use Rattle.lines.specs.declared.command.Command.{Command}

module _ (j k : CommandWord) (ws : List (List ℕ)) (is : j ≡ k) where
  pub rest_reads : (c : Command) → Behind k ws c → ReadsRest j ws (Ok c)
  rest_reads c b = subst (λ (i : CommandWord). Behind i ws c) (sym is) b

  pub rest_fails : (r : Result Command Fault) (f : Fault) → r ≡ Err f → BehindFails k ws f → ReadsRest j ws r
  rest_fails r f e b = subst (λ (q : Result Command Fault). ReadsRest j ws q) (sym e) (subst (λ (i : CommandWord). BehindFails i ws f) (sym is) b)
