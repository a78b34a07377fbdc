use Rattle.std.proofs.Common.{◌≡◌, ℕ, ◌<◌, ◌≤◌, [], length, get_or, drop}
use Rattle.lines.specs.Operands.{Gives}
use Rattle.lines.specs.declared.operand.Operand.TheVariants.{N}
use Rattle.lines.proofs.operands.numbers.Given as goal

-- the words so far give the values so far, and the others are still to come
abbrev pub invariant-loop-i : goal.invariant-loop-i
invariant-loop-i g l =
    (length l.values ≡ length l.operand-items)
    × (l.i ≤ length (l.initial.words))
    × (drop l.i (l.initial.words) ≡ l.words)
    × ((k : ℕ) → k < l.i → Gives (get_or l.operand-items k N) (get_or (l.initial.words) k []) (get_or l.values k 0))
