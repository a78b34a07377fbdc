use Rattle.std.proofs.Common.{◌≡◌, ◌*◌, take}
use Rattle.answers.specs.Answers.{hex_text}
use Rattle.answers.proofs.answer.put_digits.Given as goal

-- the digits of the bytes so far stand at the start
abbrev pub invariant-loop-i : goal.invariant-loop-i
invariant-loop-i l =
    take (2 * l.i) l.room ≡ hex_text (take l.i l.bytes)
