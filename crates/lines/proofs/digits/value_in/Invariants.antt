use Rattle.std.proofs.Common.{◌≡◌, ℕ, ◌^◌, ◌<◌, ◌≤◌, get_or, take, MatchOption}
use Rattle.lines.specs.Numerals.{digit_of_lem, value_in_lem}
use Rattle.lines.proofs.digits.value_in.Given as goal

-- so far each byte is a digit, and the value is theirs unless 64 bits do not hold it
abbrev pub invariant-loop-b : goal.invariant-loop-b
invariant-loop-b l =
    ((k : ℕ) → k < l.b-index → digit_of_lem (get_or l.digits k 0) < l.base)
    × MatchOption l.value (2 ^ 64 ≤ value_in_lem l.base (take l.b-index l.digits)) (λ v. (v < 2 ^ 64) × (value_in_lem l.base (take l.b-index l.digits) ≡ v))
