use Rattle.std.proofs.Common.{◌≡◌, ℕ, ◌<◌, ◌≤◌, Some, None, Option, ◌∙◌, arith, SomeIff}
use Rattle.std.specs.Option.{unwrap_or}
use Rattle.std.proofs.lemmas.Bool.Decides.{nat_tests}
use Rattle.lines.specs.Numerals.{digit_of_lem}
use Rattle.lines.proofs.hexadecimal.byte_of.Goals as goal

-- no byte stands for more than 16
digit_small : (b : ℕ) → digit_of_lem b ≤ 16
digit_small b = grind (arith, nat_tests)

-- a digit, or 16 where the byte is none
digit_or : (b : ℕ) (o : Option ℕ) → SomeIff o (digit_of_lem b < 16) (digit_of_lem b) → unwrap_or o 16 ≡ digit_of_lem b
digit_or b (Some d) (small, is) = is
digit_or b None large = let at_most = digit_small b in omega (arith, large)

pub returns : goal.returns
returns c =
    let high = c.unwrap_or-high.ensures ∙ digit_or c.args.high c.digit_of.result c.digit_of.ensures in
    let low = c.unwrap_or-low.ensures ∙ digit_or c.args.low c.digit_of-2.result c.digit_of-2.ensures in
    cc
