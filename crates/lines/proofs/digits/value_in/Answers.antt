use Rattle.std.proofs.Common.{◌≡◌, ℕ, zero, suc, ◌+◌, ◌*◌, ◌^◌, ◌<◌, ◌≤◌, Some, None, Option, get_or, take, sym, ap, ◌∙◌, mul-suc, arith, rules, below_more, MatchOption, SomeIff}
use borrow.Author.Tests.{tests}
use Rattle.std.proofs.lemmas.List.Sums.{fold_more}
use Rattle.lines.specs.Numerals.{digit_of_lem, value_in_lem}
use Rattle.lines.proofs.digits.value_in.Goals as goal

-- one digit more makes no number smaller
grows : (v b d : ℕ) → 0 < b → v ≤ v * b + d
grows v zero d h = absurd (omega arith)
grows v (suc b) d h = rw (mul-suc v b) (omega arith)

-- a value with one digit more, where the value so far may be too large
more_digits : (base d n m : ℕ) (old new : Option ℕ) → 0 < base → m ≡ n * base + d → MatchOption old (2 ^ 64 ≤ n) (λ v. (v < 2 ^ 64) × (n ≡ v)) → MatchOption old (new ≡ None) (λ v. SomeIff new (v * base + d < 2 ^ 64) (v * base + d)) → MatchOption new (2 ^ 64 ≤ m) (λ v. (v < 2 ^ 64) × (m ≡ v))
more_digits base d n m None (Some w) b e past gone = absurd (cc)
more_digits base d n m None None b e past gone = let more = grows n base d b in omega arith
more_digits base d n m (Some v) None b e (fits, is) large = rw (e, is) (omega (arith, large))
more_digits base d n m (Some v) (Some w) b e (fits, is) (small, gives) = (omega arith, e ∙ ap (λ (k : ℕ). k * base + d) is ∙ sym gives)

pub loop-b-preserved : goal.loop-b-preserved
loop-b-preserved c =
    let ds = c.args.digits.now in
    let i = c.loop-b.b-index in
    let one : (digit_of_lem (get_or ds i 0) < c.args.base) × (c.in_ok-digit.digit ≡ digit_of_lem (get_or ds i 0)) = search (rules, tests) in
    let more = fold_more (λ (n b : ℕ). n * c.args.base + digit_of_lem b) 0 ds i 0 c.loop-b-test.true in (
      below_more _ _ c.loop-b.invariant.0 one.0,
      more_digits c.args.base c.in_ok-digit.digit _ _ c.loop-b.value c.and_then-value.result (omega arith) (more ∙ ap (λ (d : ℕ). value_in_lem c.args.base (take i ds) * c.args.base + d) (sym one.1)) c.loop-b.invariant.1 (search (rules, tests)),
    )
