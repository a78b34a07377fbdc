use Rattle.std.proofs.Common.{◌≡◌, ℕ, ◌^◌, ◌<◌, ◌≤◌, List, [], ◌∷◌, length, get_or, take, drop, codes, Result, refl, ap, ◌∙◌, inl, inr, arith, length-drop, MatchResult}
use Rattle.std.proofs.lemmas.List.{take_all}
use Rattle.std.proofs.lemmas.Result.{MatchResult-weaker}
use Rattle.lines.specs.declared.digits.NoNumber.{NoNumber}
use Rattle.lines.specs.declared.digits.NoNumber.TheVariants.{NotANumber, TooLarge}
use Rattle.lines.specs.Numerals.{Means, Numeral, WhyNot, Written}
use Rattle.lines.proofs.Numbers.{not_both}
use Rattle.lines.proofs.digits.numeral.Goals as goal

-- a word of two bytes and more begins with these two
front : (w : List ℕ) → 2 ≤ length w → take 2 w ≡ get_or w 0 0 ∷ get_or w 1 0 ∷ []
front [] h = absurd (omega arith)
front (a ∷ []) h = absurd (omega arith)
front (a ∷ b ∷ w) h = refl

-- behind 0x, digits that are no number make the word none
no_hexadecimal : (w : List ℕ) → take 2 w ≡ codes "0x" → ((n : ℕ) → Means 16 (drop 2 w) n → ⊥) → (n : ℕ) → Written w n → ⊥
no_hexadecimal w mark none n (inl d) = not_both w d.0 mark
no_hexadecimal w mark none n (inr h) = none n h.1

why_hexadecimal : (w : List ℕ) → take 2 w ≡ codes "0x" → (why : NoNumber) → WhyNot (Means 16 (drop 2 w)) why → WhyNot (Written w) why
why_hexadecimal w mark NotANumber none = no_hexadecimal w mark none
why_hexadecimal w mark TooLarge (n, h, large) = (n, inr (mark, h), large)

-- what the digits behind 0x give
behind_0x : (w ds : List ℕ) (r : Result ℕ NoNumber) → ds ≡ drop 2 w → take 2 w ≡ codes "0x" → MatchResult r (λ n. (n < 2 ^ 64) × Means 16 ds n) (λ why. WhyNot (Means 16 ds) why) → MatchResult r (λ n. Numeral w n) (λ why. WhyNot (Written w) why)
behind_0x w ds r e mark h = MatchResult-weaker r (rw e at h) (λ n p. (p.0, inr (mark, p.1))) (why_hexadecimal w mark)

pub returns-in-48 : goal.returns-in-48
returns-in-48 c =
    let w = c.args.word.now in
    let mark : take 2 w ≡ codes "0x" = front w c.in-48.len_at_least ∙ ap (λ (a : ℕ). a ∷ get_or w 1 0 ∷ []) (omega arith) ∙ ap (λ (b : ℕ). 48 ∷ b ∷ []) (omega arith) in
    behind_0x w _ c.value_in.result (take_all _ (drop 2 w) (omega (arith, length-drop 2 w))) mark c.value_in.ensures
