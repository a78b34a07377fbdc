-- Numbers as a script writes them.
use Rattle.std.specs.Prelude.{◌≡◌, ℕ, ◌+◌, ◌-◌, ◌*◌, ◌^◌, ◌<◌, ◌≤◌, cond, ◌⊎◌, List, length, take, drop, codes, fold, nat_lt, slice_index}
use Rattle.lines.specs.declared.digits.NoNumber.{NoNumber}
use Rattle.lines.specs.declared.digits.NoNumber.TheVariants.{NotANumber, TooLarge}

-- What a byte stands for as a digit: 0 to 9, a to f, A to F; any other byte is no digit of a base up to 16.
abbrev pub digit_of_lem : ℕ → ℕ
digit_of_lem b =
    cond (nat_lt b 48) 16 (cond (nat_lt b 58) (b - 48) (cond (nat_lt b 65) 16 (cond (nat_lt b 71) (b - 55) (cond (nat_lt b 97) 16 (cond (nat_lt b 103) (b - 87) 16)))))

-- At least one byte, and each a digit of the base.
abbrev pub Digits : ℕ → List ℕ → Type 0
Digits base ds = (0 < length ds) × ((k : ℕ) → k < length ds → digit_of_lem (slice_index ds k) < base)

-- The number that digits stand for, highest first.
abbrev pub value_in_lem : ℕ → List ℕ → ℕ
value_in_lem base ds = fold (λ n b. n * base + digit_of_lem b) 0 ds

-- Digits of the base that stand for the number n.
abbrev pub Means : ℕ → List ℕ → ℕ → Type 0
Means base ds n = Digits base ds × (value_in_lem base ds ≡ n)

-- The word is written for the number n: in decimal, or in hexadecimal behind 0x.
abbrev pub Written : List ℕ → ℕ → Type 0
Written w n = Means 10 w n ⊎ ((take 2 w ≡ codes "0x") × Means 16 (drop 2 w) n)

-- The same of a number below 2 ^ 64.
abbrev pub Numeral : List ℕ → ℕ → Type 0
Numeral w n = (n < 2 ^ 64) × Written w n

-- Why what is written for numbers of one kind stands for none below 2 ^ 64: for no number at all, or for a larger one.
abbrev pub WhyNot : (ℕ → Type 0) → NoNumber → Type 0
WhyNot Number NotANumber = (n : ℕ) → Number n → ⊥
WhyNot Number TooLarge = (n : ℕ) × Number n × (2 ^ 64 ≤ n)
