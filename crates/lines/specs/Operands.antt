-- What an operand takes, and how the words of a line fill the operands of a command.
use Rattle.std.specs.Prelude.{◌≡◌, ℕ, ◌-◌, ◌^◌, ◌<◌, ◌≤◌, List, [], ◌∷◌, length, codes, slice_index, slice_index_or}
use Rattle.lines.specs.Numerals.{Numeral}
use Rattle.lines.specs.declared.operand.Operand.{Operand}
use Rattle.lines.specs.declared.operand.Operand.TheVariants.{N, M, Off, Max, File, Saved, Size, K, Address, Index, Word, Length, Budget, Work}

-- Its name in the format.
abbrev pub name_of : Operand → List ℕ
name_of N = codes "N"
name_of M = codes "M"
name_of Off = codes "OFF"
name_of Max = codes "MAX"
name_of File = codes "FILE"
name_of Saved = codes "SAVED"
name_of Size = codes "SIZE"
name_of K = codes "K"
name_of Address = codes "ADDRESS"
name_of Index = codes "INDEX"
name_of Word = codes "WORD"
name_of Length = codes "LENGTH"
name_of Budget = codes "BUDGET"
name_of Work = codes "WORK"

-- The largest number that it takes.
abbrev pub most_of : Operand → ℕ
most_of N = 2 ^ 64 - 1
most_of M = 2 ^ 64 - 1
most_of Off = 2 ^ 64 - 1
most_of Max = 2 ^ 64 - 1
most_of File = 2 ^ 64 - 1
most_of Saved = 2 ^ 16 - 1
most_of Size = 2 ^ 64 - 1
most_of K = 2 ^ 16 - 1
most_of Address = 2 ^ 64 - 1
most_of Index = 2 ^ 64 - 1
most_of Word = 2 ^ 64 - 1
most_of Length = 2 ^ 64 - 1
most_of Budget = 2 ^ 64 - 1
most_of Work = 2 ^ 64 - 1

-- The word gives the operand the value n.
abbrev pub Gives : Operand → List ℕ → ℕ → Type 0
Gives o w n = Numeral w n × (n ≤ most_of o)

-- There are as many words as operands, and each gives its operand the value in its place.
abbrev pub Filled : List Operand → List (List ℕ) → List ℕ → Type 0
Filled os ws ns =
    (length ws ≡ length os) × ((k : ℕ) → k < length os → Gives (slice_index_or os k N) (slice_index_or ws k []) (slice_index ns k))

-- The words that may stand where an operand does that may be left out: none, which gives it the value d, or one.
abbrev pub FilledOr : Operand → ℕ → List (List ℕ) → ℕ → Type 0
FilledOr o d [] n = n ≡ d
FilledOr o d (w ∷ []) n = Gives o w n
FilledOr o d (w ∷ v ∷ ws) n = ⊥
