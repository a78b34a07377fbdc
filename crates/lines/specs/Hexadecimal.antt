-- Bytes as a script writes them: pairs of hexadecimal digits run together.
use Rattle.std.specs.Prelude.{◌≡◌, ℕ, ◌+◌, ◌*◌, ◌%◌, ◌<◌, List, [], ◌∷◌, length, slice_index}
use Rattle.lines.specs.Numerals.{digit_of_lem}

-- An even number of hexadecimal digits.
abbrev pub Hex : List ℕ → Type 0
Hex w = (length w % 2 ≡ 0) × ((k : ℕ) → k < length w → digit_of_lem (slice_index w k) < 16)

-- The words that may stand where HEX does: none, which is no digits, or one.
abbrev pub HexOperand : List (List ℕ) → List ℕ → Type 0
HexOperand [] hex = hex ≡ []
HexOperand (w ∷ []) hex = (hex ≡ w) × Hex w
HexOperand (w ∷ v ∷ ws) hex = ⊥

-- The bytes that pairs of digits stand for. (Below 256 for every two digits; the remainder is for bytes that are none.)
abbrev pub hex_bytes : List ℕ → List ℕ
hex_bytes [] = []
hex_bytes (a ∷ []) = []
hex_bytes (a ∷ b ∷ ds) = ((digit_of_lem a * 16 + digit_of_lem b) % 256) ∷ hex_bytes ds
