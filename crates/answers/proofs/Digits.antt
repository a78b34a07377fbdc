-- The text of bytes: of more of them, of those in two pieces, and that it is ASCII.
use Rattle.std.proofs.Common.{◌≡◌, ℕ, suc, ◌+◌, ◌/◌, ◌%◌, ◌<◌, List, [], ◌∷◌, ◌++◌, length, take, get_or, slice_set, refl, ap, arith}
use Rattle.std.proofs.lemmas.List.{append_assoc, take_more_set, length-set}
use Rattle.std.proofs.lemmas.Str.Ascii.{IsAscii-nil, IsAscii-cons}
use Rattle.std.specs.Str.{IsAscii}
use Rattle.answers.specs.Answers.{hex_digit_lem, hex_text}

-- the text of two pieces, one after the other
pub hex_text-append : (xs ys : List ℕ) → hex_text (xs ++ ys) ≡ hex_text xs ++ hex_text ys
hex_text-append [] ys = refl
hex_text-append (b ∷ bs) ys = ap (λ (t : List ℕ). hex_digit_lem (b / 16) ∷ hex_digit_lem (b % 16) ∷ t) (hex_text-append bs ys)

hex_digit-ascii : (d : ℕ) → d < 16 → hex_digit_lem d < 128
hex_digit-ascii d h = grind (arith)

-- a text is ASCII if it is one of bytes
pub IsAscii-hex_text : (bs : List ℕ) → ((i : ℕ) → get_or bs i 0 < 256) → IsAscii (hex_text bs)
IsAscii-hex_text [] h = IsAscii-nil
IsAscii-hex_text (b ∷ bs) h =
    let byte : b < 256 = h 0 in
    let rest = IsAscii-hex_text bs (λ i. h (suc i)) in
    IsAscii-cons (hex_digit_lem (b / 16)) (hex_digit_lem (b % 16) ∷ hex_text bs) (hex_digit-ascii (b / 16) (omega arith))
    (IsAscii-cons (hex_digit_lem (b % 16)) (hex_text bs) (hex_digit-ascii (b % 16) (omega arith)) rest)

-- two writes in a row, seen from the front
pub take-two_writes : (xs : List ℕ) (o x y : ℕ) → o + 1 < length xs
    → take (o + 2) (slice_set (slice_set xs o x) (o + 1) y) ≡ take o xs ++ (x ∷ y ∷ [])
take-two_writes xs o x y fits =
    let len : length (slice_set xs o x) ≡ length xs = length-set xs o x in
    let two : o + 2 ≡ o + 1 + 1 = omega arith in
    let second = take_more_set (slice_set xs o x) (o + 1) y (omega (arith, len)) in
    let first = take_more_set xs o x (omega arith) in
    rw (two, second, first) (append_assoc (take o xs) (x ∷ []) (y ∷ []))
