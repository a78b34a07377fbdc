-- The text of an answer, and the line of output that a line of a script gives.
use Rattle.std.specs.Prelude.{ℕ, ◌+◌, ◌/◌, ◌%◌, cond, List, [], ◌∷◌, ◌++◌, Some, None, vec_items, codes, decimal, nat_lt, Option}
use Rattle.plan.specs.Grounds.{ground_number}
use Rattle.isa.specs.Ends.{end_code}
use Rattle.machine.specs.Refusals.{refusal_number}
use Rattle.answers.specs.declared.answer.Answer.{Answer}
use Rattle.answers.specs.declared.answer.Answer.TheVariants.{Size, Row, Accepted, LayRefused, Made, Refused, Fetched, Word, Ended, Latest, Released}

-- A digit below 16, and bytes as pairs of digits, both in lower case.
abbrev pub hex_digit_lem : ℕ → ℕ
hex_digit_lem d = cond (nat_lt d 10) (48 + d) (87 + d)

abbrev pub hex_text : List ℕ → List ℕ
hex_text [] = []
hex_text (b ∷ bs) = hex_digit_lem (b / 16) ∷ hex_digit_lem (b % 16) ∷ hex_text bs

-- The code and the count of the latest run, or that there was none.
abbrev pub record_text : Option (ℕ × ℕ) → List ℕ
record_text None = codes "none"
record_text (Some (code, count)) = codes "code " ++ (decimal code ++ (codes " count " ++ decimal count))

abbrev pub answer_text : Answer → List ℕ
answer_text (Size n) = decimal n ++ codes " bytes"
answer_text (Row i) = codes "row " ++ decimal i
answer_text Accepted = codes "accepted"
answer_text (LayRefused e) =
    codes "refused " ++ (decimal (ground_number e.ground) ++ (codes " row " ++ (decimal e.row ++ (codes " other " ++ decimal e.other))))
answer_text Made = codes "made"
answer_text (Refused e) = codes "refused " ++ decimal (refusal_number e)
answer_text (Fetched v) = hex_text (vec_items v)
answer_text (Word w) = decimal w
answer_text (Ended e) = codes "code " ++ (decimal (end_code e.end) ++ (codes " count " ++ decimal e.count))
answer_text (Latest o) = record_text o
answer_text Released = codes "released"

-- The line as written, a colon, a blank, the answer, a line feed.
abbrev pub output_text : List ℕ → Answer → List ℕ
output_text line a = line ++ (codes ": " ++ (answer_text a ++ (10 ∷ [])))
