-- The answer of each call, as its result says it.
use Rattle.std.specs.Prelude.{ℕ, List, Ok, Err, Option, Result}
use Rattle.isa.specs.Ends.{end_code}
use Rattle.machine.specs.declared.ended.RunEnd.{RunEnd}
use Rattle.machine.specs.Refusals.{refusal_number}
use Rattle.machine.specs.declared.refusal.Refusal.{Refusal}
use Rattle.machine.specs.Calls.{Answer, Refused, Done, Filled, Word, Ended, Latest}

abbrev pub done_answer : Result (Unit {0}) Refusal → Answer
done_answer (Ok _) = Done
done_answer (Err e) = Refused (refusal_number e)

abbrev pub filled_answer : List ℕ → Result (Unit {0}) Refusal → Answer
filled_answer bs (Ok _) = Filled bs
filled_answer bs (Err e) = Refused (refusal_number e)

abbrev pub word_answer : Result ℕ Refusal → Answer
word_answer (Ok w) = Word w
word_answer (Err e) = Refused (refusal_number e)

abbrev pub ended_answer : Result RunEnd Refusal → Answer
ended_answer (Ok e) = Ended (end_code e.end) e.count
ended_answer (Err e) = Refused (refusal_number e)

abbrev pub latest_answer : Result (Option (ℕ × ℕ)) Refusal → Answer
latest_answer (Ok o) = Latest o
latest_answer (Err e) = Refused (refusal_number e)
