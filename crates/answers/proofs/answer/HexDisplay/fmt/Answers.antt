use Rattle.std.proofs.Common.{◌≡◌, ℕ, List, [], ◌++◌, sym, ap, ◌∙◌, rules, append_assoc, append-nil}
use Rattle.std.proofs.Output.{has_written_append, has_written_of_eq}
use Rattle.std.proofs.lemmas.List.{nil_from_length}
use Rattle.std.proofs.lemmas.Str.{IsUtf8-from_ascii}
use Rattle.std.specs.Slice.Iter.{chunks_rest}
use Rattle.answers.specs.Answers.{hex_text}
use Rattle.answers.proofs.Digits.{hex_text-append}
use Rattle.answers.proofs.answer.HexDisplay.fmt.Goals as goal

pub unreachable-requires : goal.unreachable-requires
unreachable-requires g c =
    c.in_default.ensures.cases.0 (rw c.put_digits.ensures.digits (IsUtf8-from_ascii _ c.put_digits.ensures.ascii))

pub loop-bytes-init : goal.loop-bytes-init
loop-bytes-init g c = (search rules, tt, search rules, λ plain. ([], search rules, search rules))

pub loop-bytes-preserved : goal.loop-bytes-preserved
loop-bytes-preserved g c =
    let bytes = c.in-Some.bytes.now in
    let rest = chunks_rest c.next.new.self in
    let steps = c.in-Some.ensures.steps in
    let shown : c.in-Ok.text.now ≡ hex_text bytes = c.in-Ok.ensures.cases.0 ∙ c.put_digits.ensures.digits in (
      search rules,
      tt,
      steps.0 ∙ c.loop-bytes.invariant.2,
      λ plain.
          let so_far = c.loop-bytes.invariant.3 plain in (
            so_far.0 ++ c.in-Ok.text.now,
            has_written_append _ _ _ _ _ _ so_far.1 (search rules),
            append_assoc so_far.0 _ _
                ∙ ap (λ (t : List ℕ). so_far.0 ++ t) (rw shown (sym (hex_text-append bytes rest)) ∙ ap hex_text (sym steps.1.0))
                ∙ so_far.2,
          ),
    )

pub returns-clause-writes : goal.returns-clause-writes
returns-clause-writes g c = λ plain _.
    let so_far = c.loop-bytes.invariant.3 plain in
    let none = nil_from_length _ c.in-None.ensures.steps.1.0 in
    has_written_of_eq _ _ _ _ _ (rw (none, append-nil) at so_far.2) so_far.1
