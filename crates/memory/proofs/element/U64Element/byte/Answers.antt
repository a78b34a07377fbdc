use Rattle.std.proofs.Common.{sym, refl, ap, ◌∙◌}
use Rattle.std.proofs.lemmas.Option.{get_or_from_slice_get, slice_get_within}
use Rattle.memory.specs.Bytes.{bytes_of}
use Rattle.memory.proofs.Digits.{to_be, slice_index_word}
use Rattle.memory.proofs.element.U64Element.byte.Goals as goal

pub returns : goal.returns
returns c held i e =
    slice_index_word held _ i c.args.r _ (c.to_be_bytes.ensures ∙ to_be _ ∙ ap (bytes_of 8) (sym (get_or_from_slice_get held i _ 0 e)))
    refl (slice_get_within held i _ e) c.requires
