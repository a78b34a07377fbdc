use Rattle.std.proofs.Common.{List, ℕ, get_or, inl, inr, refl, ap, arith, rules}
use Rattle.window.specs.Windows.{parts_of}
use Rattle.compartment.proofs.Entries.{lasts, none_back, unsaved_back, kept_back, all_back}
use Rattle.compartment.proofs.file.put_back.Goals as goal

pub loop-index-init : goal.loop-index-init
loop-index-init g c = record { so_far = none_back _ _ _ c.requires (parts_of c.args.file.now) refl; same_memory = refl }

pub loop-index-preserved : goal.loop-index-preserved
loop-index-preserved g c =
    let i = c.loop-index.index in
    let word = ap (λ (l : List ℕ). get_or l i 0) c.words-words.ensures in
    record {
      so_far = kept_back _ _ _ c.requires (parts_of c.args.file.now) i (omega arith) _ c.loop-index.invariant.so_far (parts_of c.put_qword.new.self) _ (lasts c.args.saved i (inl (omega arith))) word c.put_qword.ensures.parts;
      same_memory = search rules;
    }

pub returns : goal.returns
returns g c =
    let full = c.requires in
    let old = parts_of c.args.file.now in
    let word = λ (k : ℕ). ap (λ (l : List ℕ). get_or l k 0) c.words-words.ensures in
    let general = unsaved_back _ _ _ full old c.loop-index.index (omega arith) _ c.loop-index.invariant.so_far (omega arith) in
    let p = kept_back _ _ _ full old 256 (omega arith) _ general (parts_of c.put_qword-2.new.self) _ (lasts c.args.saved 256 (inr (omega arith))) (word 256) c.put_qword-2.ensures.parts in
    let s = kept_back _ _ _ full old 257 (omega arith) _ p (parts_of c.put_qword-3.new.self) _ (lasts c.args.saved 257 (inr (omega arith))) (word 257) c.put_qword-3.ensures.parts in
    record { parts = all_back _ _ _ full old _ 258 refl s; lent = search rules }
