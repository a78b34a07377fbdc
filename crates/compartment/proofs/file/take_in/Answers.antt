use Rattle.std.proofs.Common.{◌≡◌, ◌-◌, replicate, ◌∙◌, arith, below_more, rules}
use Rattle.std.proofs.lemmas.Grind.{get_or-set_at}
use Rattle.std.proofs.lemmas.List.{get_or-set_other, length-set}
use Rattle.isa.specs.Compartments.{entry_value}
use Rattle.compartment.proofs.Entries.{load_entry}
use Rattle.compartment.proofs.Taken.{started_is}
use Rattle.compartment.proofs.file.take_in.Goals as goal

pub loop-index-preserved : goal.loop-index-preserved
loop-index-preserved g c =
    let i = c.loop-index.index in
    let is : c.qword.result ≡ entry_value c.args.file.now i = cc (load_entry c.args.file.now c.requires.long i (omega arith)) in
    record {
      taken = below_more _ i (λ k h. grind (arith, get_or-set_other, c.loop-index.invariant.taken k h)) (grind (arith, get_or-set_at, is));
      full = length-set _ _ _ ∙ c.loop-index.invariant.full;
    }

pub returns : goal.returns
returns g c =
    let zeros : c.fill.new.self ≡ replicate (256 - c.min-kept.result) 0 = search rules in
    started_is c.args.file.now c.args.saved c.min-kept.result c.requires.long (search rules) c.loop-index.registers _ _ _ c.loop-index.invariant.full
    (λ k h. c.loop-index.invariant.taken k (omega (arith, h))) zeros c.qword-2.ensures c.qword-3.ensures
