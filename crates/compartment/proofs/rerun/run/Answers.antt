use Rattle.std.proofs.Common.{List, ℕ, sym, ap, ◌∙◌, arith, rules}
use Rattle.bank.specs.Banks.{words_of}
use Rattle.isa.specs.Ends.{end_code}
use Rattle.isa.specs.Compartments.{Ended, started}
use Rattle.window.specs.Views.{Whole}
use Rattle.window.proofs.Seeing.{bytes_replaced}
use Rattle.compartment.proofs.Whole.{long_file, ended_is, bytes_are}
use Rattle.compartment.proofs.rerun.run.Goals as goal

pub take_in-requires-clause-long : goal.take_in-requires-clause-long
take_in-requires-clause-long g c = search (rules, long_file)

pub put_back-requires : goal.put_back-requires
put_back-requires g c =
    long_file (g.M.Memory.bytes c.run-ended.new.memory) c.args.file (omega (arith, c.run-ended.ensures.size, c.requires.file)) c.requires.long

pub returns : goal.returns
returns g c =
    let bs = g.M.Memory.bytes c.args.memory.now in
    let bs' = g.M.Memory.bytes c.run-ended.new.memory in
    let window = c.args.window in
    let file = c.args.file in
    let rs = words_of c.open-bank.result in
    let start = c.open-bank.ensures.same ∙ c.take_in.ensures ∙ ap (λ (l : List ℕ). started l c.args.saved) c.new.ensures in
    let is = ended_is bs window file c.args.saved c.args.budget rs start in
    let whole : Whole bs' file = omega (arith, c.run-ended.ensures.size, c.requires.file) in
    let bytes =
    bytes_are bs window file c.args.saved c.args.budget rs start c.requires.window c.requires.file c.requires.apart bs' c.run-ended.ensures.bytes
    (words_of c.run-ended.new.bank) (g.M.Memory.bytes c.put_back.new.file.memory.now) c.run-ended.ensures.words
    (bytes_replaced bs' file whole c.put_back.new.file _ c.put_back.ensures.parts) in
    record {
      code = ap end_code c.run-ended.ensures.end ∙ sym (ap (λ (x : Ended). x.code) is);
      count = c.run-ended.ensures.count ∙ sym (ap (λ (x : Ended). x.count) is);
      bytes = search rules;
      wiped = search rules;
      within = search rules;
    }
