use Rattle.std.proofs.Common.{◌≡◌}
use Rattle.bank.specs.Banks.{words_of}
use Rattle.window.specs.Windows.{parts_of}
use Rattle.compartment.proofs.Entries.{filed_to}
use Rattle.compartment.proofs.file.put_back.Given as goal

abbrev pub invariant-loop-index : goal.invariant-loop-index
invariant-loop-index g l =
    record {
      so_far : parts_of l.file ≡ record (parts_of l.initial.file) { window = filed_to (parts_of l.initial.file).window l.saved (words_of l.bank) l.index };
      same_memory : l.file.memory.ghost_name ≡ l.initial.file.memory.ghost_name;
    }
