-- What the run of a compartment keeps.
use Rattle.isa.specs.Steps.{Config}
use Rattle.isa.specs.Runs.{ran}
use Rattle.isa.specs.Compartments.{started, compartment_ran}
use Rattle.isa.proofs.Filing.{length_filed, filed_unsaved, bytes_filed, qwords_started}
use Rattle.runs.specs.Keeping.{FilesKeep}
use Rattle.runs.proofs.Walks.{count_within}
use Rattle.runs.proofs.Keeps.{runs_keep_lem}

pub files_keep_lem : FilesKeep
unfolding compartment_ran
files_keep_lem window file saved budget full =
    let c : Config = record { window = window; registers = started file saved } in
    let d = (ran budget c).last in
    record {
      within = count_within budget c;
      same_window = (runs_keep_lem budget c).same_window;
      same_file = length_filed file saved d.registers full;
      unsaved = λ k h l. filed_unsaved file saved d.registers full k h l;
      bytes = λ b f. (runs_keep_lem budget c).bytes b (qwords_started file saved f);
      file_bytes = λ f. bytes_filed file saved d.registers f;
    }
