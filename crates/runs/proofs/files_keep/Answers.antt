use Rattle.runs.proofs.Files.{files_keep_lem}
use Rattle.runs.proofs.files_keep.Goals as goal

pub returns : goal.returns
returns c = files_keep_lem
