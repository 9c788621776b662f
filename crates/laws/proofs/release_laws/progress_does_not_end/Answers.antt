use Rattle.laws.proofs.Progress.{no_standstill_no_end_of_progress}
use Rattle.laws.proofs.release_laws.progress_does_not_end.Goals as goal

pub returns : goal.returns
returns c = no_standstill_no_end_of_progress
