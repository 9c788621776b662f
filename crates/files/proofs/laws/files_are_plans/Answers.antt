use Rattle.files.proofs.Whole.{files_are_plans}
use Rattle.files.proofs.laws.files_are_plans.Goals as goal

pub returns : goal.returns
returns c = files_are_plans
