use Rattle.laws.proofs.Agreed.{released_plans_come_home}
use Rattle.laws.proofs.release_laws.released_plans_come_home.Goals as goal

pub returns : goal.returns
returns c = released_plans_come_home
