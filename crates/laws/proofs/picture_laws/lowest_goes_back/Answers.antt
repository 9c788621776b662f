use Rattle.laws.proofs.WaysBack.{lowest_goes_back}
use Rattle.laws.proofs.picture_laws.lowest_goes_back.Goals as goal

pub returns : goal.returns
returns c = lowest_goes_back
