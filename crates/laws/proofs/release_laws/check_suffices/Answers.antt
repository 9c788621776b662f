use Rattle.laws.proofs.Waiting.{check_suffices}
use Rattle.laws.proofs.release_laws.check_suffices.Goals as goal

pub returns : goal.returns
returns c = check_suffices
