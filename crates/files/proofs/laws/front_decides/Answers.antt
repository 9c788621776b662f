use Rattle.files.proofs.Front.{front_decides}
use Rattle.files.proofs.laws.front_decides.Goals as goal

pub returns : goal.returns
returns c = front_decides
