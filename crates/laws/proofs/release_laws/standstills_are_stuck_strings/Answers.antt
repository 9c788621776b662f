use Rattle.laws.proofs.Stuck.{standstills_are_stuck_strings}
use Rattle.laws.proofs.release_laws.standstills_are_stuck_strings.Goals as goal

pub returns : goal.returns
returns c = standstills_are_stuck_strings
