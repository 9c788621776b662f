use Rattle.laws.proofs.Ruled.{rules_are_searched}
use Rattle.laws.proofs.rule_laws.rules_are_searched.Goals as goal

pub returns : goal.returns
returns c = rules_are_searched
