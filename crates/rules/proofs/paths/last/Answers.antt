use Rattle.std.proofs.Common.{length, pred, ap, ◌∙◌, arith}
use Rattle.laws.specs.Paths.{last}
use Rattle.rules.proofs.Routed.{path_short}
use Rattle.rules.proofs.paths.last.Goals as goal

pub last_number-requires : goal.last_number-requires
last_number-requires c = omega (arith, ap length c.path.ensures, path_short c.args.plan.now c.args.carrier)

pub returns-clause-value : goal.returns-clause-value
unfolding last
returns-clause-value c = c.last_number.ensures.value ∙ ap (λ xs. pred (length xs)) c.path.ensures
