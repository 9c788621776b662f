use Rattle.std.proofs.Common.{length, ap, arith}
use Rattle.rules.proofs.Routed.{path_short}
use Rattle.rules.proofs.paths.Route.of.Goals as goal

pub invariant_of-result : goal.invariant_of-result
invariant_of-result c = record { short = omega (arith, ap length c.path.ensures, path_short c.args.plan.now c.args.number) }
