use Rattle.std.proofs.Common.{unwrap_or, ap, ◌∙◌}
use Rattle.plans.specs.Plan.{carrier}
use Rattle.plans.specs.Held.{plan_of}
use Rattle.laws.specs.Paths.{entry}
use Rattle.rules.proofs.Routed.{value_nth}
use Rattle.rules.proofs.paths.entry.Goals as goal

pub returns : goal.returns
unfolding entry
returns c = c.unwrap_or.ensures ∙ (ap (λ o. unwrap_or o 0) c.entry.ensures ∙ value_nth (carrier (plan_of c.args.plan.now) c.args.carrier).path c.args.t)
