use Rattle.std.proofs.Common.{unwrap_or, refl, ap, ◌∙◌}
use Rattle.plans.specs.Plan.{Route, nobody}
use Rattle.plans.specs.Held.{plan_of}
use Rattle.rules.proofs.Routed.{value_mapped}
use Rattle.rules.proofs.paths.goal.Goals as goal

pub returns : goal.returns
returns c = c.unwrap_or.ensures ∙ (ap (λ o. unwrap_or o 0) c.goal.ensures ∙ value_mapped (λ (r : Route). r.goal) nobody refl (plan_of c.args.plan.now).carriers c.args.carrier)
