use Rattle.std.proofs.Common.{sym, ap, ◌∙◌, None, rules}
use Rattle.plans.specs.Plan.{Route}
use Rattle.plans.proofs.Facts.{carrier_is, path_is}
use Rattle.plans.proofs.plans.ReadPlan.path.Goals as goal

pub returns-in_default : goal.returns-in_default
returns-in_default c = sym (ap (λ (r : Route). r.path) (carrier_is c.args.self.now c.args.number None (sym c.in_default.is ∙ c.row.ensures.value)))

pub returns : goal.returns
returns c = path_is c.args.self.now c.args.number c.in-Some.row _ _ _ c.in-Some.ensures.value c.in-Some.ensures.within (search rules) c.from.ensures c.from-2.ensures
