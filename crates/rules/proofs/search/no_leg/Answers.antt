use Rattle.std.proofs.Common.{refl, ap, ◌∙◌, rules}
use Rattle.plans.specs.Plan.{carrier}
use Rattle.plans.specs.Held.{plan_of}
use Rattle.laws.specs.Rules.{first}
use Rattle.rules.specs.Routes.{legless_of}
use Rattle.rules.proofs.Firsts.{first_from_find_map}
use Rattle.rules.proofs.Rows.{first-legless_of}
use Rattle.rules.proofs.search.no_leg.Goals as goal

pub returns : goal.returns
returns c =
    let p = plan_of c.args.plan.now in
    first_from_find_map _ (λ c. legless_of p.floor c (carrier p c)) (λ x y q k. (search rules, search rules)) _ _ c.find_map.result refl c.find_map.ensures.ran c.find_map.ensures.runs
    ∙ (ap (λ n. first n (λ c. legless_of p.floor c (carrier p c))) c.carrier_count.ensures ∙ first-legless_of p)
