use Rattle.std.proofs.Common.{sym, ◌∙◌, rules, tests}
use Rattle.std.proofs.lemmas.Iterator.{YieldsList-from_slice}
use Rattle.std.proofs.lemmas.Iterator.Search.{all_from_yields_List}
use Rattle.std.proofs.lemmas.List.Folds.{list_all-map}
use Rattle.plans.specs.declared.carriers.Carrier.{Carrier}
use Rattle.plans.specs.Plan.{on_floor, all_on_floor}
use Rattle.plans.specs.Held.{route_of, routes_of}
use Rattle.std.proofs.lemmas.Bool.Decides.{nat_tests}
use Rattle.plans.proofs.Routes.{routes_length}
use Rattle.plans.proofs.fit.carriers_fit.Goals as goal

pub returns-then-paths_fit : goal.returns-then-paths_fit
unfolding all_on_floor routes_of
returns-then-paths_fit c =
    let e = all_from_yields_List (λ (x : Carrier). on_floor c.args.places (route_of x)) _ _ _ c.all.ensures.ran (YieldsList-from_slice c.args.carriers.now cc) (λ x b q k. search (rules, tests)) ∙ sym (list_all-map (on_floor c.args.places) route_of c.args.carriers.now) in
    let l = routes_length c.args.carriers.now in
    search (rules, e, l, nat_tests)
