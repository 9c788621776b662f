-- The plan that a read plan holds.
use Rattle.std.specs.Prelude.{List, map, vec_items}
use Rattle.store_floor.specs.Held.{layout_of}
use Rattle.plans.specs.declared.carriers.Carrier.{Carrier}
use Rattle.plans.specs.declared.plans.ReadPlan.{ReadPlan}
use Rattle.plans.specs.Plan.{Route, Plan}
use Rattle.plans.specs.Tables.{routes_in}

abbrev pub route_of : Carrier → Route
route_of c = record { start = c.start; goal = c.goal; path = vec_items c.path }

unfoldable pub routes_of : List Carrier → List Route
routes_of cs = map route_of cs

abbrev pub plan_of : ReadPlan → Plan
plan_of p = record {
  floor = layout_of p.floor;
  carriers = routes_in (vec_items p.tables.entries) (vec_items p.tables.rows) p.carriers;
}
