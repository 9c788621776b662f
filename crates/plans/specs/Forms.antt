-- What becomes of a floor, carriers and tables.
use Rattle.std.specs.Prelude.{◌≡◌, true, false, List, ◌++◌, drop, Ok, Err, vec_items, Result}
use Rattle.store_floor.specs.declared.store.StoreFloor.{StoreFloor}
use Rattle.store_floor.specs.Layout.{places}
use Rattle.store_floor.specs.Held.{layout_of}
use Rattle.plans.specs.declared.plans.Misfit.{Misfit}
use Rattle.plans.specs.declared.plans.ReadPlan.{ReadPlan}
use Rattle.plans.specs.declared.tables.Tables.{Tables}
use Rattle.plans.specs.Plan.{Route, fits_carriers}
use Rattle.plans.specs.Tables.{entry_table, row_table}
use Rattle.plans.specs.Held.{plan_of}

-- a plan of this floor and these carriers, laid into these tables; longer tables keep their rest
pub record Laid (floor : StoreFloor) (carriers : List Route) (tables : Tables) (p : ReadPlan) : Type 0 where
  pub floor_is : p.floor ≡ floor
  pub plan_is : plan_of p ≡ record { floor = layout_of floor; carriers = carriers }
  pub entries_are : vec_items p.tables.entries ≡ entry_table carriers ++ drop 2048 (vec_items tables.entries)
  pub rows_are : vec_items p.tables.rows ≡ row_table carriers ++ drop 32 (vec_items tables.rows)

-- carriers that fit the floor make a plan; else floor and tables are handed back as they were
abbrev pub Forms : StoreFloor → List Route → Tables → Result ReadPlan Misfit → Type 0
Forms floor carriers tables (Ok p) = (fits_carriers (places (layout_of floor)) carriers ≡ true) × Laid floor carriers tables p
Forms floor carriers tables (Err m) = (fits_carriers (places (layout_of floor)) carriers ≡ false) × (m.floor ≡ floor) × (m.tables ≡ tables)
