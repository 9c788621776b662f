-- Tables into which carriers were laid hold these carriers.
use Rattle.std.proofs.Common.{◌≡◌, ℕ, ◌≤◌, true, List, ◌++◌, length, take, drop, vec_items, sym, ap, ◌∙◌, arith}
use Rattle.std.proofs.lemmas.List.{take_at}
use Rattle.std.proofs.lemmas.Bool.{and_from}
use Rattle.std.proofs.lemmas.Bool.Decides.{nat_tests}
use Rattle.store_floor.specs.declared.store.StoreFloor.{StoreFloor}
use Rattle.store_floor.specs.Layout.{places}
use Rattle.store_floor.specs.Held.{layout_of}
use Rattle.store_floor.specs.Either.{layout_fits}
use Rattle.plans.specs.declared.carriers.Carrier.{Carrier}
use Rattle.plans.specs.declared.tables.Tables.{Tables}
use Rattle.plans.specs.Plan.{Route, entries_of, fits_carriers, fits}
use Rattle.plans.specs.Tables.{no_row, rows_of, entry_table, row_table, routes_in}
use Rattle.plans.specs.Held.{routes_of}
use Rattle.plans.proofs.Routes.{routes_length, rows_length}
use Rattle.plans.proofs.Tabled.{filled_length, routes_back}

module _ (n : ℕ) (rs : List Route) (fit : fits_carriers n rs ≡ true) where
  pub few_carriers : length rs ≤ 32
  few_carriers = grind (arith, nat_tests)

  pub few_entries : length (entries_of rs) ≤ 2048
  few_entries = grind (arith, nat_tests)

-- what is known of tables after carriers that fit a floor were laid into them
module _ (floor : StoreFloor) (cs : List Carrier) (n : ℕ) (t t' : Tables) (fit : fits_carriers (places (layout_of floor)) (routes_of cs) ≡ true) (k : n ≡ length cs)
    (e : vec_items t'.entries ≡ entry_table (routes_of cs) ++ drop 2048 (vec_items t.entries))
    (r : vec_items t'.rows ≡ row_table (routes_of cs) ++ drop 32 (vec_items t.rows)) where
  pub carriers_held : routes_in (vec_items t'.entries) (vec_items t'.rows) n ≡ routes_of cs
  carriers_held = (λ i. routes_in (e i) (r i) ((k ∙ sym (routes_length cs)) i)) ∙ routes_back (routes_of cs) (drop 2048 (vec_items t.entries)) (drop 32 (vec_items t.rows))

  pub plan_fits : fits (record { floor = layout_of floor; carriers = routes_in (vec_items t'.entries) (vec_items t'.rows) n }) ≡ true
  plan_fits = rw carriers_held (and_from _ _ (layout_fits floor) fit)

  pub entries_laid : take 2048 (vec_items t'.entries) ≡ entry_table (routes_in (vec_items t'.entries) (vec_items t'.rows) n)
  entries_laid =
      ap (take 2048) e
      ∙ take_at (entry_table (routes_of cs)) (drop 2048 (vec_items t.entries)) 2048 (filled_length 2048 0 (entries_of (routes_of cs)) (few_entries (places (layout_of floor)) (routes_of cs) fit))
      ∙ ap entry_table (sym carriers_held)

  pub rows_laid : take 32 (vec_items t'.rows) ≡ row_table (routes_in (vec_items t'.entries) (vec_items t'.rows) n)
  rows_laid =
      let few : length (rows_of 0 (routes_of cs)) ≤ 32 = omega (arith, rows_length 0 (routes_of cs), few_carriers (places (layout_of floor)) (routes_of cs) fit) in
      ap (take 32) r
      ∙ take_at (row_table (routes_of cs)) (drop 32 (vec_items t.rows)) 32 (filled_length 32 no_row (rows_of 0 (routes_of cs)) few)
      ∙ ap row_table (sym carriers_held)
