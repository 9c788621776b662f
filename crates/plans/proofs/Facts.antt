-- What a read plan's invariant says.
use Rattle.std.proofs.Common.{◌≡◌, ℕ, ◌+◌, ◌-◌, ◌≤◌, true, List, length, get_or, take, drop, Some, Option, Bor, vec_items, sym, ap, ◌∙◌, arith}
use Rattle.std.proofs.lemmas.List.{length-map, length-take-le, take_at, take-take}
use Rattle.std.proofs.lemmas.Option.{slice_get-map, slice_get-get_or, unwrap_or-slice_get}
use Rattle.std.specs.Option.{MatchOption, option_map, option_copied, unwrap_or}
use Rattle.std.proofs.lemmas.Bool.{and_parts}
use Rattle.std.specs.List.{slice_get, All}
use Rattle.store_floor.specs.Layout.{places, fits_layout}
use Rattle.plans.specs.declared.plans.ReadPlan.{ReadPlan}
use Rattle.plans.specs.declared.rows.CarrierRow.{CarrierRow}
use Rattle.plans.specs.Plan.{Route, nobody, carrier, entries_of, fits_carriers}
use Rattle.plans.specs.Tables.{rows_of, route_at, routes_in}
use Rattle.plans.specs.Held.{plan_of}
use Rattle.plans.proofs.Routes.{rows_length}
use Rattle.plans.proofs.Formed.{few_entries}
use Rattle.plans.proofs.Tabled.{row_within, last_row}

module _ (p : ReadPlan) where
  pub carriers_count : length (plan_of p).carriers ≡ p.carriers
  unfolding routes_in
  carriers_count =
      length-map (take p.carriers (vec_items p.tables.rows)) (route_at (vec_items p.tables.entries))
      ∙ length-take-le p.carriers (vec_items p.tables.rows) (omega (arith, p.few, p.tables.tall, p.tables.rows.ok.0))

  carriers_fit : fits_carriers (places (plan_of p).floor) (plan_of p).carriers ≡ true
  carriers_fit = (and_parts (fits_layout (plan_of p).floor) _ p.fit).1

  pub entries_few : length (entries_of (plan_of p).carriers) ≤ 2048
  entries_few = few_entries (places (plan_of p).floor) (plan_of p).carriers carriers_fit

  -- the rows of the carriers
  carrier_rows : take p.carriers (vec_items p.tables.rows) ≡ rows_of 0 (plan_of p).carriers
  carrier_rows =
      sym (take-take p.carriers 32 (vec_items p.tables.rows) p.few)
      ∙ ap (take p.carriers) p.rowed
      ∙ take_at (rows_of 0 (plan_of p).carriers) _ p.carriers (rows_length 0 (plan_of p).carriers ∙ carriers_count)

  -- the carrier that a row says
  pub carrier_is : (c : ℕ) (row : Option CarrierRow) → row ≡ slice_get (take p.carriers (vec_items p.tables.rows)) c → carrier (plan_of p) c ≡ unwrap_or (option_map (route_at (vec_items p.tables.entries)) row) nobody
  unfolding routes_in
  carrier_is c row e =
      sym (unwrap_or-slice_get (plan_of p).carriers c nobody)
      ∙ ap (λ (r : Option Route). unwrap_or r nobody) (slice_get-map (route_at (vec_items p.tables.entries)) (take p.carriers (vec_items p.tables.rows)) c ∙ ap (option_map (route_at (vec_items p.tables.entries))) (sym e))

  -- the path that a row says, where it stands among the entries
  pub path_is : (c : ℕ) (row : CarrierRow) (entries : List ℕ) (before count : ℕ) → Some row ≡ slice_get (take p.carriers (vec_items p.tables.rows)) c → row.before + row.count ≤ 2048
      → entries ≡ vec_items p.tables.entries → before ≡ row.before → count ≡ row.count → take count (take (length entries - before) (drop before entries)) ≡ (carrier (plan_of p) c).path
  path_is c row entries before count s w e b n =
      take-take count _ _ (omega (arith, w, b, n, ap length e, p.tables.long, p.tables.entries.ok.0))
      ∙ (λ i. take (n i) (drop (b i) (e i)))
      ∙ sym (ap (λ (r : Route). r.path) (carrier_is c (Some row) s))

  pub rows_within : (rows : List CarrierRow) → rows ≡ take p.carriers (vec_items p.tables.rows) → All (λ (row : CarrierRow). row.before + row.count ≤ 2048) rows
  rows_within rows e k d h =
      omega (arith, row_within 0 (plan_of p).carriers k (get_or rows k d) (ap (λ rows. slice_get rows k) (sym (e ∙ carrier_rows)) ∙ slice_get-get_or rows k d h), entries_few)

  -- the path of the last carrier ends where all end
  pub last_ends : (last : Option (Bor CarrierRow)) (n : ℕ) → option_copied last ≡ slice_get (take p.carriers (vec_items p.tables.rows)) (length (take p.carriers (vec_items p.tables.rows)) - 1)
      → MatchOption last (n ≡ 0) (λ row. n ≡ row.now.before + row.now.count) → n ≡ length (entries_of (plan_of p).carriers)
  last_ends last n e m = last_row (plan_of p).carriers last n (e ∙ ap (λ rows. slice_get rows (length rows - 1)) carrier_rows) m
