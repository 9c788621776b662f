-- The tables of a plan: paths one behind another, and a row for each carrier.
use Rattle.std.specs.Prelude.{ℕ, ◌+◌, ◌-◌, List, [], ◌∷◌, ◌++◌, map, length, take, drop, replicate}
use Rattle.plans.specs.declared.rows.CarrierRow.{CarrierRow}
use Rattle.plans.specs.Plan.{Route, entries_of}

-- the rows of carriers, where so many entries lie before the first one's path
unfoldable pub rows_of : ℕ → List Route → List CarrierRow
rows_of before [] = []
rows_of before (r ∷ more) =
    record { start = r.start; goal = r.goal; before = before; count = length r.path } ∷ rows_of (before + length r.path) more

abbrev pub no_row : CarrierRow
no_row = record { start = 0; goal = 0; before = 0; count = 0 }

-- filled up to so many
abbrev pub filled : {X : Type 0} → ℕ → X → List X → List X
filled n x xs = xs ++ replicate (n - length xs) x

-- the first 2,048 entries: the paths, and 0 where no path is
abbrev pub entry_table : List Route → List ℕ
entry_table rs = filled 2048 0 (entries_of rs)

-- the first 32 rows: the carriers', and 0 where no carrier is
abbrev pub row_table : List Route → List CarrierRow
row_table rs = filled 32 no_row (rows_of 0 rs)

-- the carrier that a row of the tables says
abbrev pub route_at : List ℕ → CarrierRow → Route
route_at entries row = record { start = row.start; goal = row.goal; path = take row.count (drop row.before entries) }

-- the carriers that the tables hold
unfoldable pub routes_in : List ℕ → List CarrierRow → ℕ → List Route
routes_in entries rows n = map (route_at entries) (take n rows)
