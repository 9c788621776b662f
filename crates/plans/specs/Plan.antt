-- A plan: a floor, and carriers, numbered from 0, each with start, goal and path.
use Rattle.std.specs.Prelude.{ℕ, Bool, ◌&&◌, List, [], length, nat_le, nat_lt, slice_index_or}
use Rattle.std.specs.List.{list_all, flat_map}
use Rattle.store_floor.specs.Layout.{Layout, places, fits_layout}

-- a carrier; its path is a list of places, empty if it has none
pub record Route : Type 0 where
  pub start : ℕ
  pub goal : ℕ
  pub path : List ℕ

pub record Plan : Type 0 where
  pub floor : Layout
  pub carriers : List Route

-- the paths of carriers, one behind another
unfoldable pub entries_of : List Route → List ℕ
entries_of rs = flat_map (λ r. r.path) rs

-- whether each entry is a place of a floor of so many places
unfoldable pub within : ℕ → List ℕ → Bool
within n path = list_all (λ entry. nat_lt entry n) path

-- whether start, goal and each entry of a carrier is a place of the floor
abbrev pub on_floor : ℕ → Route → Bool
on_floor n r = nat_lt r.start n && (nat_lt r.goal n && within n r.path)

unfoldable pub all_on_floor : ℕ → List Route → Bool
all_on_floor n rs = list_all (on_floor n) rs

-- at most 32 carriers, at most 2,048 entries in all, and each start, goal and entry a place of the floor
abbrev pub fits_carriers : ℕ → List Route → Bool
fits_carriers n rs = nat_le (length rs) 32 && (nat_le (length (entries_of rs)) 2048 && all_on_floor n rs)

-- a plan that keeps to the bounds of floors and carriers
abbrev pub fits : Plan → Bool
fits p = fits_layout p.floor && fits_carriers (places p.floor) p.carriers

-- no carrier: what an unknown carrier's start, goal and path are taken for
abbrev pub nobody : Route
nobody = record { start = 0; goal = 0; path = [] }

-- carrier c of a plan
abbrev pub carrier : Plan → ℕ → Route
carrier p c = slice_index_or p.carriers c nobody
