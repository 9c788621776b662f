-- A board kept by carriers: for each carrier its cells, each with a place or with none.
use Rattle.std.specs.Prelude.{◌≡◌, ℕ, ◌<◌, Bool, List, [], length, map, Some, None, Option, nat_eq, slice_index_or, position}
use Rattle.std.specs.List.{list_any, range_with_len}
use Rattle.std.specs.Option.{option_eq}
use Rattle.boards.specs.Holders.{AllBelow}

-- a carrier's cells
abbrev pub cells_of : List (List (Option ℕ)) → ℕ → List (Option ℕ)
cells_of cells carrier = slice_index_or cells carrier []

-- what one cell of a carrier has
abbrev pub in_cell : List (List (Option ℕ)) → ℕ → ℕ → Option ℕ
in_cell cells carrier i = slice_index_or (cells_of cells carrier) i None

-- whether one of a carrier's cells has the place
abbrev pub has_place : List (Option ℕ) → ℕ → Bool
has_place own place = list_any (λ cell. option_eq nat_eq cell (Some place)) own

-- the first carrier with a cell that has the place
abbrev pub carrier_of : List (List (Option ℕ)) → ℕ → Option ℕ
carrier_of cells place = position (λ own. has_place own place) cells

-- the holders that the cells give a board of n places: of each place, the carrier that has it
unfoldable pub spread : ℕ → List (List (Option ℕ)) → List (Option ℕ)
spread n cells = map (carrier_of cells) (range_with_len 0 n)

-- each carrier has two cells
abbrev pub Pairs : List (List (Option ℕ)) → Type 0
Pairs cells = (carrier : ℕ) → carrier < length cells → length (cells_of cells carrier) ≡ 2

-- each place in a cell is below n
abbrev pub Within : ℕ → List (List (Option ℕ)) → Type 0
Within n cells = (carrier : ℕ) → AllBelow n (cells_of cells carrier)

-- two cells with the same place are one cell
abbrev pub Apart : List (List (Option ℕ)) → Type 0
Apart cells =
    (c d i j place : ℕ) → in_cell cells c i ≡ Some place → in_cell cells d j ≡ Some place → (c ≡ d) × (i ≡ j)
