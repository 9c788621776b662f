-- A hall: cells in rows and columns, numbered row by row, some of them blocked.
use Rattle.std.specs.Prelude.{ℕ, ◌+◌, ◌-◌, ◌*◌, ◌/◌, ◌%◌, ◌^◌, Bool, cond, not, ◌&&◌, List, [], ◌∷◌, length, Some, None, Option, ◌==◌, nat_eq, nat_le, nat_lt, slice_index}
use Rattle.std.specs.List.{filter_map, find}
use Rattle.std.specs.Option.{option_eq, option_map}
use Rattle.hall_floor.specs.declared.sides.Side.{Side}
use Rattle.hall_floor.specs.declared.sides.Side.TheVariants.{North, West, East, South}

-- so many columns and rows, the pitches in decimetres, and one bit a cell, 1 for blocked
pub record Hall : Type 0 where
  pub width : ℕ
  pub height : ℕ
  pub across : ℕ
  pub down : ℕ
  pub blocked : List ℕ

-- how many cells a hall has
abbrev pub cells : Hall → ℕ
cells h = h.width * h.height

-- how many bytes have a bit for each of so many cells
abbrev pub bytes_for : ℕ → ℕ
bytes_for n = (n + 7) / 8

-- the bits of the last byte that are no cell's are 0
abbrev pub spare_free : ℕ → List ℕ → Bool
spare_free n bytes = nat_lt (slice_index bytes (bytes_for n - 1)) (2 ^ ((n - 1) % 8 + 1))

-- 1 to 1,024 columns and rows, at most 1,024 cells, pitches of 1 to 65,535, and a bit for each cell
abbrev pub fits_hall : Hall → Bool
fits_hall h =
    nat_le 1 h.width && (nat_le h.width 1024 && (nat_le 1 h.height && (nat_le h.height 1024 && (nat_le (cells h) 1024
    && (nat_le 1 h.across && (nat_le h.across 65535 && (nat_le 1 h.down && (nat_le h.down 65535
    && (length h.blocked == bytes_for (cells h) && spare_free (cells h) h.blocked)))))))))

-- cell c is bit c mod 8, bit 0 the lowest, of byte c div 8
abbrev pub is_blocked : Hall → ℕ → Bool
is_blocked h c = slice_index h.blocked (c / 8) / 2 ^ (c % 8) % 2 == 1

-- a cell of the hall that is not blocked
unfoldable pub is_open : Hall → ℕ → Bool
is_open h c = nat_lt c (cells h) && not (is_blocked h c)

-- the cell beyond a side of a cell, if there is one
abbrev pub beyond : Hall → ℕ → Side → Option ℕ
beyond h c North = cond (nat_le h.width c) (Some (c - h.width)) None
beyond h c West = cond (c % h.width == 0) None (Some (c - 1))
beyond h c East = cond (nat_lt (c % h.width + 1) h.width) (Some (c + 1)) None
beyond h c South = cond (nat_lt (c + h.width) (cells h)) (Some (c + h.width)) None

-- a cell, if it is open
abbrev pub if_open : Hall → Option ℕ → Option ℕ
if_open h None = None
if_open h (Some c) = cond (is_open h c) (Some c) None

-- where a leg over a side of a cell leads, if one does: both cells are open
unfoldable pub over : Hall → ℕ → Side → Option ℕ
over h c side = cond (is_open h c) (if_open h (beyond h c side)) None

-- the sides in the order in which the cells beyond them rise
abbrev pub sides : List Side
sides = North ∷ West ∷ East ∷ South ∷ []

-- where the legs over these sides of a cell lead
abbrev pub exits_over : Hall → ℕ → List Side → List ℕ
exits_over h c ss = filter_map (over h c) ss

-- the cells to which the legs of a cell lead
unfoldable pub hall_exits : Hall → ℕ → List ℕ
hall_exits h c = exits_over h c sides

-- the pitch between two cells that share a side
abbrev pub pitch : Hall → Side → ℕ
pitch h North = h.down
pitch h West = h.across
pitch h East = h.across
pitch h South = h.down

-- whether there is a cell, and it is this one
abbrev pub is_cell : Option ℕ → ℕ → Bool
is_cell o c = option_eq nat_eq o (Some c)

-- how long the leg over one of these sides of a cell to another cell is, if one leads there
abbrev pub length_over : Hall → ℕ → ℕ → List Side → Option ℕ
length_over h c d ss = option_map (pitch h) (find (λ side. is_cell (over h c side) d) ss)

-- how long the leg from a cell to another is, if one leads there
unfoldable pub hall_length : Hall → ℕ → ℕ → Option ℕ
hall_length h c d = length_over h c d sides
