-- The legs of a hall join, both ways, exactly the open cells that share a side.
use Rattle.std.specs.Prelude.{◌≡◌, ℕ, ◌+◌, ◌/◌, ◌%◌, ◌<◌, true, false, ◌⊎◌, ◌↔◌, Some}
use Rattle.floors.specs.Exits.{has}
use Rattle.hall_floor.specs.Halls.{Hall, cells, fits_hall, is_blocked, hall_exits, hall_length}

-- one number is next to the other
abbrev pub Next : ℕ → ℕ → Type 0
Next m n = (m + 1 ≡ n) ⊎ (n + 1 ≡ m)

-- cells of one row, in columns next to each other
abbrev pub SideBySide : Hall → ℕ → ℕ → Type 0
SideBySide h c d = (c / h.width ≡ d / h.width) × Next (c % h.width) (d % h.width)

-- cells of one column, in rows next to each other
abbrev pub OneBelowOther : Hall → ℕ → ℕ → Type 0
OneBelowOther h c d = (c % h.width ≡ d % h.width) × Next (c / h.width) (d / h.width)

-- a cell of the hall that is not blocked
abbrev pub Open : Hall → ℕ → Type 0
Open h c = (c < cells h) × (is_blocked h c ≡ false)

-- a leg leads from a cell to another exactly where both are open and share a side
abbrev pub LegsJoinNeighbours : Type 0
LegsJoinNeighbours =
    (h : Hall) → fits_hall h ≡ true → (c d : ℕ) →
    (has d (hall_exits h c) ≡ true) ↔ (Open h c × Open h d × (SideBySide h c d ⊎ OneBelowOther h c d))

-- and it is as long as the pitch across within a row, and the pitch down within a column
abbrev pub LengthsArePitches : Type 0
LengthsArePitches =
    (h : Hall) → fits_hall h ≡ true → (c d : ℕ) → has d (hall_exits h c) ≡ true →
    (SideBySide h c d → hall_length h c d ≡ Some h.across) × (OneBelowOther h c d → hall_length h c d ≡ Some h.down)
