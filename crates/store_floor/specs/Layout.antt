-- The layout of a store's floor: rails or a hall.
use Rattle.std.specs.Prelude.{ℕ, Bool, List, Option}
use Rattle.rail_floor.specs.declared.legs.Leg.{Leg}
use Rattle.rail_floor.specs.Rails.{fits_rail, exits_of, length_of}
use Rattle.hall_floor.specs.Halls.{Hall, cells, fits_hall, hall_exits, hall_length}

pub data Layout : Type 0 where
  -- so many places, and the legs between them
  rails : ℕ → List Leg → Layout
  cellular : Hall → Layout

-- how many places it has
abbrev pub places : Layout → ℕ
places (rails n legs) = n
places (cellular h) = cells h

-- whether it keeps to the bounds of its kind
abbrev pub fits_layout : Layout → Bool
fits_layout (rails n legs) = fits_rail n legs
fits_layout (cellular h) = fits_hall h

-- the exits of a place
abbrev pub exits_from : Layout → ℕ → List ℕ
exits_from (rails n legs) place = exits_of legs place
exits_from (cellular h) place = hall_exits h place

-- how long the leg between two places is, if one leads there
abbrev pub leg_length : Layout → ℕ → ℕ → Option ℕ
leg_length (rails n legs) from to = length_of legs from to
leg_length (cellular h) from to = hall_length h from to
