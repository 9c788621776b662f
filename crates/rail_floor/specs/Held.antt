-- What a rail floor holds.
use Rattle.std.specs.Prelude.{◌≡◌, ℕ, List, vec_items}
use Rattle.rail_floor.specs.declared.legs.Leg.{Leg}
use Rattle.rail_floor.specs.declared.rail.RailFloor.{RailFloor}

-- how many places it has
abbrev pub places_of : RailFloor → ℕ
places_of f = f.places

-- its legs, in order
abbrev pub legs_of : RailFloor → List Leg
legs_of f = vec_items f.legs

-- a rail floor of these places and legs
abbrev pub IsRail : ℕ → List Leg → RailFloor → Type 0
IsRail places legs f = (places_of f ≡ places) × (legs_of f ≡ legs)
