-- The legs of a rail floor are exactly those that it lists.
use Rattle.std.specs.Prelude.{◌≡◌, ℕ, true, ◌↔◌, List, Some}
use Rattle.std.specs.List.{slice_get}
use Rattle.floors.specs.Exits.{has}
use Rattle.rail_floor.specs.declared.legs.Leg.{Leg}
use Rattle.rail_floor.specs.Rails.{fits_rail, exits_of, length_of}

-- a leg from a place to a place, so long, stands in the list
abbrev pub Listed : List Leg → ℕ → ℕ → ℕ → Type 0
Listed legs from to long = (i : ℕ) × (slice_get legs i ≡ Some (record { from = from; to = to; length = long }))

-- a place is an exit of another exactly where a leg there is listed, and the leg there is so long exactly where such a leg is listed
abbrev pub LegsAreListed : Type 0
LegsAreListed =
    (places : ℕ) (legs : List Leg) → fits_rail places legs ≡ true → (from to : ℕ) →
    ((has to (exits_of legs from) ≡ true) ↔ ((long : ℕ) × Listed legs from to long))
    × ((long : ℕ) → (length_of legs from to ≡ Some long) ↔ Listed legs from to long)
