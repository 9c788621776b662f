-- A rail floor: so many places, and a list of legs.
use Rattle.std.specs.Prelude.{ℕ, ◌+◌, Bool, true, cond, not, ◌&&◌, ◌||◌, List, [], ◌∷◌, length, Some, None, Option, ◌==◌, nat_le, nat_lt}
use Rattle.std.specs.List.{filter}
use Rattle.rail_floor.specs.declared.legs.Leg.{Leg}

-- whether a leg stands above the one before it, by from, then to
abbrev pub above : Option Leg → ℕ → ℕ → Bool
above None from to = true
above (Some leg) from to = nat_lt leg.from from || (leg.from == from && nat_lt leg.to to)

-- whether a leg leads to another place, and stands above the one before it
abbrev pub in_order : Option Leg → ℕ → ℕ → Bool
in_order before from to = not (from == to) && above before from to

-- a leg that may stand behind another on a floor of so many places
abbrev pub fits_leg : ℕ → Option Leg → Leg → Bool
fits_leg places before leg =
    nat_lt leg.from places && (nat_lt leg.to places && (in_order before leg.from leg.to && (nat_le 1 leg.length && nat_le leg.length 65535)))

-- each leg may stand behind the one before it; `before` is the one before the first
unfoldable pub fits_legs : ℕ → Option Leg → List Leg → Bool
fits_legs places before [] = true
fits_legs places before (leg ∷ legs) = fits_leg places before leg && fits_legs places (Some leg) legs

-- 1 to 1,024 places, and at most 4,096 legs
abbrev pub fits_rail : ℕ → List Leg → Bool
fits_rail places legs = nat_le 1 places && (nat_le places 1024 && (nat_le (length legs) 4096 && fits_legs places None legs))

-- the legs from a place
abbrev pub legs_at : List Leg → ℕ → List Leg
legs_at legs place = filter (λ leg. leg.from == place) legs

-- where the legs from a place lead
unfoldable pub exits_of : List Leg → ℕ → List ℕ
exits_of [] place = []
exits_of (leg ∷ legs) place = cond (leg.from == place) (leg.to ∷ exits_of legs place) (exits_of legs place)

-- how long the leg between two places is, if one leads there
unfoldable pub length_of : List Leg → ℕ → ℕ → Option ℕ
length_of [] from to = None
length_of (leg ∷ legs) from to = cond (leg.from == from && leg.to == to) (Some leg.length) (length_of legs from to)

-- how many legs begin below a place: where the legs from this place begin in the list
unfoldable pub below : List Leg → ℕ → ℕ
below [] place = 0
below (leg ∷ legs) place = cond (nat_lt leg.from place) 1 0 + below legs place
