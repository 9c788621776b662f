-- What holds of the layout of either kind of floor, by what holds of each kind.
use Rattle.std.specs.Prelude.{◌≡◌, ℕ, ◌<◌, ◌≤◌, true, false, [], is_some, Some, None}
use Rattle.floors.specs.Exits.{Rises, has}
use Rattle.rail_floor.specs.Ordered as rail
use Rattle.hall_floor.specs.Fitting as hall
use Rattle.hall_floor.specs.Legs as hall_legs
use Rattle.store_floor.specs.declared.store.StoreFloor.{StoreFloor}
use Rattle.store_floor.specs.declared.store.StoreFloor.TheVariants.{Rail, Hall}
use Rattle.store_floor.specs.Layout.{Layout, rails, cellular, places, fits_layout, exits_from, leg_length}
use Rattle.store_floor.specs.Held.{layout_of}

pub layout_fits : (f : StoreFloor) → fits_layout (layout_of f) ≡ true
layout_fits (Rail f) = f.fit
layout_fits (Hall f) = f.fit

pub places_some : (l : Layout) → fits_layout l ≡ true → 1 ≤ places l
places_some (rails n legs) fit = (rail.rail_fit n legs fit).some
places_some (cellular h) fit = hall.cells_some h fit

pub places_most : (l : Layout) → fits_layout l ≡ true → places l ≤ 1024
places_most (rails n legs) fit = (rail.rail_fit n legs fit).most
places_most (cellular h) fit = hall.cells_most h fit

pub exits_rise : (l : Layout) → fits_layout l ≡ true → (p : ℕ) → Rises (exits_from l p)
exits_rise (rails n legs) fit p = (rail.exits_sorted n None legs p (rail.rail_fit n legs fit).order).rises
exits_rise (cellular h) fit p = let some = hall.width_some h fit in hall_legs.exits_rise h some (hall_legs.over_lies h some) p

pub exits_inside : (l : Layout) → fits_layout l ≡ true → (p q : ℕ) → has q (exits_from l p) ≡ true → q < places l
exits_inside (rails n legs) fit p q e = rail.exits_inside n None legs p q (rail.rail_fit n legs fit).order e
exits_inside (cellular h) fit p q e = hall_legs.exits_inside h p q e

pub exits_away : (l : Layout) → fits_layout l ≡ true → (p : ℕ) → has p (exits_from l p) ≡ false
exits_away (rails n legs) fit p = rail.exits_away n None legs p (rail.rail_fit n legs fit).order
exits_away (cellular h) fit p = let some = hall.width_some h fit in hall_legs.exits_away h some (hall_legs.over_lies h some) p

pub exits_beyond : (l : Layout) → fits_layout l ≡ true → (p : ℕ) → places l ≤ p → exits_from l p ≡ []
exits_beyond (rails n legs) fit p outside = rail.exits_beyond n None legs p (rail.rail_fit n legs fit).order outside
exits_beyond (cellular h) fit p outside = hall_legs.exits_beyond h p outside

pub lengths_led : (l : Layout) (p q : ℕ) → is_some (leg_length l p q) ≡ has q (exits_from l p)
lengths_led (rails n legs) p q = rail.length-led legs p q
lengths_led (cellular h) p q = hall_legs.lengths_led h p q

pub lengths_some : (l : Layout) → fits_layout l ≡ true → (p q d : ℕ) → leg_length l p q ≡ Some d → 1 ≤ d
lengths_some (rails n legs) fit p q d e = rail.length_long n None legs p q d (rail.rail_fit n legs fit).order e
lengths_some (cellular h) fit p q d e = hall_legs.lengths_some h fit p q d e

pub lengths_most : (l : Layout) → fits_layout l ≡ true → (p q d : ℕ) → leg_length l p q ≡ Some d → d ≤ 65535
lengths_most (rails n legs) fit p q d e = rail.length_short n None legs p q d (rail.rail_fit n legs fit).order e
lengths_most (cellular h) fit p q d e = hall_legs.lengths_most h fit p q d e
