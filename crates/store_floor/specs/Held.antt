-- The layout that a store's floor has.
use Rattle.rail_floor.specs.Held.{places_of, legs_of}
use Rattle.hall_floor.specs.Held.{hall_of}
use Rattle.store_floor.specs.declared.store.StoreFloor.{StoreFloor}
use Rattle.store_floor.specs.declared.store.StoreFloor.TheVariants.{Rail, Hall}
use Rattle.store_floor.specs.Layout.{Layout, rails, cellular}

abbrev pub layout_of : StoreFloor → Layout
layout_of (Rail f) = rails (places_of f) (legs_of f)
layout_of (Hall f) = cellular (hall_of f)
