-- What a hall floor holds.
use Rattle.std.specs.Prelude.{◌≡◌, Err, vec_items, Result, ◌≢◌}
use Rattle.floors.specs.declared.faults.FloorFault.{FloorFault}
use Rattle.floors.specs.declared.faults.FloorFault.TheVariants.{Memory}
use Rattle.floors.specs.Made.{Makes}
use Rattle.hall_floor.specs.declared.hall.HallFloor.{HallFloor}
use Rattle.hall_floor.specs.Halls.{Hall, fits_hall}

-- the hall that a floor holds
abbrev pub hall_of : HallFloor → Hall
hall_of f = record { width = f.width; height = f.height; across = f.across; down = f.down; blocked = vec_items f.blocked }

-- a floor of this hall
abbrev pub IsHall : Hall → HallFloor → Type 0
IsHall h f = hall_of f ≡ h

-- what a call answers that makes a floor of a hall: the floor where the hall fits, and else that it is unfit.
-- It takes no memory, so it is never refused for want of memory.
abbrev pub MakesHall : Hall → Result HallFloor FloorFault → Type 0
MakesHall h r = Makes (fits_hall h) (IsHall h) r × (r ≢ Err Memory)
