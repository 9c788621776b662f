use Rattle.std.proofs.Common.{◌≡◌, true, Ok, Err, IsOk, Result, vec_items, refl, rules}
use Rattle.floors.specs.declared.faults.FloorFault.{FloorFault}
use Rattle.floors.specs.declared.faults.FloorFault.TheVariants.{Unfit, Memory}
use Rattle.hall_floor.specs.declared.hall.HallFloor.{HallFloor}
use Rattle.hall_floor.specs.Halls.{Hall, fits_hall}
use Rattle.hall_floor.specs.Held.{MakesHall}
use Rattle.store_floor.specs.Layout.{cellular}
use Rattle.files.specs.Parse.{hall_at}
use Rattle.files.proofs.Numbered.{true_false}
use Rattle.files.proofs.Whole.{hall_ok}
use Rattle.files.proofs.hall.read_hall.Goals as goal

-- a hall that fits is made
made : (h : Hall) (r : Result HallFloor FloorFault) → MakesHall h r → fits_hall h ≡ true → IsOk r
made h (Ok f) m fit = refl
made h (Err Unfit) m fit = absurd (true_false fit m.0)
made h (Err Memory) m fit = absurd (m.1 refl)

pub unwrap-requires : goal.unwrap-requires
unfolding hall_at
unwrap-requires c =
    let h : Hall = record { width = c.in_ok-width.width; height = c.in_ok-height.height; across = c.in_ok-across.across; down = c.in_ok-down.down; blocked = vec_items c.in_ok-blocked.blocked } in
    let v : hall_at c.args.cursor.now.bytes ≡ Ok (cellular h) = search rules in
    made h c.new.result c.new.ensures (hall_ok c.args.cursor.now.bytes _ v).fit
