use Rattle.std.proofs.Common.{◌≡◌, ℕ, true, List, Ok, Err, vec_items, refl, rules}
use Rattle.floors.specs.declared.faults.FloorFault.{FloorFault}
use Rattle.floors.specs.declared.faults.FloorFault.TheVariants.{Unfit, Memory}
use Rattle.floors.specs.Made.{Makes}
use Rattle.rail_floor.specs.declared.legs.Leg.{Leg}
use Rattle.rail_floor.specs.Rails.{fits_rail}
use Rattle.rail_floor.specs.Held.{IsRail}
use Rattle.store_floor.specs.Layout.{rails}
use Rattle.files.specs.Parse.{rail_at}
use Rattle.files.proofs.Numbered.{true_false}
use Rattle.files.proofs.Whole.{rail_ok}
use Rattle.files.proofs.rail.read_rail.Goals as goal

-- a floor that fits is refused only for want of memory
for_memory : (size : ℕ) (legs : List Leg) (e : FloorFault) → Makes (fits_rail size legs) (IsRail size legs) (Err e) → fits_rail size legs ≡ true → e ≡ Memory
for_memory size legs Memory m fit = refl
for_memory size legs Unfit m fit = absurd (true_false fit m)

pub map_err-requires : goal.map_err-requires
unfolding rail_at
map_err-requires c =
    let v : rail_at c.args.cursor.now.bytes ≡ Ok (rails c.in_ok-size.size (vec_items c.in_ok-legs.legs)) = search rules in
    let m : (e : FloorFault) → c.new.result ≡ Err e → e ≡ Memory =
    λ e x. for_memory c.in_ok-size.size (vec_items c.in_ok-legs.legs) e (rw x at c.new.ensures) (rail_ok c.args.cursor.now.bytes _ v).fit in
    λ e x. search (rules, m e x)
