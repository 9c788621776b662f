use Rattle.std.proofs.Common.{rules}
use Rattle.std.proofs.lemmas.Iterator.{YieldsList-from_slice}
use Rattle.std.proofs.lemmas.Iterator.Adapters.{option_map_id}
use Rattle.std.proofs.lemmas.Iterator.Consumers.{YieldsList-from_filter_map, nth_from_yields_List}
use Rattle.hall_floor.specs.Halls.{over, sides, hall_exits}
use Rattle.hall_floor.specs.Held.{hall_of}
use Rattle.hall_floor.proofs.questions.HallFloorFloor.exit.Goals as goal

pub returns : goal.returns
unfolding hall_exits
returns c =
    let reached = nth_from_yields_List c.nth.result c.nth.new.self c.from.result c.nth.ensures.ran
    (YieldsList-from_filter_map _ (over (hall_of c.args.self.now) c.args.place) (YieldsList-from_slice sides cc) c.filter_map.ensures.closure (λ x r q k. search rules)) in
    search (rules, option_map_id)
