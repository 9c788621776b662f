use Rattle.std.proofs.Common.{arith}
use Rattle.std.proofs.lemmas.Grind.{common_steps}
use Rattle.std.proofs.lemmas.Option.{gets}
use Rattle.rail_floor.specs.Held.{legs_of}
use Rattle.rail_floor.proofs.Indexed.{slice_get-exits_of}
use Rattle.rail_floor.proofs.questions.RailFloorFloor.exit.Goals as goal

pub returns : goal.returns
returns c = rw (slice_get-exits_of (legs_of c.args.self.now) c.args.place c.args.i, ← c.legs_from-legs.ensures) (grind (arith, common_steps, gets))
