use Rattle.std.proofs.Common.{arith}
use Rattle.rail_floor.specs.Held.{legs_of}
use Rattle.rail_floor.proofs.Indexed.{length-exits_of}
use Rattle.rail_floor.proofs.questions.RailFloorFloor.exit_count.Goals as goal

pub returns : goal.returns
returns c = omega (arith, c.part_of-start.ensures.count, length-exits_of (legs_of c.args.self.now) c.args.place)
