use Rattle.std.proofs.Common.{None, arith}
use Rattle.std.proofs.lemmas.Option.{slice_get-get_or}
use Rattle.rail_floor.proofs.Indexed.{below_le, below_passed, below_stops}
use Rattle.rail_floor.proofs.build.legs_below.Goals as goal

pub loop-next-preserved : goal.loop-next-preserved
loop-next-preserved c =
    omega (arith, below_passed c.requires.order.0 None c.args.legs.now c.args.place c.loop-next.next _ c.requires.order.1 (slice_get-get_or _ _ _ c.loop-next-test.true) c.if-legs-next.true)

pub returns-else-legs-next-clause-count : goal.returns-else-legs-next-clause-count
returns-else-legs-next-clause-count c =
    omega (arith, below_stops c.requires.order.0 None c.args.legs.now c.args.place c.loop-next.next _ c.requires.order.1 (slice_get-get_or _ _ _ c.loop-next-test.true) c.if-legs-next.false)

pub returns-after-loop-next-clause-count : goal.returns-after-loop-next-clause-count
returns-after-loop-next-clause-count c = omega (arith, below_le c.args.legs.now c.args.place)
