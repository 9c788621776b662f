use Rattle.std.proofs.Common.{None, length, sym, ap, arith}
use Rattle.rail_floor.specs.Held.{legs_of}
use Rattle.rail_floor.specs.Ordered.{rail_fit}
use Rattle.rail_floor.proofs.Indexed.{below_next, legs_at_part, legs_beyond}
use Rattle.rail_floor.proofs.rail.RailFloor.part_of.Goals as goal

pub returns-then-place-self-clause-legs : goal.returns-then-place-self-clause-legs
returns-then-place-self-clause-legs c =
    let f = c.args.self.now in
    sym (legs_beyond f.places None (legs_of f) c.args.place (rail_fit _ _ f.fit).order (omega arith))

pub returns-then-place-self-clause-count : goal.returns-then-place-self-clause-count
returns-then-place-self-clause-count c =
    let f = c.args.self.now in
    omega (arith, ap length (legs_beyond f.places None (legs_of f) c.args.place (rail_fit _ _ f.fit).order (omega arith)))

pub returns-clause-legs : goal.returns-clause-legs
returns-clause-legs c =
    let f = c.args.self.now in
    let part = legs_at_part f.places None (legs_of f) c.args.place (rail_fit _ _ f.fit).order in
    let next = below_next (legs_of f) c.args.place in
    grind (arith)
