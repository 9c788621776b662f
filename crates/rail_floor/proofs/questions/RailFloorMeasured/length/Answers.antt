use Rattle.std.proofs.Common.{None, arith, rules}
use Rattle.std.proofs.lemmas.Grind.{common_steps}
use Rattle.std.proofs.lemmas.Option.{gets}
use Rattle.std.proofs.lemmas.List.Sorted.{answers_always}
use Rattle.rail_floor.specs.Held.{legs_of}
use Rattle.rail_floor.specs.Ordered.{rail_fit, exits_sorted}
use Rattle.rail_floor.proofs.Indexed.{exits_of-map}
use Rattle.rail_floor.proofs.Searched.{length_of-find, find_searched}
use Rattle.rail_floor.proofs.questions.RailFloorMeasured.length.Goals as goal

pub returns : goal.returns
returns c =
    let f = c.args.self.now in
    let order = (rail_fit f.places (legs_of f) f.fit).order in
    let rises = rw (exits_of-map (legs_of f) c.args.from) at (exits_sorted f.places None (legs_of f) c.args.from order).rises in
    let found = rw c.legs_from-legs.ensures at c.binary_search_by_key.ensures in
    let first = find_searched _ rises _ (record { from = 0; to = 0; length = 0 }) c.binary_search_by_key.result found.bound
    (found.position (λ leg. leg.to) (answers_always _ _ _ (λ f a r g called. search (rules, arith)))) in
    rw (length_of-find (legs_of f) c.args.from c.args.to, ← c.legs_from-legs.ensures) (grind (arith, common_steps, gets))
