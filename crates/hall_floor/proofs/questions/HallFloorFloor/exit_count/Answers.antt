use Rattle.std.proofs.Common.{◌<◌, ◌+◌, cond, is_some, rules, tests, arith}
use Rattle.std.proofs.lemmas.Grind.{common_steps}
use Rattle.std.proofs.lemmas.Iterator.{YieldsList-from_slice}
use Rattle.std.proofs.lemmas.Iterator.Adapters.{serves_from_total}
use Rattle.std.proofs.lemmas.Iterator.Consumers.{fold_from_yields_List}
use Rattle.hall_floor.specs.Halls.{over, sides}
use Rattle.hall_floor.specs.Held.{hall_of}
use Rattle.hall_floor.proofs.Counted.{hall_counted, exits_few}
use Rattle.hall_floor.proofs.questions.HallFloorFloor.exit_count.Goals as goal

pub fold-requires-clause-callable : goal.fold-requires-clause-callable
fold-requires-clause-callable c =
    let h = hall_of c.args.self.now in
    let p = c.args.place in
    serves_from_total (YieldsList-from_slice sides cc) (λ side. cond (is_some (over h p side)) 1 0) (λ n x q k. search (rules, tests))
    (λ n x k. let below : n < 65535 = omega (arith, k, exits_few h p) in search (rules, common_steps))

pub returns : goal.returns
returns c =
    let h = hall_of c.args.self.now in
    let p = c.args.place in
    let total = fold_from_yields_List _ (λ n side. n + cond (is_some (over h p side)) 1 0) _ c.fold.result c.fold.ensures.ran
    (YieldsList-from_slice sides cc) (λ a x b q k. search (rules, tests)) in
    omega (arith, total, hall_counted h p)
