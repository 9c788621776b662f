use Rattle.std.proofs.Common.{Bor, refl, ap, ◌∙◌, rules, tests}
use Rattle.std.proofs.iter.Yields.{fronts}
use Rattle.std.proofs.lemmas.Iterator.{YieldsList-from_slice}
use Rattle.std.specs.Option.{is_some}
use Rattle.floors.proofs.Tried.{tried_from_try_fold}
use Rattle.plans.specs.declared.carriers.Carrier.{Carrier}
use Rattle.plans.proofs.Room.{room_behind, behind_is, room_left}
use Rattle.plans.proofs.fit.paths_fit.Goals as goal

pub returns : goal.returns
returns c =
    let k = c.try_fold.ensures.ran in
    c.is_some.ensures
    ∙ (ap is_some
    (tried_from_try_fold _ fronts (λ (y : Bor Carrier). y.now) _ _ room_behind (λ room x left q h. (search (rules, tests), behind_is room x.now left (search (rules, tests)))) k.0 c.args.carriers.now (_, 2048) _
    c.iter.result k.4.0 c.try_fold.new.self k.1 c.try_fold.result refl (YieldsList-from_slice {s = c.iter.result} c.args.carriers.now cc).runs k.4.1 k.4.2 k.5 k.6)
    ∙ room_left 2048 c.args.carriers.now)
