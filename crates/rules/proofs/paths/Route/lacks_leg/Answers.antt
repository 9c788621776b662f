use Rattle.std.proofs.Common.{◌≡◌, suc, Bool, true, false, not, is_some, slice_index, sym, refl, ap, ◌∙◌, add-one}
use Rattle.store_floor.specs.Layout.{leg_length}
use Rattle.store_floor.specs.Held.{layout_of}
use Rattle.store_floor.specs.Either.{lengths_led}
use Rattle.rules.proofs.paths.Route.lacks_leg.Goals as goal

twice_not : (b : Bool) → b ≡ not (not b)
twice_not true = refl
twice_not false = refl

pub returns : goal.returns
returns c =
    let xs = c.args.self.now.path.now in
    let t = c.args.t in
    let u = c.end.ensures ∙ ap (slice_index xs) (add-one t) in
    let l = c.length.ensures ∙ (λ i. leg_length (layout_of c.args.floor.now) (c.entry.ensures i) (u i)) in
    twice_not c.is_none.result ∙ ap not (sym c.is_none.ensures ∙ (ap is_some l ∙ lengths_led (layout_of c.args.floor.now) (slice_index xs t) (slice_index xs (suc t))))
