use Rattle.std.proofs.Common.{◌≡◌, Bor, ℕ, Bool, true, false, cond, ◌&&◌, List, [], ◌∷◌, Option, Some, None, is_some, refl, ap, ◌∙◌, rules, tests}
use Rattle.std.proofs.iter.Yields.{fronts}
use Rattle.std.proofs.lemmas.Iterator.{YieldsList-from_slice}
use Rattle.floors.proofs.Tried.{go_on, tried, tried_from_try_fold}
use Rattle.rail_floor.specs.declared.legs.Leg.{Leg}
use Rattle.rail_floor.specs.Rails.{fits_leg, fits_legs}
use Rattle.rail_floor.proofs.build.legs_fit.Goals as goal

-- a leg that fits, to test the next one against
fit_next : ℕ → Option Leg → Leg → Option (Option Leg)
fit_next places before leg = cond (fits_leg places before leg) (Some (Some leg)) None

all_fit : (places : ℕ) (before : Option Leg) (legs : List Leg) → is_some (tried (fit_next places) before legs) ≡ fits_legs places before legs
unfolding tried fits_legs fit_next
all_fit places before [] = refl
all_fit places before (leg ∷ legs) = go (fits_leg places before leg) (all_fit places (Some leg) legs)
  where
    go : (b : Bool) → is_some (tried (fit_next places) (Some leg) legs) ≡ fits_legs places (Some leg) legs
        → is_some (go_on {B = Option Leg} (λ c. tried (fit_next places) c legs) (cond b (Some (Some leg)) None)) ≡ (b && fits_legs places (Some leg) legs)
    go true rest = rest
    go false rest = refl

pub returns : goal.returns
unfolding fit_next
returns c =
    let k = c.try_fold.ensures.ran in
    c.is_some.ensures
    ∙ (ap (λ (o : Option (Option Leg)). is_some o)
    (tried_from_try_fold _ fronts (λ (y : Bor Leg). y.now) _ _ (fit_next c.args.places) (λ before x next q h. search (rules, tests)) k.0 c.args.legs.now (_, None) _
    c.iter.result k.4.0 c.try_fold.new.self k.1 c.try_fold.result refl (YieldsList-from_slice {s = c.iter.result} c.args.legs.now cc).runs k.4.1 k.4.2 k.5 k.6)
    ∙ all_fit c.args.places None c.args.legs.now)
