use Rattle.std.proofs.Common.{◌≡◌, ℕ, suc, ◌+◌, ◌<◌, ◌≤◌, ◌⊎◌, List, length, get_or, min, sym, ap, ◌∙◌, inl, inr, arith}
use Rattle.std.proofs.lemmas.List.{get_or_past}
use Rattle.std.proofs.lemmas.Bool.{cases_lt}
use Rattle.plans.specs.Plan.{carrier}
use Rattle.plans.specs.Held.{plan_of}
use Rattle.laws.specs.Paths.{entry}
use Rattle.rules.proofs.Routed.{path_short}
use Rattle.pruning.proofs.legs.end_of.Goals as goal

-- a number that was cut off at 65,535 is as far beyond a path as the one that it stands for
cut_off : (xs : List ℕ) (t n : ℕ) → n ≡ min (t + 1) 65535 → length xs ≤ 2048 → get_or xs n 0 ≡ get_or xs (suc t) 0
cut_off xs t n e few = go (cases_lt t 65535)
  where
    go : (t < 65535) ⊎ (65535 ≤ t) → get_or xs n 0 ≡ get_or xs (suc t) 0
    go (inl below) = ap (λ i. get_or xs i 0) (omega (arith, e))
    go (inr above) = get_or_past xs n 0 (omega (arith, e)) ∙ sym (get_or_past xs (suc t) 0 (omega arith))

pub returns : goal.returns
unfolding entry
returns c =
    let p = plan_of c.args.plan.now in
    c.entry.ensures ∙ cut_off (carrier p c.args.leg.carrier).path c.args.leg.leg c.saturating_add.result c.saturating_add.ensures (path_short c.args.plan.now c.args.leg.carrier)
