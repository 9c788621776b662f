use Rattle.std.proofs.Common.{◌≡◌, ℕ, zero, suc, ◌+◌, List, length, map, sum, refl, sym, ap, ◌∙◌, add-one, arith, rules, tests}
use Rattle.std.specs.List.{range_with_len}
use Rattle.std.proofs.lemmas.List.FromFn.{length-range_with_len, sum_by-map-range_with_len_more}
use Rattle.std.proofs.lemmas.Iterator.{YieldsList-from_range, YieldsList-from_map}
use Rattle.std.proofs.lemmas.Iterator.Adapters.{fits_from_length, at_most_from_yields_List}
use Rattle.std.proofs.lemmas.Iterator.Consumers.{sum_from_yields_List}
use Rattle.floors.specs.Exits.{legs_below}
use Rattle.floors.proofs.legs.leg_count.Goals as goal

sum_legs : (exits : ℕ → List ℕ) (n : ℕ) → sum (map (λ p. length (exits p)) (range_with_len 0 n)) ≡ legs_below exits n
unfolding legs_below
sum_legs exits zero = refl
sum_legs exits (suc n) =
    ap (λ (k : ℕ). sum (map (λ p. length (exits p)) (range_with_len 0 k))) (sym (add-one n))
    ∙ (sum_by-map-range_with_len_more (λ (k : ℕ). k) (λ p. length (exits p)) 0 n n (omega arith) ∙ ap (λ (k : ℕ). k + length (exits n)) (sum_legs exits n))

pub sum-requires-clause-fits : goal.sum-requires-clause-fits
sum-requires-clause-fits g c =
    fits_from_length _ _ 65535 _ (at_most_from_yields_List (YieldsList-from_range 0 c.place_count.result c.place_count.result (cc) (omega arith)) (omega (arith, length-range_with_len 0 c.place_count.result)))
    c.map.ensures.closure (omega arith) (λ x r q k. search (rules, tests))

pub returns : goal.returns
returns g c =
    sum_from_yields_List c.map.result c.sum.result c.sum.ensures.ran
    (YieldsList-from_map _ (λ p. length (g.F.Floor.exits c.args.floor.now p)) (YieldsList-from_range 0 c.place_count.result c.place_count.result (cc) (omega arith)) c.map.ensures.closure (λ x r q k. search rules))
    ∙ rw c.place_count.ensures (sum_legs (g.F.Floor.exits c.args.floor.now) (g.F.Floor.size c.args.floor.now))
