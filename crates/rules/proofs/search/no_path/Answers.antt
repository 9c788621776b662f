use Rattle.std.proofs.Common.{◌≡◌, ℕ, Bool, true, false, eqb, ap, ◌∙◌, rules}
use Rattle.std.proofs.lemmas.Iterator.{first_from_Range}
use Rattle.plans.specs.Held.{plan_of}
use Rattle.laws.specs.Paths.{entries}
use Rattle.laws.specs.Rules.{no_path, first, when}
use Rattle.rules.proofs.Firsts.{first_from_find}
use Rattle.std.proofs.lemmas.Iterator.Adapters.{option_map_id}
use Rattle.rules.proofs.search.no_path.Goals as goal

pub returns : goal.returns
unfolding no_path
returns c =
    let p = plan_of c.args.plan.now in
    let t : ℕ → Bool = λ k. eqb (entries p k) 0 in
    let found = first_from_Range _ _ _ _ (λ i. t i ≡ true) (λ i. t i ≡ false) c.find.ensures.ran (λ x q k. search rules) (λ x q k. (search rules, search rules)) in
    let mapped = first_from_find c.carrier_count.result t (λ k. k) c.find.result found ∙ ap (λ n. first n (λ k. when (t k) k)) c.carrier_count.ensures in
    search (rules, mapped, option_map_id c.find.result)
