use Rattle.std.proofs.Common.{◌≡◌, ℕ, Option, refl, ap, ◌∙◌, rules}
use Rattle.plans.specs.Held.{plan_of}
use Rattle.laws.specs.Paths.{carriers}
use Rattle.laws.specs.Rules.{first}
use Rattle.rules.specs.Searches.{Computes, FindsEqualAbove, equal_above}
use Rattle.rules.proofs.Firsts.{first_from_find_map}
use Rattle.rules.proofs.Rows.{first-equal_above}
use Rattle.rules.proofs.search.equal_ends.Goals as goal

found : {gives : ℕ → ℕ → Type 0} (n c : ℕ) (f : ℕ → ℕ) → Computes gives f → (r : Option (ℕ × ℕ)) → FindsEqualAbove gives n c r → r ≡ equal_above n f c
found n c f computes r finds = finds.at f computes

pub returns : goal.returns
returns g c = record {
  at = λ f computes.
      let n = carriers (plan_of c.args.plan.now) in
      first_from_find_map _ (equal_above n f) (λ x y q k. (search rules, search (rules, found n x f computes))) _ _ c.find_map.result refl c.find_map.ensures.ran c.find_map.ensures.runs
      ∙ (ap (λ m. first m (equal_above n f)) c.carrier_count.ensures ∙ first-equal_above n f);
}
