use Rattle.std.proofs.Common.{◌≡◌, ℕ, ◌&&◌, Bool, true, false, eqb, ap, ◌∙◌, rules}
use Rattle.std.proofs.lemmas.Iterator.{first_from_Range}
use Rattle.std.specs.Option.{option_map}
use Rattle.std.specs.Prelude.{nat_lt}
use Rattle.rules.specs.Searches.{equal_above}
use Rattle.rules.proofs.Firsts.{first_from_find}
use Rattle.rules.proofs.search.equal_above.Goals as goal

pub returns : goal.returns
unfolding equal_above
returns g c = record {
  at = λ f computes.
      let k = c.args.carrier in
      let t : ℕ → Bool = λ d. nat_lt k d && eqb (f k) (f d) in
      let found = first_from_Range _ _ _ _ (λ i. t i ≡ true) (λ i. t i ≡ false) c.find.ensures.ran (λ x q k. search (rules, computes.each)) (λ x q k. (search rules, search (rules, computes.each))) in
      let paired : c.map.result ≡ option_map {U = ℕ × ℕ} (λ d. (k, d)) c.find.result = search rules in
      paired ∙ (first_from_find {A = ℕ × ℕ} c.carrier_count.result t (λ d. (k, d)) c.find.result found ∙ ap (λ n. equal_above n f k) c.carrier_count.ensures);
}
