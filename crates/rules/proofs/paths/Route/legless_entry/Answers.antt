use Rattle.std.proofs.Common.{◌≡◌, ℕ, suc, ◌+◌, true, false, add-one, ap, ◌∙◌, rules}
use Rattle.std.specs.Option.{option_map}
use Rattle.laws.specs.Rules.{first, when}
use Rattle.std.proofs.lemmas.Iterator.{first_from_Range}
use Rattle.store_floor.specs.Held.{layout_of}
use Rattle.rules.specs.Routes.{route_of, lacks_leg, legless_of}
use Rattle.rules.proofs.Firsts.{first_from_find}
use Rattle.rules.proofs.paths.Route.legless_entry.Goals as goal

pub returns : goal.returns
unfolding legless_of
returns c =
    let r = route_of c.args.self.now in
    let t = lacks_leg (layout_of c.args.floor.now) r in
    let found = first_from_Range _ _ _ _ (λ i. t i ≡ true) (λ i. t i ≡ false) c.find.ensures.ran (λ x q k. search rules) (λ x q k. (search rules, search rules)) in
    let k = c.args.self.now.carrier in
    let paired : c.map.result ≡ option_map {U = ℕ × ℕ} (λ i. (k, i + 1)) c.find.result = search rules in
    paired ∙ ((λ j. option_map {U = ℕ × ℕ} (λ i. (k, add-one i j)) c.find.result) ∙ first_from_find {A = ℕ × ℕ} c.last.result t (λ i. (k, suc i)) c.find.result found ∙ ap (λ n. first {A = ℕ × ℕ} n (λ i. when (t i) (k, suc i))) c.last.ensures.value)
