use Rattle.std.proofs.Common.{◌≡◌, ℕ, true, is_some, Some, None, Option, sym, refl, ap, ◌∙◌}
use Rattle.std.proofs.lemmas.Bool.{false≢true}
use Rattle.rail_floor.specs.Ordered.{rail_fit, length-led, length-listed, listed-length}
use Rattle.rail_floor.proofs.laws.legs_are_listed.Goals as goal

some_is : (o : Option ℕ) → is_some o ≡ true → (d : ℕ) × (o ≡ Some d)
some_is None h = absurd (false≢true h)
some_is (Some d) h = (d, refl)

pub returns : goal.returns
returns c places legs h from to = (
  (
    (λ k. let s = some_is _ (length-led legs from to ∙ k) in (s.0, listed-length legs from to s.0 s.1)),
    (λ l. sym (length-led legs from to) ∙ ap is_some (length-listed places None legs l.1.0 _ (rail_fit places legs h).order l.1.1)),
  ),
  (λ long. ((λ k. listed-length legs from to long k), (λ l. length-listed places None legs l.0 _ (rail_fit places legs h).order l.1))),
)
