-- What the searches find, as the first that is found of a carrier.
use Rattle.std.proofs.Common.{◌≡◌, ℕ, suc, Option, Some, refl}
use Rattle.plans.specs.Plan.{Plan, carrier}
use Rattle.laws.specs.Paths.{carriers, goal, entry, last}
use Rattle.laws.specs.Rules.{first, when, wrong_end, no_leg, first_equal, foreign_goal}
use Rattle.rules.specs.Routes.{wrong_end_of, legless_of, is_foreign, last_of}
use Rattle.rules.specs.Searches.{equal_above}

pub first-wrong_end_of : (p : Plan) → first (carriers p) (λ c. wrong_end_of c (carrier p c)) ≡ wrong_end p
unfolding wrong_end wrong_end_of entry last
first-wrong_end_of p = refl

pub first-legless_of : (p : Plan) → first (carriers p) (λ c. legless_of p.floor c (carrier p c)) ≡ no_leg p
unfolding no_leg legless_of entry last
first-legless_of p = refl

pub first-equal_above : (n : ℕ) (f : ℕ → ℕ) → first n (equal_above n f) ≡ first_equal n f
unfolding equal_above first_equal
first-equal_above n f = refl

-- the rows of the search for a foreign goal, which is written as loops
abbrev pub foreign_to : Plan → ℕ → ℕ → ℕ → Option (ℕ × ℕ × ℕ)
foreign_to p c t d = when (is_foreign c (carrier p c) t d (Some (goal p d))) (c, suc t, d)

abbrev pub foreign_at : Plan → ℕ → ℕ → Option (ℕ × ℕ × ℕ)
foreign_at p c t = first (carriers p) (foreign_to p c t)

abbrev pub foreign : Plan → ℕ → Option (ℕ × ℕ × ℕ)
foreign p c = first (last p c) (foreign_at p c)

pub first-foreign : (p : Plan) → first (carriers p) (foreign p) ≡ foreign_goal p
unfolding foreign_goal entry
first-foreign p = refl

pub last_of-carrier : (p : Plan) (c : ℕ) → last_of (carrier p c) ≡ last p c
unfolding last
last_of-carrier p c = refl
