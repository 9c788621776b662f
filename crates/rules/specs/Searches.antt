-- What is found of numbers by a function that code calls.
use Rattle.std.specs.Prelude.{◌≡◌, ℕ, ◌&&◌, Option, ◌==◌, nat_lt}
use Rattle.laws.specs.Rules.{first, when, first_equal}

-- c, and the lowest of the numbers above c and below n of which f gives what it gives of c
unfoldable pub equal_above : ℕ → (ℕ → ℕ) → ℕ → Option (ℕ × ℕ)
equal_above n f c = first n (λ d. when (nat_lt c d && f c == f d) (c, d))

-- a call at a number gives what f gives of it, where `gives` says what a call may give
pub record Computes (gives : ℕ → ℕ → Type 0) (f : ℕ → ℕ) : Type 0 where
  pub each : (c d : ℕ) → gives c d → d ≡ f c

-- what was found is c with the lowest number above it that is like it
pub record FindsEqualAbove (gives : ℕ → ℕ → Type 0) (n c : ℕ) (found : Option (ℕ × ℕ)) : Type 0 where
  pub at : (f : ℕ → ℕ) → Computes gives f → found ≡ equal_above n f c

-- what was found are the first two numbers that are alike
pub record FindsEqual (gives : ℕ → ℕ → Type 0) (n : ℕ) (found : Option (ℕ × ℕ)) : Type 0 where
  pub at : (f : ℕ → ℕ) → Computes gives f → found ≡ first_equal n f
