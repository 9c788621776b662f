-- A refusal: its number, and the values that it returns, in their order.
use Rattle.std.specs.Prelude.{ℕ, List, [], ◌∷◌, ◌++◌, decimal}

pub record Refusal : Type 0 where
  pub number : ℕ
  pub values : List ℕ

-- each value in decimal, behind a space
abbrev pub spelt_values : List ℕ → List ℕ
spelt_values [] = []
spelt_values (value ∷ more) = 32 ∷ (decimal value ++ spelt_values more)

-- what is printed of a refusal
abbrev pub spelt : Refusal → List ℕ
spelt r = decimal r.number ++ spelt_values r.values
