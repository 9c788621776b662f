-- The counts that are kept beside the cells.
use Rattle.std.specs.Prelude.{◌≡◌, ℕ, ◌<◌, List, Option, slice_index}
use Rattle.boards.specs.Holders.{held}

-- the count of each carrier is the number of places that it holds
abbrev pub Counted : List (Option ℕ) → List ℕ → Type 0
Counted cells counts = (carrier : ℕ) → carrier < 32 → slice_index counts carrier ≡ held cells carrier
