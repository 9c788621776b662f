-- The words in which the laws of floors are said.
use Rattle.std.specs.Prelude.{ℕ, zero, suc, ◌+◌, ◌<◌, Bool, false, ◌||◌, List, [], ◌∷◌, length, ◌==◌, slice_index}

-- whether a list has a number
unfoldable pub has : ℕ → List ℕ → Bool
has x [] = false
has x (y ∷ ys) = x == y || has x ys

-- each number of a list is above those before it
abbrev pub Rises : List ℕ → Type 0
Rises xs = (i j : ℕ) → i < j → j < length xs → slice_index xs i < slice_index xs j

-- how many legs lead out of the places below a number
unfoldable pub legs_below : (ℕ → List ℕ) → ℕ → ℕ
legs_below exits zero = 0
legs_below exits (suc p) = legs_below exits p + length (exits p)
