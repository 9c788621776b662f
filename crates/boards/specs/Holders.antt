-- What a board means: the list of the holders of its places, from place 0 on.
use Rattle.std.specs.Prelude.{◌≡◌, ℕ, ◌+◌, ◌<◌, ◌≤◌, Bool, false, cond, List, [], ◌∷◌, is_none, Some, None, Option, ◌==◌, slice_index_or}
use Rattle.std.specs.List.{list_all}

-- the holder of a place, if it has one; a place beyond the list has none
abbrev pub holder_of : List (Option ℕ) → ℕ → Option ℕ
holder_of holders place = slice_index_or holders place None

-- the carrier holds the place
abbrev pub Holds : List (Option ℕ) → ℕ → ℕ → Type 0
Holds holders carrier place = holder_of holders place ≡ Some carrier

-- the place has no holder
abbrev pub Free : List (Option ℕ) → ℕ → Type 0
Free holders place = holder_of holders place ≡ None

-- whether a holder is this carrier
abbrev pub is_holder : Option ℕ → ℕ → Bool
is_holder None carrier = false
is_holder (Some holder) carrier = holder == carrier

-- how many places a carrier holds
unfoldable pub held : List (Option ℕ) → ℕ → ℕ
held [] carrier = 0
held (holder ∷ holders) carrier = cond (is_holder holder carrier) 1 0 + held holders carrier

-- whether no place is held
unfoldable pub empty : List (Option ℕ) → Bool
empty holders = list_all is_none holders

-- each number that stands in the list is below a bound
abbrev pub AllBelow : ℕ → List (Option ℕ) → Type 0
AllBelow bound entries = (i number : ℕ) → slice_index_or entries i None ≡ Some number → number < bound

-- each holder is one of the carriers 0 to 31
abbrev pub Known : List (Option ℕ) → Type 0
Known holders = AllBelow 32 holders

-- no carrier holds more than two places
abbrev pub AtMostTwo : List (Option ℕ) → Type 0
AtMostTwo holders = (carrier : ℕ) → held holders carrier ≤ 2
