-- A carrier moves from a place to another: it enters the one, and, where that is granted, leaves the other.
use Rattle.std.specs.Prelude.{◌≡◌, ℕ, ◌<◌, List, Ok, Option, Result}
use Rattle.boards.specs.declared.faults.BoardFault.{BoardFault}
use Rattle.boards.specs.Holders.{Holds, Free, held}
use Rattle.boards.specs.Calls.{enter_answer, entered, leave_answer, left, granted}

abbrev pub advance_answer : ℕ → List (Option ℕ) → ℕ → ℕ → ℕ → Result Unit BoardFault
advance_answer size holders carrier from to =
    granted (enter_answer size holders carrier to) (leave_answer size (entered size holders carrier to) carrier from) (enter_answer size holders carrier to)

abbrev pub advanced : ℕ → List (Option ℕ) → ℕ → ℕ → ℕ → List (Option ℕ)
advanced size holders carrier from to =
    granted (enter_answer size holders carrier to) (left size (entered size holders carrier to) carrier from) holders

-- a carrier that holds the one place and no other is moved wherever the next place is free: it then holds that one, and the one behind is free
abbrev pub Moves : ℕ → List (Option ℕ) → ℕ → ℕ → ℕ → Result Unit BoardFault → List (Option ℕ) → Type 0
Moves size before carrier from to answer after =
    Holds before carrier from → held before carrier ≡ 1 → to < size → Free before to →
    (answer ≡ Ok tt) × Holds after carrier to × Free after from
