-- The laws of boards, in words that do not repeat how a call is worked out.
use Rattle.std.specs.Prelude.{◌≡◌, ℕ, ◌<◌, true, ◌≢◌, ◌↔◌, List, [], ◌∷◌, length, replicate, None, Ok, Err, Option}
use Rattle.boards.specs.declared.faults.BoardFault.{BoardFault}
use Rattle.boards.specs.Holders.{holder_of, Holds, Free, held, empty, AtMostTwo}
use Rattle.boards.specs.Calls.{enter_answer, entered, leave_answer, left}

-- the call is granted
abbrev pub EnterGranted : ℕ → List (Option ℕ) → ℕ → ℕ → Type 0
EnterGranted size holders carrier place = enter_answer size holders carrier place ≡ Ok tt

abbrev pub LeaveGranted : ℕ → List (Option ℕ) → ℕ → ℕ → Type 0
LeaveGranted size holders carrier place = leave_answer size holders carrier place ≡ Ok tt

-- a carrier may enter exactly the free places of the board, while it holds fewer than two: no board turns everyone away
abbrev pub FreePlacesAreGranted : Type 0
FreePlacesAreGranted =
    (size : ℕ) (holders : List (Option ℕ)) (carrier place : ℕ) →
    EnterGranted size holders carrier place ↔ ((place < size) × (carrier < 32) × Free holders place × (held holders carrier < 2))

-- a carrier may leave exactly the places that it holds
abbrev pub OwnPlacesAreLeft : Type 0
OwnPlacesAreLeft =
    (size : ℕ) (holders : List (Option ℕ)) (carrier place : ℕ) →
    LeaveGranted size holders carrier place ↔ ((place < size) × (carrier < 32) × Holds holders carrier place)

-- a place that was entered is then held by the carrier that entered it: no board forgets
abbrev pub EnteredIsHeld : Type 0
EnteredIsHeld =
    (size : ℕ) (holders : List (Option ℕ)) (carrier place : ℕ) → length holders ≡ size →
    EnterGranted size holders carrier place → Holds (entered size holders carrier place) carrier place

-- a place that was left is then free
abbrev pub LeftIsFree : Type 0
LeftIsFree =
    (size : ℕ) (holders : List (Option ℕ)) (carrier place : ℕ) → length holders ≡ size →
    LeaveGranted size holders carrier place → Free (left size holders carrier place) place

-- a refused call changes no holder
abbrev pub RefusalsChangeNothing : Type 0
RefusalsChangeNothing =
    (size : ℕ) (holders : List (Option ℕ)) (carrier place : ℕ) (fault : BoardFault) →
    (enter_answer size holders carrier place ≡ Err fault → entered size holders carrier place ≡ holders)
    × (leave_answer size holders carrier place ≡ Err fault → left size holders carrier place ≡ holders)

-- a call at one place changes the holder of no other place
abbrev pub OtherPlacesStay : Type 0
OtherPlacesStay =
    (size : ℕ) (holders : List (Option ℕ)) (carrier place other : ℕ) → other ≢ place →
    (holder_of (entered size holders carrier place) other ≡ holder_of holders other)
    × (holder_of (left size holders carrier place) other ≡ holder_of holders other)

-- what one carrier does changes no place of another: the other holds the same places afterwards
abbrev pub OtherCarriersStay : Type 0
OtherCarriersStay =
    (size : ℕ) (holders : List (Option ℕ)) (carrier place other any : ℕ) → other ≢ carrier →
    (Holds (entered size holders carrier place) other any ↔ Holds holders other any)
    × (Holds (left size holders carrier place) other any ↔ Holds holders other any)

-- after a granted enter the same leave is granted, and restores the board
abbrev pub LeavingUndoesEntering : Type 0
LeavingUndoesEntering =
    (size : ℕ) (holders : List (Option ℕ)) (carrier place : ℕ) → length holders ≡ size →
    EnterGranted size holders carrier place →
    LeaveGranted size (entered size holders carrier place) carrier place
    × (left size (entered size holders carrier place) carrier place ≡ holders)

-- a call that changes holders, with its carrier and place
pub data Call : Type 0 where
  enter : ℕ → ℕ → Call
  leave : ℕ → ℕ → Call

-- the holders after one call, granted or refused
abbrev pub called : ℕ → List (Option ℕ) → Call → List (Option ℕ)
called size holders (enter carrier place) = entered size holders carrier place
called size holders (leave carrier place) = left size holders carrier place

-- the holders after a list of calls, the first call first
abbrev pub after_all : ℕ → List (Option ℕ) → List Call → List (Option ℕ)
after_all size holders [] = holders
after_all size holders (call ∷ calls) = after_all size (called size holders call) calls

-- whatever is called on a new board, no carrier ever holds more than two places
abbrev pub NeverMoreThanTwo : Type 0
NeverMoreThanTwo = (size : ℕ) (calls : List Call) → AtMostTwo (after_all size (replicate size None) calls)

-- a board is empty exactly where each place is free
abbrev pub EmptyIsAllFree : Type 0
EmptyIsAllFree = (holders : List (Option ℕ)) → (empty holders ≡ true) ↔ ((place : ℕ) → Free holders place)
