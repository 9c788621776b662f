-- Strings of calls on an opened run and its board, and what their replies say.
use Rattle.std.specs.Prelude.{◌≡◌, ℕ, ◌+◌, Bool, true, false, cond, ◌⊎◌, List, [], ◌∷◌, map, Ok, Err, Result, ◌==◌}
use Rattle.boards.specs.Calls.{who_answer, count_answer}
use Rattle.plans.specs.Plan.{Plan}
use Rattle.laws.specs.declared.calls.Call.{Call}
use Rattle.laws.specs.declared.calls.Call.TheVariants.{TurnFor, MotionOf, DistanceLeft, HolderOf, CountOf}
use Rattle.laws.specs.declared.calls.Reply.{Reply}
use Rattle.laws.specs.declared.calls.Reply.TheVariants.{Turned, Moves, Far, Held, Holds}
use Rattle.laws.specs.declared.faults.RunFault.{RunFault}
use Rattle.laws.specs.declared.motions.Motion.{Motion}
use Rattle.laws.specs.declared.motions.Motion.TheVariants.{Standing, Travelling}
use Rattle.laws.specs.declared.motions.Turn.{Turn}
use Rattle.laws.specs.declared.motions.Turn.TheVariants.{Home, Departed, Waits, Arrived}
use Rattle.laws.specs.Runs.{State, motion_answer, distance, turned, opened}

-- a turn changes run and board; a question changes nothing
abbrev pub called : Plan → ℕ → State → Call → State
called p size s (TurnFor c) = (turned p size s c).state
called p size s (MotionOf c) = s
called p size s DistanceLeft = s
called p size s (HolderOf place) = s
called p size s (CountOf c) = s

abbrev pub replied : Plan → ℕ → State → Call → Reply
replied p size s (TurnFor c) = Turned (turned p size s c).answer
replied p size s (MotionOf c) = Moves (motion_answer p s c)
replied p size s DistanceLeft = Far (distance p s)
replied p size s (HolderOf place) = Held (who_answer size s.holders place)
replied p size s (CountOf c) = Holds (count_answer s.holders c)

-- run and board after a string of calls, the first call first
abbrev pub after : Plan → ℕ → State → List Call → State
after p size s [] = s
after p size s (call ∷ calls) = after p size (called p size s call) calls

-- the reply to each call of a string
abbrev pub replies : Plan → ℕ → State → List Call → List Reply
replies p size s [] = []
replies p size s (call ∷ calls) = replied p size s call ∷ replies p size (called p size s call) calls

-- the same from the opening on an empty board
abbrev pub reached : Plan → ℕ → List Call → State
reached p size calls = after p size (opened p size) calls

abbrev pub replies_to : Plan → ℕ → List Call → List Reply
replies_to p size calls = replies p size (opened p size) calls

-- a turn for each of these carriers
abbrev pub turns_for : List ℕ → List Call
turns_for cs = map (λ c. TurnFor c) cs

abbrev pub turn_departed : Result Turn RunFault → Bool
turn_departed (Ok Home) = false
turn_departed (Ok Departed) = true
turn_departed (Ok (Waits place holder)) = false
turn_departed (Ok Arrived) = false
turn_departed (Err fault) = false

abbrev pub turn_arrived : Result Turn RunFault → Bool
turn_arrived (Ok Home) = false
turn_arrived (Ok Departed) = false
turn_arrived (Ok (Waits place holder)) = false
turn_arrived (Ok Arrived) = true
turn_arrived (Err fault) = false

-- the test of a turn's answer; what is replied to a question does not pass
abbrev pub of_turn : (Result Turn RunFault → Bool) → Reply → Bool
of_turn test (Turned answer) = test answer
of_turn test (Moves motion) = false
of_turn test (Far distance) = false
of_turn test (Held holder) = false
of_turn test (Holds count) = false

-- how many replies pass
abbrev pub tally : (Reply → Bool) → List Reply → ℕ
tally test [] = 0
tally test (reply ∷ more) = cond (test reply) 1 0 + tally test more

-- the turns that answered "departed", and those that answered "arrived"
abbrev pub departures : List Reply → ℕ
departures replies = tally (of_turn turn_departed) replies

abbrev pub arrivals : List Reply → ℕ
arrivals replies = tally (of_turn turn_arrived) replies

-- whether a call is a turn for c
abbrev pub is_turn_for : ℕ → Call → Bool
is_turn_for c (TurnFor d) = c == d
is_turn_for c (MotionOf d) = false
is_turn_for c DistanceLeft = false
is_turn_for c (HolderOf place) = false
is_turn_for c (CountOf d) = false

-- how many replies to turns for c pass
abbrev pub tally_for : ℕ → (Reply → Bool) → List Call → List Reply → ℕ
tally_for c test [] more = 0
tally_for c test (call ∷ calls) [] = 0
tally_for c test (call ∷ calls) (reply ∷ more) = cond (is_turn_for c call) (cond (test reply) 1 0) 0 + tally_for c test calls more

abbrev pub departures_of : ℕ → List Call → List Reply → ℕ
departures_of c calls replies = tally_for c (of_turn turn_departed) calls replies

abbrev pub arrivals_of : ℕ → List Call → List Reply → ℕ
arrivals_of c calls replies = tally_for c (of_turn turn_arrived) calls replies

-- what a carrier does, by its departures and arrivals alone: with as many of the one as of the other it stands at the entry of that
-- number, and with one departure more it travels the leg that its arrivals number
abbrev pub by_counts : ℕ → ℕ → Motion
by_counts departures arrivals = cond (departures == arrivals) (Standing arrivals) (Travelling arrivals)

-- a turn for c is among the calls
abbrev pub HasTurn : ℕ → List Call → Type 0
HasTurn c [] = ⊥
HasTurn c (call ∷ calls) = (call ≡ TurnFor c) ⊎ HasTurn c calls
