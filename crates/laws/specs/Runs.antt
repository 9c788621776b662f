-- Runs: what each carrier does, who holds which place, and what a turn changes.
use Rattle.std.specs.Prelude.{ℕ, zero, suc, ◌+◌, ◌-◌, ◌*◌, cond, List, replicate, None, Ok, Err, Option, Result, nat_lt, slice_index_or, slice_set}
use Rattle.boards.specs.declared.faults.BoardFault.{BoardFault}
use Rattle.boards.specs.declared.faults.BoardFault.TheVariants.{BeyondBoard, BeyondCarriers, Held, HoldsTwo, NotHolder}
use Rattle.boards.specs.Calls.{enter_answer, entered, leave_answer, left}
use Rattle.plans.specs.Plan.{Plan}
use Rattle.laws.specs.declared.faults.RunFault.{RunFault}
use Rattle.laws.specs.declared.faults.RunFault.TheVariants.{NotInRun, BoardRefuses}
use Rattle.laws.specs.declared.motions.Motion.{Motion}
use Rattle.laws.specs.declared.motions.Motion.TheVariants.{Standing, Travelling}
use Rattle.laws.specs.declared.motions.Turn.{Turn}
use Rattle.laws.specs.declared.motions.Turn.TheVariants.{Home, Departed, Waits, Arrived}
use Rattle.laws.specs.Paths.{carriers, start, entry, last, sum_over}

-- a run and its board: what each carrier does, and the holder of each place
pub record State : Type 0 where
  pub motions : List Motion
  pub holders : List (Option ℕ)

abbrev pub motion_of : State → ℕ → Motion
motion_of s c = slice_index_or s.motions c (Standing 0)

-- a turn's answer, and the run and board after it
pub record Turned : Type 0 where
  pub answer : Result Turn RunFault
  pub state : State

-- c waits if its next place is held; any other refusal of the board is the run's
abbrev pub not_entered : ℕ → BoardFault → Result Turn RunFault
not_entered c (Held place holder) = Ok (Waits place holder)
not_entered c (BeyondBoard place) = Err (BoardRefuses c (BeyondBoard place))
not_entered c (BeyondCarriers carrier) = Err (BoardRefuses c (BeyondCarriers carrier))
not_entered c (HoldsTwo carrier) = Err (BoardRefuses c (HoldsTwo carrier))
not_entered c (NotHolder place holder) = Err (BoardRefuses c (NotHolder place holder))

-- c stands at its entry t, and the board has answered whether it may enter the next: granted, it travels leg t and holds both ends
abbrev pub on_entering : Plan → ℕ → State → ℕ → ℕ → Result Unit BoardFault → Turned
on_entering p size s c t (Ok done) =
    record { answer = Ok Departed; state = record { motions = slice_set s.motions c (Travelling t); holders = entered size s.holders c (entry p c (suc t)) } }
on_entering p size s c t (Err fault) = record { answer = not_entered c fault; state = s }

-- c travels its leg t, and the board has answered whether it may leave where the leg begins: granted, it stands at the leg's end
abbrev pub on_leaving : Plan → ℕ → State → ℕ → ℕ → Result Unit BoardFault → Turned
on_leaving p size s c t (Ok done) =
    record { answer = Ok Arrived; state = record { motions = slice_set s.motions c (Standing (suc t)); holders = left size s.holders c (entry p c t) } }
on_leaving p size s c t (Err fault) = record { answer = Err (BoardRefuses c fault); state = s }

-- what a turn does depends on what the carrier does and on what the board answers
abbrev pub moved : Plan → ℕ → State → ℕ → Motion → Turned
moved p size s c (Standing t) =
    cond (nat_lt t (last p c))
    (on_entering p size s c t (enter_answer size s.holders c (entry p c (suc t))))
    (record { answer = Ok Home; state = s })
moved p size s c (Travelling t) = on_leaving p size s c t (leave_answer size s.holders c (entry p c t))

-- a turn for c, on a board of so many places
unfoldable pub turned : Plan → ℕ → State → ℕ → Turned
turned p size s c = cond (nat_lt c (carriers p)) (moved p size s c (motion_of s c)) (record { answer = Err (NotInRun c); state = s })

-- what c does
abbrev pub motion_answer : Plan → State → ℕ → Result Motion RunFault
motion_answer p s c = cond (nat_lt c (carriers p)) (Ok (motion_of s c)) (Err (NotInRun c))

-- two for each leg that is not begun, one for a leg that is being travelled
abbrev pub to_go : ℕ → Motion → ℕ
to_go legs (Standing t) = 2 * (legs - t)
to_go legs (Travelling t) = 2 * (legs - suc t) + 1

-- how far all carriers are from home
unfoldable pub distance : Plan → State → ℕ
distance p s = sum_over (carriers p) (λ c. to_go (last p c) (motion_of s c))

-- the holders after the first k carriers have entered their starts, one after another
abbrev pub starts_held : Plan → ℕ → List (Option ℕ) → ℕ → List (Option ℕ)
starts_held p size holders zero = holders
starts_held p size holders (suc k) = entered size (starts_held p size holders k) k (start p k)

-- an opened run on a board of so many places that was empty: each carrier holds its start and stands at its entry 0
unfoldable pub opened : Plan → ℕ → State
opened p size = record { motions = replicate (carriers p) (Standing 0); holders = starts_held p size (replicate size None) (carriers p) }
