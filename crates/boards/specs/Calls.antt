-- What the calls of a board of `size` places answer, and the holders afterwards.
use Rattle.std.specs.Prelude.{ℕ, cond, List, Some, None, Ok, Err, Option, Result, nat_lt, slice_set}
use Rattle.boards.specs.declared.faults.BoardFault.{BoardFault}
use Rattle.boards.specs.declared.faults.BoardFault.TheVariants.{BeyondBoard, BeyondCarriers, Held, HoldsTwo, NotHolder}
use Rattle.boards.specs.Holders.{holder_of, is_holder, held}

-- an answer at a place, unless the board has no such place
abbrev pub on_board : {T : Type 0} → ℕ → ℕ → Result T BoardFault → Result T BoardFault
on_board size place answer = cond (nat_lt place size) answer (Err (BeyondBoard place))

-- an answer to a carrier, unless there is no such carrier
abbrev pub to_carrier : {T : Type 0} → ℕ → Result T BoardFault → Result T BoardFault
to_carrier carrier answer = cond (nat_lt carrier 32) answer (Err (BeyondCarriers carrier))

-- entering a place with such a holder, by a carrier that holds so many places
abbrev pub enter_here : Option ℕ → ℕ → ℕ → ℕ → Result Unit BoardFault
enter_here (Some holder) count carrier place = Err (Held place holder)
enter_here None count carrier place = cond (nat_lt count 2) (Ok tt) (Err (HoldsTwo carrier))

-- leaving a place with such a holder
abbrev pub leave_here : Option ℕ → ℕ → ℕ → Result Unit BoardFault
leave_here holder carrier place = cond (is_holder holder carrier) (Ok tt) (Err (NotHolder place holder))

unfoldable pub enter_answer : ℕ → List (Option ℕ) → ℕ → ℕ → Result Unit BoardFault
enter_answer size holders carrier place =
    on_board size place (to_carrier carrier (enter_here (holder_of holders place) (held holders carrier) carrier place))

unfoldable pub leave_answer : ℕ → List (Option ℕ) → ℕ → ℕ → Result Unit BoardFault
leave_answer size holders carrier place = on_board size place (to_carrier carrier (leave_here (holder_of holders place) carrier place))

abbrev pub who_answer : ℕ → List (Option ℕ) → ℕ → Result (Option ℕ) BoardFault
who_answer size holders place = on_board size place (Ok (holder_of holders place))

abbrev pub count_answer : List (Option ℕ) → ℕ → Result ℕ BoardFault
count_answer holders carrier = to_carrier carrier (Ok (held holders carrier))

-- what is there after a call: the new where it is granted, and the old where it is refused
abbrev pub granted : {T : Type 0} → Result Unit BoardFault → T → T → T
granted (Ok done) new old = new
granted (Err fault) new old = old

-- after a granted enter the carrier is the holder of the place, and all else is as it was
abbrev pub entered : ℕ → List (Option ℕ) → ℕ → ℕ → List (Option ℕ)
entered size holders carrier place = granted (enter_answer size holders carrier place) (slice_set holders place (Some carrier)) holders

-- after a granted leave the place is free, and all else is as it was
abbrev pub left : ℕ → List (Option ℕ) → ℕ → ℕ → List (Option ℕ)
left size holders carrier place = granted (leave_answer size holders carrier place) (slice_set holders place None) holders
