-- What is known where a call is granted, and the holders afterwards.
use Rattle.std.proofs.Common.{◌≡◌, ℕ, ◌<◌, List, set, Some, None, Ok, Option, Result, ap, rules}
use Rattle.boards.specs.declared.faults.BoardFault.{BoardFault}
use Rattle.boards.specs.Holders.{holder_of, Holds, Free, held}
use Rattle.boards.specs.Calls.{enter_here, enter_answer, entered, leave_answer, left, granted}

pub enter_is : (n : ℕ) (hs : List (Option ℕ)) (c p : ℕ) (x : Option ℕ) (k : ℕ) → p < n → c < 32 → holder_of hs p ≡ x → held hs c ≡ k → enter_answer n hs c p ≡ enter_here x k c p
unfolding enter_answer
enter_is n hs c p x k l m e f = search rules

-- the holders afterwards, by what the call answered
pub entered_is : {r : Result Unit BoardFault} (n : ℕ) (hs : List (Option ℕ)) (c p : ℕ) → enter_answer n hs c p ≡ r → entered n hs c p ≡ granted r (set hs p (Some c)) hs
entered_is n hs c p e = ap (λ r. granted r (set hs p (Some c)) hs) e

pub left_is : {r : Result Unit BoardFault} (n : ℕ) (hs : List (Option ℕ)) (c p : ℕ) → leave_answer n hs c p ≡ r → left n hs c p ≡ granted r (set hs p None) hs
left_is n hs c p e = ap (λ r. granted r (set hs p None) hs) e

-- where an enter is granted
pub record MayEnter (n : ℕ) (hs : List (Option ℕ)) (c p : ℕ) : Type 0 where
  pub inside : p < n
  pub carrier : c < 32
  pub free : Free hs p
  pub room : held hs c < 2

pub may_enter : (n : ℕ) (hs : List (Option ℕ)) (c p : ℕ) → MayEnter n hs c p → enter_answer n hs c p ≡ Ok tt
unfolding enter_answer
may_enter n hs c p m = search rules

pub enter_granted : (n : ℕ) (hs : List (Option ℕ)) (c p : ℕ) → enter_answer n hs c p ≡ Ok tt → MayEnter n hs c p
unfolding enter_answer
enter_granted n hs c p g = record { inside = search rules; carrier = search rules; free = search rules; room = search rules }

-- where a leave is granted
pub record MayLeave (n : ℕ) (hs : List (Option ℕ)) (c p : ℕ) : Type 0 where
  pub inside : p < n
  pub carrier : c < 32
  pub mine : Holds hs c p

pub may_leave : (n : ℕ) (hs : List (Option ℕ)) (c p : ℕ) → MayLeave n hs c p → leave_answer n hs c p ≡ Ok tt
unfolding leave_answer
may_leave n hs c p m = search rules

pub leave_granted : (n : ℕ) (hs : List (Option ℕ)) (c p : ℕ) → leave_answer n hs c p ≡ Ok tt → MayLeave n hs c p
unfolding leave_answer
leave_granted n hs c p g = record { inside = search rules; carrier = search rules; mine = search rules }
