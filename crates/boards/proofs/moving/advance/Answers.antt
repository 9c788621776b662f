-- A carrier that holds one place is granted a free one, and then leaves the first: shown from the board's meaning and laws alone.
use Rattle.std.proofs.Common.{◌≡◌, ℕ, ◌<◌, List, length, Option, Result, rules}
use Rattle.boards.specs.declared.faults.BoardFault.{BoardFault}
use Rattle.boards.specs.Holders.{Known}
use Rattle.boards.specs.Calls.{enter_answer, leave_answer}
use Rattle.boards.specs.Moving.{advance_answer, advanced, Moves}
use Rattle.boards.proofs.Holding.{some_inside}
use Rattle.boards.proofs.moving.advance.Goals as goal

moves_on : (n : ℕ) (hs : List (Option ℕ)) (c from to : ℕ) (answer : Result Unit BoardFault) (after : List (Option ℕ)) → length hs ≡ n → Known hs → answer ≡ advance_answer n hs c from to → after ≡ advanced n hs c from to → Moves n hs c from to answer after
unfolding enter_answer leave_answer
moves_on n hs c from to answer after long known a b mine one inside free =
    let l : c < 32 = known from c mine in
    let m : from < length hs = some_inside hs from c mine in
    search rules

pub returns-in_err-enter-clause-moves : goal.returns-in_err-enter-clause-moves
returns-in_err-enter-clause-moves g c =
    let b = c.args.board.now in
    moves_on _ _ _ _ _ _ _ (g.met.B.Board.sized b) (g.met.B.Board.known b) (search rules) (search rules)

pub returns-clause-moves : goal.returns-clause-moves
returns-clause-moves g c =
    let b = c.args.board.now in
    moves_on _ _ _ _ _ _ _ (g.met.B.Board.sized b) (g.met.B.Board.known b) (search rules) (search rules)
