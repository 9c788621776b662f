-- The board stays sound where a place is left.
use Rattle.std.proofs.Common.{◌≡◌, ◌<◌, length, None, arith, rules}
use Rattle.boards.specs.Holders.{Holds, held}
use Rattle.boards.proofs.Holding.{none_below, held_some, all_below_set, few_leave}
use Rattle.place_board.proofs.Counting.{counted_leave}
use Rattle.place_board.proofs.PlaceBoardBoard.leave.Goals as goal

pub overflow_sub-self : goal.overflow_sub-self
overflow_sub-self c =
    let b = c.args.self.now in
    let e : c.in_ok-count.count ≡ held b.cells c.args.carrier = search rules in
    omega (arith, held_some b.cells c.args.place c.args.carrier (search rules) (search rules))

pub invariant_of-self : goal.invariant_of-self
invariant_of-self c =
    let b = c.args.self.now in
    let k = c.args.carrier in
    let p = c.args.place in
    let l : p < length b.cells = search rules in
    let e : c.in_ok-count.count ≡ held b.cells k = search rules in
    let mine : Holds b.cells k p = search rules in
    rw (c.from.ensures, c.from-2.ensures)
    (record {
      long = search rules;
      known = all_below_set 32 b.cells p None b.known (none_below 32);
      few = few_leave b.cells p l b.few;
      counted = counted_leave b.cells b.counts p k _ l mine (search rules) e b.counted;
    })
