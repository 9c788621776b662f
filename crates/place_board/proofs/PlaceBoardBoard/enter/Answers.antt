-- The board stays sound where a place is entered.
use Rattle.std.proofs.Common.{◌≡◌, ◌<◌, length, Some, arith, rules}
use Rattle.boards.specs.Holders.{Free, held}
use Rattle.boards.proofs.Holding.{some_below, all_below_set, few_enter}
use Rattle.place_board.proofs.Counting.{counted_enter}
use Rattle.place_board.proofs.PlaceBoardBoard.enter.Goals as goal

pub invariant_of-self : goal.invariant_of-self
invariant_of-self c =
    let b = c.args.self.now in
    let k = c.args.carrier in
    let p = c.args.place in
    let l : p < length b.cells = search rules in
    let n : k < 32 = search rules in
    let e : c.in_ok-count.count ≡ held b.cells k = search rules in
    let free : Free b.cells p = search rules in
    rw (c.from.ensures, c.from-2.ensures)
    (record {
      long = search rules;
      known = all_below_set 32 b.cells p (Some k) b.known (some_below 32 k n);
      few = few_enter b.cells p k l free (omega arith) b.few;
      counted = counted_enter b.cells b.counts p k _ l free (search rules) e b.counted;
    })
