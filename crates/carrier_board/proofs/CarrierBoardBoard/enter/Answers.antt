-- Entering: the place is held, or no cell of the carrier is free, or the first free one takes the place.
use Rattle.std.proofs.Common.{◌≡◌, ◌<◌, length, nat_eq, position, Some, None, sym, ◌∙◌, rules}
use Rattle.std.specs.Option.{option_eq}
use Rattle.boards.specs.Holders.{Free}
use Rattle.boards.specs.Calls.{enter_answer}
use Rattle.boards.proofs.Granting.{may_enter, entered_is}
use Rattle.carrier_board.specs.Cells.{cells_of, spread}
use Rattle.carrier_board.proofs.Looking.{full}
use Rattle.carrier_board.proofs.Changing.{entered_sound, has_room}
use Rattle.carrier_board.proofs.CarrierBoardBoard.enter.Goals as goal

pub returns-in_err-free : goal.returns-in_err-free
unfolding enter_answer
returns-in_err-free c =
    let b = c.args.self.now in
    let count = full 1024 b.cells c.args.carrier b.pairs b.within b.apart (search rules) (search rules) in
    search rules

pub invariant_of-self : goal.invariant_of-self
invariant_of-self c =
    let b = c.args.self.now in
    let e = entered_sound 1024 b.cells c.args.carrier c.in_ok-free.free c.args.place b.pairs b.within b.apart (search rules) (search rules) (search rules) (search rules) in
    rw c.from.ensures (record { long = search rules; pairs = e.pairs; within = e.within; apart = e.apart })

pub returns : goal.returns
returns c =
    let b = c.args.self.now in
    let hs = spread 1024 b.cells in
    let k = c.args.carrier in
    let p = c.args.place in
    let j = c.in_ok-free.free in
    let l : k < length b.cells = search rules in
    let m : p < 1024 = search rules in
    let free : Free hs p = search rules in
    let looked : position (λ cell. option_eq nat_eq cell None) (cells_of b.cells k) ≡ Some j = search rules in
    let a = may_enter 1024 hs k p (record { inside = m; carrier = search rules; free = free; room = has_room 1024 b.cells k j p b.pairs b.within b.apart l m looked }) in
    let e = entered_sound 1024 b.cells k j p b.pairs b.within b.apart l m free looked in
    rw c.from.ensures (record { answer = sym a; after = e.gives ∙ sym (entered_is 1024 hs k p a) })
