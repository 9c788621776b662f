-- Leaving: no cell of the carrier has the place, or the one that has it becomes free.
use Rattle.std.proofs.Common.{◌≡◌, ◌<◌, false, length, nat_eq, position, Some, None, sym, ap, ◌∙◌, rules}
use Rattle.std.specs.Option.{option_eq}
use Rattle.std.proofs.lemmas.Option.{none-some}
use Rattle.boards.specs.Holders.{holder_of, is_holder}
use Rattle.boards.specs.Calls.{leave_answer}
use Rattle.boards.proofs.Granting.{may_leave, left_is}
use Rattle.boards.proofs.Holding.{none_below}
use Rattle.carrier_board.specs.Cells.{cells_of, spread}
use Rattle.carrier_board.specs.Finding.{carries}
use Rattle.carrier_board.specs.Spreading.{holder_spread}
use Rattle.carrier_board.proofs.Parting.{pairs_written, within_written, apart_written}
use Rattle.carrier_board.proofs.Looking.{not_found}
use Rattle.carrier_board.proofs.Changing.{left_sound, holds}
use Rattle.carrier_board.proofs.CarrierBoardBoard.leave.Goals as goal

pub returns-in_err-cell : goal.returns-in_err-cell
unfolding leave_answer
returns-in_err-cell c =
    let b = c.args.self.now in
    let k = c.args.carrier in
    let p = c.args.place in
    let other : is_holder (holder_of (spread 1024 b.cells) p) k ≡ false = ap (λ h. is_holder h k) (holder_spread 1024 b.cells p (search rules)) ∙ carries b.cells b.apart k p ∙ not_found (cells_of b.cells k) p (search rules) in
    search rules

pub invariant_of-self : goal.invariant_of-self
invariant_of-self c =
    let b = c.args.self.now in
    record {
      long = search rules;
      pairs = pairs_written b.cells _ _ None (search rules) (search (rules, b.pairs)) b.pairs;
      within = within_written b.cells _ _ None (search rules) (search (rules, b.pairs)) 1024 b.within (none_below 1024);
      apart = apart_written b.cells _ _ None (search rules) (search (rules, b.pairs)) b.apart (λ d i q s t. none-some q s);
    }

pub returns : goal.returns
returns c =
    let b = c.args.self.now in
    let hs = spread 1024 b.cells in
    let k = c.args.carrier in
    let p = c.args.place in
    let j = c.in_ok-cell.cell in
    let l : k < length b.cells = search rules in
    let m : p < 1024 = search rules in
    let looked : position (λ cell. option_eq nat_eq cell (Some p)) (cells_of b.cells k) ≡ Some j = search rules in
    let a = may_leave 1024 hs k p (record { inside = m; carrier = search rules; mine = holds 1024 b.cells k j p b.pairs b.within b.apart l m looked }) in
    let e = left_sound 1024 b.cells k j p b.pairs b.within b.apart l m looked in
    let g = e.gives ∙ sym (left_is 1024 hs k p a) in
    record { answer = sym a; after = search rules }
