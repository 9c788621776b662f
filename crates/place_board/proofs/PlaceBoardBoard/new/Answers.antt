-- On a new board nobody holds a place.
use Rattle.std.proofs.Common.{sym, ◌∙◌, arith}
use Rattle.std.proofs.lemmas.List.{get_or-replicate}
use Rattle.boards.proofs.Holding.{held_none, all_below_none}
use Rattle.place_board.proofs.PlaceBoardBoard.new.Goals as goal

pub invariant_of-result-clause-known : goal.invariant_of-result-clause-known
invariant_of-result-clause-known c = all_below_none 32 512

pub invariant_of-result-clause-few : goal.invariant_of-result-clause-few
invariant_of-result-clause-few c = λ k. omega (arith, held_none 512 k)

pub invariant_of-result-clause-counted : goal.invariant_of-result-clause-counted
invariant_of-result-clause-counted c = λ k h. get_or-replicate 32 k 0 0 h ∙ sym (held_none 512 k)
