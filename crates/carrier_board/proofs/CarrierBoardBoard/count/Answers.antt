-- A carrier holds as many places as its cells have.
use Rattle.std.proofs.Common.{◌≡◌, ℕ, ◌+◌, cond, List, [], ◌∷◌, length, count_by, is_some, None, Option, slice_index_or, arith, rules}
use Rattle.std.proofs.lemmas.List.Sums.{sum_by-cons}
use Rattle.carrier_board.specs.Cells.{cells_of}
use Rattle.carrier_board.specs.Spreading.{held-cells}
use Rattle.carrier_board.proofs.CarrierBoardBoard.count.Goals as goal

-- how many places a cell has: one or none
abbrev places_in : Option ℕ → ℕ
places_in cell = cond (is_some cell) 1 0

-- two cells have as many places as the first and the second together
two_cells : (own : List (Option ℕ)) → length own ≡ 2 → count_by is_some own ≡ places_in (slice_index_or own 0 None) + places_in (slice_index_or own 1 None)
two_cells [] e = absurd (omega arith)
two_cells (x ∷ []) e = absurd (omega arith)
two_cells (x ∷ y ∷ []) e =
    omega (arith, sum_by-cons places_in x (y ∷ []), sum_by-cons places_in y [])
two_cells (x ∷ y ∷ z ∷ own) e = absurd (omega arith)

pub returns : goal.returns
returns c =
    let b = c.args.self.now in
    let k = c.args.carrier in
    let e = held-cells 1024 b.cells k b.within b.apart in
    let t = two_cells (cells_of b.cells k) (b.pairs k (search rules)) in
    search rules
