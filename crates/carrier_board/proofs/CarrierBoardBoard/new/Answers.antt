-- On a new board no cell has a place, so nobody holds one.
use Rattle.std.proofs.Common.{◌≡◌, ℕ, ◌<◌, ◌≤◌, List, [], length, replicate, Some, None, Option, slice_index_or, sym, refl, ap, ◌∙◌, ⊎_elim}
use Rattle.std.proofs.lemmas.List.{get_or-replicate, get_or_past, length-replicate}
use Rattle.std.proofs.lemmas.Option.{none-some}
use Rattle.std.proofs.lemmas.Bool.{cases_lt}
use Rattle.boards.proofs.Holding.{free_none}
use Rattle.carrier_board.specs.Cells.{cells_of, in_cell, carrier_of}
use Rattle.carrier_board.specs.Finding.{has_where, somewhere}
use Rattle.carrier_board.proofs.Parting.{is_spread}
use Rattle.carrier_board.proofs.CarrierBoardBoard.new.Goals as goal

abbrev free_cells : List (List (Option ℕ))
free_cells = replicate 32 (replicate 2 None)

own_free : (c : ℕ) → c < 32 → cells_of free_cells c ≡ replicate 2 None
own_free c l = get_or-replicate 32 c (replicate 2 None) [] l

all_free : (c i : ℕ) → in_cell free_cells c i ≡ None
all_free c i =
    ⊎_elim
    (λ (l : c < 32). ap (λ own. slice_index_or own i None) (own_free c l) ∙ free_none 2 i)
    (λ (l : 32 ≤ c). ap (λ own. slice_index_or own i None) (get_or_past free_cells c [] l))
    (cases_lt c 32)

no_carrier : (p : ℕ) → carrier_of free_cells p ≡ None
no_carrier p = go (carrier_of free_cells p) refl
  where
    go : (found : Option ℕ) → carrier_of free_cells p ≡ found → found ≡ None
    go None e = refl
    go (Some c) e =
        let w = has_where (cells_of free_cells c) p (somewhere free_cells p c e).1 in absurd (none-some p (sym (all_free c w.0) ∙ w.1))

pub returns : goal.returns
returns c =
    sym (is_spread 1024 free_cells (replicate 1024 None) (length-replicate {A = Option ℕ} 1024 None) (λ p l. free_none 1024 p ∙ sym (no_carrier p)))

pub invariant_of-result : goal.invariant_of-result
invariant_of-result c = record {
  long = refl;
  pairs = λ k l. ap length (own_free k l);
  within = λ k i q e. absurd (none-some q (sym (all_free k i) ∙ e));
  apart = λ k d i j q e f. absurd (none-some q (sym (all_free k i) ∙ e));
}
