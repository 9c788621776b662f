-- What is known of a carrier's cells where one is looked for among them.
use Rattle.std.proofs.Common.{◌≡◌, ℕ, zero, suc, ◌<◌, ◌≤◌, false, cond, List, [], ◌∷◌, length, count_by, is_some, nat_eq, position, slice_index_or, Some, None, Option, refl, ◌∙◌, arith}
use Rattle.std.specs.List.{position_or_len}
use Rattle.std.specs.Option.{option_eq}
use Rattle.std.proofs.lemmas.List.Folds.{list_any_none}
use Rattle.std.proofs.lemmas.List.Quantifiers.{position-Some}
use Rattle.std.proofs.lemmas.List.Sums.{fails_before_first, sum_by-cons, count_by-le-length}
use Rattle.boards.specs.Holders.{held}
use Rattle.carrier_board.specs.Cells.{cells_of, in_cell, has_place, spread, Pairs, Within, Apart}
use Rattle.carrier_board.specs.Finding.{is_held, none_passes}
use Rattle.carrier_board.specs.Spreading.{held-cells}

-- the cell that is found is one of the cells, and has what was looked for
pub found : (own : List (Option ℕ)) (held : Option ℕ) (j : ℕ) → position (λ cell. option_eq nat_eq cell held) own ≡ Some j → (j < length own) × (slice_index_or own j None ≡ held)
found own held j e =
    let f = position-Some (λ cell. option_eq nat_eq cell held) own j None e in
    (f.0, is_held (slice_index_or own j None) held f.1)

-- where a place is not found, no cell has it
pub not_found : (own : List (Option ℕ)) (p : ℕ) → position (λ cell. option_eq nat_eq cell (Some p)) own ≡ None → has_place own p ≡ false
not_found own p e =
    let l = none_passes (λ cell. option_eq nat_eq cell (Some p)) own e in
    list_any_none (λ cell. option_eq nat_eq cell (Some p)) own (λ k d b. fails_before_first (λ cell. option_eq nat_eq cell (Some p)) own k d (omega arith))

-- cells of which none is free
taken : (own : List (Option ℕ)) → length own ≤ position_or_len (λ cell. option_eq nat_eq cell None) own → count_by is_some own ≡ length own
taken [] l = refl
taken (None ∷ own) l = absurd (omega arith)
taken (Some q ∷ own) l = omega (arith, taken own (omega arith), sum_by-cons (λ cell. cond (is_some cell) 1 0) (Some q) own)

-- cells of which one is free
some_free : (own : List (Option ℕ)) (j : ℕ) → j < length own → slice_index_or own j None ≡ None → count_by is_some own < length own
some_free [] j l e = absurd (omega arith)
some_free (None ∷ own) zero l e =
    omega (arith, count_by-le-length is_some own, sum_by-cons (λ cell. cond (is_some cell) 1 0) None own)
some_free (Some q ∷ own) zero l e = absurd (cc)
some_free (x ∷ own) (suc j) l e = grind (arith, some_free own j (omega arith) e, sum_by-cons (λ cell. cond (is_some cell) 1 0) x own)

module _ (n : ℕ) (cells : List (List (Option ℕ))) (c : ℕ) (pairs : Pairs cells) (within : Within n cells) (apart : Apart cells) (inside : c < length cells) where
  -- a carrier with no free cell holds two places
  pub full : position (λ cell. option_eq nat_eq cell None) (cells_of cells c) ≡ None → held (spread n cells) c ≡ 2
  full e =
      held-cells n cells c within apart
      ∙ taken (cells_of cells c) (none_passes (λ cell. option_eq nat_eq cell None) (cells_of cells c) e)
      ∙ pairs c inside

  -- a carrier with a free cell holds fewer
  pub room : (j : ℕ) → in_cell cells c j ≡ None → j < length (cells_of cells c) → held (spread n cells) c < 2
  room j e l =
      omega (arith, held-cells n cells c within apart, some_free (cells_of cells c) j l e, pairs c inside)
