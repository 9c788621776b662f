-- What a write of one cell leaves: no place comes to be in two cells, and only the place written has another carrier.
use Rattle.std.proofs.Common.{◌≡◌, ℕ, zero, suc, ◌<◌, ◌≢◌, ◌⊎◌, true, false, List, [], ◌∷◌, length, set, nat_eq, Some, None, Option, slice_index_or, slice_set, refl, sym, ◌∙◌, ap, inl, inr, ⊎_elim, arith, length-set}
use Rattle.std.specs.Option.{option_eq}
use Rattle.std.proofs.lemmas.List.{get_or-set_same, get_or-set_other}
use Rattle.std.proofs.lemmas.List.Folds.{list_any_at, position_or_len-set}
use Rattle.std.proofs.lemmas.List.FromFn.{fill_by_all}
use Rattle.std.proofs.lemmas.Bool.{cases_eq, eq-eqb, ne_eqb, eqb-true, false≢true}
use Rattle.boards.specs.Holders.{holder_of, is_holder}
use Rattle.boards.proofs.Holding.{some_inside}
use Rattle.carrier_board.specs.Cells.{cells_of, in_cell, has_place, carrier_of, spread, Pairs, Within, Apart}
use Rattle.carrier_board.specs.Finding.{has_where, somewhere, carries}
use Rattle.carrier_board.specs.Spreading.{length-spread, holder_spread}

-- a cell with a place is found among the cells
pub has_at : (own : List (Option ℕ)) (i p : ℕ) → slice_index_or own i None ≡ Some p → has_place own p ≡ true
has_at own i p e =
    list_any_at (λ cell. option_eq nat_eq cell (Some p)) own i None (some_inside own i p e) (ap (λ cell. option_eq nat_eq cell (Some p)) e ∙ eq-eqb p p refl)

pub is_carrier : (found : Option ℕ) (c : ℕ) → is_holder found c ≡ true → found ≡ Some c
is_carrier None c e = absurd (false≢true e)
is_carrier (Some d) c e = ap (λ w. Some w) (eqb-true d c e)

-- a write changes no place that is neither written nor written over
has-set : (own : List (Option ℕ)) (i : ℕ) (y : Option ℕ) (q : ℕ) → (slice_index_or own i None ≢ Some q) → (y ≢ Some q) → has_place (set own i y) q ≡ has_place own q
has-set [] i y q old new = refl
has-set (x ∷ own) zero y q old new = rw (is_other y q new, is_other x q old)
  where
    is_other : (x : Option ℕ) (q : ℕ) → (x ≢ Some q) → option_eq nat_eq x (Some q) ≡ false
    is_other None q n = refl
    is_other (Some p) q n = ne_eqb p q (λ e. n (ap (λ w. Some w) e))
has-set (x ∷ own) (suc i) y q old new = rw (has-set own i y q old new)

-- the cells after cell j of carrier c got y
abbrev pub written : List (List (Option ℕ)) → ℕ → ℕ → Option ℕ → List (List (Option ℕ))
written cells c j y = slice_set cells c (slice_set (cells_of cells c) j y)

module _ (cells : List (List (Option ℕ))) (c j : ℕ) (y : Option ℕ) (inside : c < length cells) (here : j < length (cells_of cells c)) where
  same_cell : in_cell (written cells c j y) c j ≡ y
  same_cell =
      ap (λ own. slice_index_or own j None) (get_or-set_same cells c (slice_set (cells_of cells c) j y) [] inside)
      ∙ get_or-set_same (cells_of cells c) j y None here

  -- a cell afterwards is the one written, or as it was
  cell_after : (d i : ℕ) → ((d ≡ c) × (i ≡ j) × (in_cell (written cells c j y) d i ≡ y)) ⊎ (((d ≡ c) × (i ≡ j) → ⊥) × (in_cell (written cells c j y) d i ≡ in_cell cells d i))
  cell_after d i =
      ⊎_elim
      (λ (s : d ≡ c). ⊎_elim
      (λ (t : i ≡ j). inl (s, t, ap (λ k. in_cell (written cells c j y) k i) s ∙ ap (in_cell (written cells c j y) c) t ∙ same_cell))
      (λ (t : i ≢ j). inr (
        (λ b. t b.1),
        ap (λ k. in_cell (written cells c j y) k i) s
            ∙ ap (λ own. slice_index_or own i None) (get_or-set_same cells c (slice_set (cells_of cells c) j y) [] inside)
            ∙ get_or-set_other (cells_of cells c) j i y None t
            ∙ ap (λ k. in_cell cells k i) (sym s),
      ))
      (cases_eq i j))
      (λ (s : d ≢ c). inr ((λ b. s b.0), ap (λ own. slice_index_or own i None) (get_or-set_other cells c d (slice_set (cells_of cells c) j y) [] s)))
      (cases_eq d c)

  pub pairs_written : Pairs cells → Pairs (written cells c j y)
  pairs_written pairs d l =
      ⊎_elim
      (λ (s : d ≡ c).
      ap (λ k. length (cells_of (written cells c j y) k)) s
      ∙ ap length (get_or-set_same cells c (slice_set (cells_of cells c) j y) [] inside)
      ∙ length-set (cells_of cells c) j y
      ∙ pairs c inside)
      (λ (s : d ≢ c).
      ap length (get_or-set_other cells c d (slice_set (cells_of cells c) j y) [] s)
      ∙ pairs d (omega (arith, length-set cells c (slice_set (cells_of cells c) j y))))
      (cases_eq d c)

  pub within_written : (n : ℕ) → Within n cells → ((q : ℕ) → y ≡ Some q → q < n) → Within n (written cells c j y)
  within_written n within new d i q e = ⊎_elim (λ w. new q (sym w.2 ∙ e)) (λ w. within d i q (sym w.1 ∙ e)) (cell_after d i)

  pub apart_written : Apart cells → ((d i q : ℕ) → y ≡ Some q → in_cell cells d i ≢ Some q) → Apart (written cells c j y)
  apart_written apart new d e i k q s t =
      ⊎_elim
      (λ v. ⊎_elim
      (λ w. (v.0 ∙ sym w.0, v.1 ∙ sym w.1))
      (λ w. absurd (new e k q (sym v.2 ∙ s) (sym w.1 ∙ t)))
      (cell_after e k))
      (λ v. ⊎_elim
      (λ w. absurd (new d i q (sym w.2 ∙ t) (sym v.1 ∙ s)))
      (λ w. apart d e i k q (sym v.1 ∙ s) (sym w.1 ∙ t))
      (cell_after e k))
      (cell_after d i)

  -- a place that is neither written nor written over has the carrier that it had
  other_carrier : (q : ℕ) → (in_cell cells c j ≢ Some q) → (y ≢ Some q) → carrier_of (written cells c j y) q ≡ carrier_of cells q
  other_carrier q old new =
      rw (
        position_or_len-set (λ own. has_place own q) cells c (slice_set (cells_of cells c) j y) [] (has-set (cells_of cells c) j y q old new),
        length-set cells c (slice_set (cells_of cells c) j y),
      )

  -- a place that is written has the carrier in whose cell it is written
  pub new_carrier : (p : ℕ) → y ≡ Some p → Apart (written cells c j y) → carrier_of (written cells c j y) p ≡ Some c
  new_carrier p e apart =
      is_carrier (carrier_of (written cells c j y) p) c (carries (written cells c j y) apart c p ∙ has_at (cells_of (written cells c j y) c) j p (same_cell ∙ e))

  -- a place that is written over has no carrier
  pub no_carrier : (p : ℕ) → y ≡ None → in_cell cells c j ≡ Some p → Apart cells → carrier_of (written cells c j y) p ≡ None
  no_carrier p free mine apart = go (carrier_of (written cells c j y) p) refl
    where
      go : (found : Option ℕ) → carrier_of (written cells c j y) p ≡ found → found ≡ None
      go None e = refl
      go (Some d) e =
          let w = has_where (cells_of (written cells c j y) d) p (somewhere (written cells c j y) p d e).1 in
          ⊎_elim
          (λ v. let s : ◌≡◌ {A = Option ℕ} None (Some p) = sym free ∙ sym v.2 ∙ w.1 in absurd (cc))
          (λ v. let a = apart d c w.0 j p (sym v.1 ∙ w.1) mine in absurd (v.0 (a.0, a.1)))
          (cell_after d w.0)

-- holders of which each is the carrier of its place are those that the cells give
pub is_spread : (n : ℕ) (cells : List (List (Option ℕ))) (hs : List (Option ℕ)) → length hs ≡ n → ((p : ℕ) → p < n → holder_of hs p ≡ carrier_of cells p) → hs ≡ spread n cells
unfolding spread
is_spread n cells hs long same = fill_by_all (carrier_of cells) hs n None long same

-- after a write of one cell, the place that was written or written over has another carrier, and each other place the one that it had
pub spread_written : (n : ℕ) (cells : List (List (Option ℕ))) (c j : ℕ) (y : Option ℕ) (p : ℕ) (z : Option ℕ) → c < length cells → j < length (cells_of cells c) → ((q : ℕ) → q ≢ p → in_cell cells c j ≢ Some q) → ((q : ℕ) → q ≢ p → y ≢ Some q) → carrier_of (written cells c j y) p ≡ z → spread n (written cells c j y) ≡ slice_set (spread n cells) p z
spread_written n cells c j y p z inside here old new at =
    let hs = spread n cells in
    sym (is_spread n (written cells c j y) (slice_set hs p z) (length-set hs p z ∙ length-spread n cells) (λ q l. ⊎_elim
    (λ (s : q ≡ p). ap (holder_of (slice_set hs p z)) s ∙ get_or-set_same hs p z None (omega (arith, length-spread n cells)) ∙ sym at ∙ ap (carrier_of (written cells c j y)) (sym s))
    (λ (s : q ≢ p). get_or-set_other hs p q z None s ∙ holder_spread n cells q l ∙ sym (other_carrier cells c j y inside here q (old q s) (new q s)))
    (cases_eq q p)))
