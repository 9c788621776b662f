-- Which carrier has a place.
use Rattle.std.specs.Prelude.{◌≡◌, ℕ, zero, suc, ◌<◌, ◌≤◌, ◌≢◌, Bool, true, false, List, [], ◌∷◌, length, Some, None, Option, nat_eq, slice_index_or, position, refl}
use Rattle.std.specs.List.{position_or_len}
use Rattle.std.specs.Option.{option_eq}
use Rattle.std.proofs.Common.{sym, ◌∙◌, ap, subst, ⊎_elim, arith}
use Rattle.std.proofs.lemmas.List.{get_or_past}
use Rattle.std.proofs.lemmas.List.Quantifiers.{position-Some}
use Rattle.std.proofs.lemmas.List.Sums.{fails_before_first}
use Rattle.std.proofs.lemmas.Bool.{cases_eq, cases_lt, cases_Bool, eq-eqb, ne_eqb, eqb-true, lt-ltb, false≢true}
use Rattle.boards.specs.Holders.{is_holder}
use Rattle.carrier_board.specs.Cells.{cells_of, has_place, carrier_of, Apart}

-- a cell that equals what is looked for has it
pub is_held : (cell held : Option ℕ) → option_eq nat_eq cell held ≡ true → cell ≡ held
is_held None None e = refl
is_held None (Some p) e = absurd (false≢true e)
is_held (Some q) None e = absurd (false≢true e)
is_held (Some q) (Some p) e = ap (λ w. Some w) (eqb-true q p e)

-- a place that is found among the cells is in one of them
pub has_where : (own : List (Option ℕ)) (p : ℕ) → has_place own p ≡ true → (i : ℕ) × (slice_index_or own i None ≡ Some p)
has_where [] p e = absurd (false≢true e)
has_where (cell ∷ own) p e =
    ⊎_elim
    (λ (b : option_eq nat_eq cell (Some p) ≡ true). (zero, is_held cell (Some p) b))
    (λ (b : option_eq nat_eq cell (Some p) ≡ false). let w = has_where own p (rw b at e) in (suc w.0, w.1))
    (cases_Bool (option_eq nat_eq cell (Some p)))

-- where no element of a list passes, the first place that passes is past its end
pub none_passes : {X : Type 0} (test : X → Bool) (xs : List X) → position test xs ≡ None → length xs ≤ position_or_len test xs
none_passes test xs e =
    ⊎_elim
    (λ (l : position_or_len test xs < length xs). let s = rw (lt-ltb (position_or_len test xs) (length xs) l) at e in absurd (cc))
    (λ (l : length xs ≤ position_or_len test xs). l)
    (cases_lt (position_or_len test xs) (length xs))

-- a place that has no carrier is in nobody's cells
pub nowhere : (cells : List (List (Option ℕ))) (p : ℕ) → carrier_of cells p ≡ None → (c : ℕ) → has_place (cells_of cells c) p ≡ false
nowhere cells p e c =
    ⊎_elim
    (λ (l : c < length cells). fails_before_first (λ own. has_place own p) cells c [] (omega (arith, none_passes (λ own. has_place own p) cells e)))
    (λ (l : length cells ≤ c). ap (λ own. has_place own p) (get_or_past cells c [] l))
    (cases_lt c (length cells))

-- a carrier that is found is one of the carriers, and has the place
pub somewhere : (cells : List (List (Option ℕ))) (p c : ℕ) → carrier_of cells p ≡ Some c → (c < length cells) × (has_place (cells_of cells c) p ≡ true)
somewhere cells p c e = let f = position-Some (λ own. has_place own p) cells c [] e in (f.0, f.1)

-- where cells are apart, the carrier of a place is the one that has it
pub carries : (cells : List (List (Option ℕ))) → Apart cells → (c p : ℕ) → is_holder (carrier_of cells p) c ≡ has_place (cells_of cells c) p
carries cells apart c p = go (carrier_of cells p) refl
  where
    go : (found : Option ℕ) → carrier_of cells p ≡ found → is_holder found c ≡ has_place (cells_of cells c) p
    go None e = sym (nowhere cells p e c)
    go (Some d) e =
        let here = (somewhere cells p d e).1 in
        ⊎_elim
        (λ (s : d ≡ c). eq-eqb d c s ∙ sym (subst (λ (k : ℕ). has_place (cells_of cells k) p ≡ true) s here))
        (λ (n : d ≢ c).
        ne_eqb d c n
        ∙ sym (⊎_elim
        (λ (b : has_place (cells_of cells c) p ≡ true).
        let i = has_where (cells_of cells d) p here in
        let j = has_where (cells_of cells c) p b in
        absurd (n (apart d c i.0 j.0 p i.1 j.1).0))
        (λ (b : has_place (cells_of cells c) p ≡ false). b)
        (cases_Bool (has_place (cells_of cells c) p))))
        (cases_eq d c)
