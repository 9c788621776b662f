-- The holders that the cells give.
use Rattle.std.specs.Prelude.{◌≡◌, ℕ, zero, suc, ◌+◌, ◌<◌, ◌≤◌, Bool, true, false, cond, ◌||◌, List, [], ◌∷◌, length, map, count_by, is_some, Some, None, Option, nat_eq, nat_lt, slice_index_or, refl}
use Rattle.std.specs.List.{range_with_len}
use Rattle.std.proofs.Common.{sym, ◌∙◌, ap, ⊎_elim, add-one, arith}
use Rattle.std.proofs.lemmas.List.{get_or_past}
use Rattle.std.proofs.lemmas.List.FromFn.{length-map-range_with_len, get_or-map-range_with_len, sum_by-map-range_with_len_more}
use Rattle.std.proofs.lemmas.List.Sums.{count_by-le-length, sum_by-cons}
use Rattle.std.proofs.lemmas.Bool.{cases_lt, cases_Bool}
use Rattle.std.proofs.lemmas.Bool.Decides.{nat_tests}
use Rattle.boards.specs.Holders.{holder_of, held, is_holder, AllBelow, Known, AtMostTwo}
use Rattle.boards.proofs.Holding.{one, held_sum, some_inside}
use Rattle.carrier_board.specs.Cells.{cells_of, has_place, carrier_of, spread, Pairs, Within, Apart}
use Rattle.carrier_board.specs.Finding.{has_where, somewhere, carries}

pub length-spread : (n : ℕ) (cells : List (List (Option ℕ))) → length (spread n cells) ≡ n
unfolding spread
length-spread n cells = length-map-range_with_len (carrier_of cells) 0 n

pub holder_spread : (n : ℕ) (cells : List (List (Option ℕ))) (p : ℕ) → p < n → holder_of (spread n cells) p ≡ carrier_of cells p
unfolding spread
holder_spread n cells p l = get_or-map-range_with_len (carrier_of cells) 0 n p p None l (omega arith)

pub known_spread : (n : ℕ) (cells : List (List (Option ℕ))) → length cells ≡ 32 → Known (spread n cells)
known_spread n cells long p h e =
    let l : p < n = omega (arith, some_inside (spread n cells) p h e, length-spread n cells) in
    omega (arith, (somewhere cells p h (sym (holder_spread n cells p l) ∙ e)).0)

-- how many numbers below n pass
abbrev below : (ℕ → Bool) → ℕ → ℕ
below test zero = 0
below test (suc n) = below test n + cond (test n) 1 0

below_same : (f g : ℕ → Bool) (n : ℕ) → ((i : ℕ) → f i ≡ g i) → below f n ≡ below g n
below_same f g zero same = refl
below_same f g (suc n) same = rw (same n, below_same f g n same)

below_false : (n : ℕ) → below (λ p. false) n ≡ 0
below_false zero = refl
below_false (suc n) = omega (arith, below_false n)

-- one more number that passes
below_or : (test : ℕ → Bool) (q n : ℕ) → test q ≡ false → below (λ p. nat_eq q p || test p) n ≡ below test n + cond (nat_lt q n) 1 0
below_or test q zero fails = grind (arith, nat_tests)
below_or test q (suc n) fails = grind (arith, nat_tests, below_or test q n fails)

-- as many numbers below n are in a carrier's cells as those cells have places
below_own : (own : List (Option ℕ)) (n : ℕ) → AllBelow n own → ((i j p : ℕ) → slice_index_or own i None ≡ Some p → slice_index_or own j None ≡ Some p → i ≡ j) → below (has_place own) n ≡ count_by is_some own
below_own [] n within apart = below_false n
below_own (None ∷ own) n within apart =
    below_own own n (λ i. within (suc i)) (λ i j p e f. omega (arith, apart (suc i) (suc j) p e f))
below_own (Some q ∷ own) n within apart =
    let rest = below_own own n (λ i. within (suc i)) (λ i j p e f. omega (arith, apart (suc i) (suc j) p e f)) in
    ⊎_elim
    (λ (b : has_place own q ≡ true). let w = has_where own q b in absurd (omega (arith, apart zero (suc w.0) q refl w.1)))
    (λ (b : has_place own q ≡ false).
    let l = within zero q refl in
    let s : below (has_place own) n + cond (nat_lt q n) 1 0 ≡ 1 + count_by is_some own = grind (arith, nat_tests) in
    below_or (has_place own) q n b ∙ s ∙ sym (sum_by-cons (λ cell. cond (is_some cell) 1 0) (Some q) own))
    (cases_Bool (has_place own q))

held_below : (f : ℕ → Option ℕ) (c n : ℕ) → held (map f (range_with_len 0 n)) c ≡ below (λ p. is_holder (f p) c) n
held_below f c zero = held_sum [] c
held_below f c (suc n) =
    let more = rw add-one at (sum_by-map-range_with_len_more (λ h. one h c) f 0 n n (omega arith)) in
    omega (arith, held_sum (map f (range_with_len 0 (suc n))) c, held_sum (map f (range_with_len 0 n)) c, held_below f c n)

-- a carrier holds as many places as its cells have
pub held-cells : (n : ℕ) (cells : List (List (Option ℕ))) (c : ℕ) → Within n cells → Apart cells → held (spread n cells) c ≡ count_by is_some (cells_of cells c)
unfolding spread
held-cells n cells c within apart =
    held_below (carrier_of cells) c n
    ∙ below_same (λ p. is_holder (carrier_of cells p) c) (has_place (cells_of cells c)) n (carries cells apart c)
    ∙ below_own (cells_of cells c) n (within c) (λ i j p e f. (apart c c i j p e f).1)

pub few_spread : (n : ℕ) (cells : List (List (Option ℕ))) → Pairs cells → Within n cells → Apart cells → AtMostTwo (spread n cells)
few_spread n cells pairs within apart c =
    let e = held-cells n cells c within apart in
    let l = count_by-le-length is_some (cells_of cells c) in
    ⊎_elim
    (λ (b : c < length cells). omega (arith, pairs c b))
    (λ (b : length cells ≤ c). omega (arith, ap length (get_or_past cells c [] b)))
    (cases_lt c (length cells))
