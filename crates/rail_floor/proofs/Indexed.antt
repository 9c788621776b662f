-- Legs in order: where those of a place stand in the list.
use Rattle.std.proofs.Common.{◌≡◌, ℕ, zero, suc, ◌+◌, ◌<◌, ◌≤◌, true, false, eqb, ltb, List, [], ◌∷◌, length, take, drop, map, Some, Option, refl, sym, ap, ◌∙◌, inl, inr, arith}
use Rattle.std.proofs.lemmas.Bool.Decides.{nat_tests}
use Rattle.std.proofs.lemmas.Bool.{cases_lt, cases_eq, lt-ltb, le-ltb, eq-eqb, ne_eqb}
use Rattle.std.proofs.lemmas.Option.{slice_get-map, slice_get-get_or}
use Rattle.std.proofs.lemmas.List.{length-map, nil_from_length}
use Rattle.std.specs.List.{slice_get}
use Rattle.std.specs.Option.{option_map}
use Rattle.std.specs.List.Sorted.{IsNonDecreasingBy, IsPartitionPoint}
use Rattle.rail_floor.specs.declared.legs.Leg.{Leg}
use Rattle.rail_floor.specs.Rails.{fits_legs, legs_at, exits_of, below}
use Rattle.rail_floor.specs.Ordered.{head_fits, tail_fits, next_before, all_before, exits_beyond}

pub below_le : (ls : List Leg) (p : ℕ) → below ls p ≤ length ls
unfolding below
below_le [] p = omega arith
below_le (l ∷ ls) p = let k = below_le ls p in grind (arith, nat_tests)

pub below_next : (ls : List Leg) (p : ℕ) → below ls (p + 1) ≡ below ls p + length (legs_at ls p)
unfolding below
below_next [] p = omega arith
below_next (l ∷ ls) p = let k = below_next ls p in grind (arith, nat_tests)

below_none : (n : ℕ) (b : Leg) (ls : List Leg) (p : ℕ) → fits_legs n (Some b) ls ≡ true → p ≤ b.from → below ls p ≡ 0
unfolding below
below_none n b [] p h k = refl
below_none n b (l ∷ ls) p h k =
    let o = next_before n b l (head_fits n (Some b) l ls h) in
    let r = below_none n l ls p (tail_fits n (Some b) l ls h) (omega (arith, o.from)) in
    grind (arith, nat_tests)

legs_none : (n : ℕ) (b : Leg) (ls : List Leg) (p : ℕ) → fits_legs n (Some b) ls ≡ true → p < b.from → legs_at ls p ≡ []
legs_none n b ls p h k = nil_from_length _ (omega (arith, below_next ls p, below_none n b ls (p + 1) h (omega arith)))

-- the legs from a place are the part of the list that begins behind those from the places below
pub legs_at_part : (n : ℕ) (b : Option Leg) (ls : List Leg) (p : ℕ) → fits_legs n b ls ≡ true → take (length (legs_at ls p)) (drop (below ls p) ls) ≡ legs_at ls p
unfolding below
legs_at_part n b [] p h = refl
legs_at_part n b (l ∷ ls) p h =
    let t = tail_fits n b l ls h in
    let z = below_none n l ls p t in
    elim (cases_lt l.from p) as (λ _. take (length (legs_at (l ∷ ls) p)) (drop (below (l ∷ ls) p) (l ∷ ls)) ≡ legs_at (l ∷ ls) p) [
      | inl lower ↦
          let apart : eqb l.from p ≡ false = ne_eqb _ _ (omega arith) in
          let next : 1 + below ls p ≡ suc (below ls p) = omega arith in
          rw (lt-ltb _ _ lower, apart, next) (legs_at_part n (Some l) ls p t)
      | inr upper ↦ elim (cases_eq l.from p) as (λ _. take (length (legs_at (l ∷ ls) p)) (drop (below (l ∷ ls) p) (l ∷ ls)) ≡ legs_at (l ∷ ls) p) [
        | inl same ↦ let y : 0 + below ls p ≡ 0 = omega (arith, z upper) in rw (le-ltb _ _ upper, eq-eqb _ _ same, y) (ap (λ (ys : List Leg). l ∷ ys) (rw (z upper) at (legs_at_part n (Some l) ls p t)))
        | inr apart ↦ let y = legs_none n l ls p t (omega arith) in grind (arith, nat_tests)
      ]
    ]

pub exits_of-map : (ls : List Leg) (p : ℕ) → exits_of ls p ≡ map (λ (l : Leg). l.to) (legs_at ls p)
unfolding exits_of
exits_of-map [] p = refl
exits_of-map (l ∷ ls) p = let r = exits_of-map ls p in grind (arith, nat_tests)

pub length-exits_of : (ls : List Leg) (p : ℕ) → length (exits_of ls p) ≡ length (legs_at ls p)
length-exits_of ls p = ap length (exits_of-map ls p) ∙ length-map (legs_at ls p) (λ (l : Leg). l.to)

pub slice_get-exits_of : (ls : List Leg) (p i : ℕ) → slice_get (exits_of ls p) i ≡ option_map (λ (l : Leg). l.to) (slice_get (legs_at ls p) i)
slice_get-exits_of ls p i = ap (λ (xs : List ℕ). slice_get xs i) (exits_of-map ls p) ∙ slice_get-map (λ (l : Leg). l.to) (legs_at ls p) i

-- a place beyond the floor has none
pub legs_beyond : (n : ℕ) (b : Option Leg) (ls : List Leg) (p : ℕ) → fits_legs n b ls ≡ true → n ≤ p → legs_at ls p ≡ []
legs_beyond n b ls p h k = nil_from_length _ (sym (length-exits_of ls p) ∙ ap length (exits_beyond n b ls p h k))

-- legs in order rise by where they begin
pub rise_by_from : (n : ℕ) (b : Option Leg) (ls : List Leg) → fits_legs n b ls ≡ true → IsNonDecreasingBy (λ (l : Leg). l.from) ls
rise_by_from n b [] h i j d le in_range = absurd (omega arith)
rise_by_from n b (l ∷ ls) h zero zero d le in_range = omega arith
rise_by_from n b (l ∷ ls) h zero (suc j) d le in_range =
    (all_before n l ls j _ (tail_fits n b l ls h) (slice_get-get_or ls j d (omega arith))).from
rise_by_from n b (l ∷ ls) h (suc i) zero d le in_range = absurd (omega arith)
rise_by_from n b (l ∷ ls) h (suc i) (suc j) d le in_range = rise_by_from n (Some l) ls (tail_fits n b l ls h) i j d (omega arith) (omega arith)

-- the place in the list where the legs no longer begin below p
pub below_point : (ls : List Leg) (p i : ℕ) → i ≤ length ls → IsPartitionPoint (λ (l : Leg). ltb l.from p ≡ true) (λ (l : Leg). ltb l.from p ≡ false) ls i → below ls p ≡ i
unfolding below
below_point [] p i in_range point = omega arith
below_point (l ∷ ls) p zero in_range point =
    let head : ltb l.from p ≡ false = point.1 0 l (omega arith) (omega arith) in
    let r = below_point ls p 0 (omega arith) ((λ k d low high. absurd (omega arith)), (λ k d low high. point.1 (suc k) d (omega arith) (omega arith))) in
    rw head (omega arith)
below_point (l ∷ ls) p (suc i) in_range point =
    let head : ltb l.from p ≡ true = point.0 0 l (omega arith) (omega arith) in
    let r = below_point ls p i (omega arith) ((λ k d low high. point.0 (suc k) d (omega arith) (omega arith)), (λ k d low high. point.1 (suc k) d (omega arith) (omega arith))) in
    rw head (omega arith)

-- where a leg stands that begins below p, and one that does not
pub below_passed : (n : ℕ) (b : Option Leg) (ls : List Leg) (p k : ℕ) (x : Leg) → fits_legs n b ls ≡ true → slice_get ls k ≡ Some x → x.from < p → k < below ls p
unfolding below
below_passed n b [] p k x h e o = let z : ◌≡◌ {A = ℕ} 0 1 = cc in omega arith
below_passed n b (l ∷ ls) p zero x h e o = let q : l ≡ x = cc in let s : l.from ≡ x.from = ap (λ (y : Leg). y.from) q in grind (arith, nat_tests)
below_passed n b (l ∷ ls) p (suc k) x h e o =
    let t = tail_fits n b l ls h in
    let r = below_passed n (Some l) ls p k x t e o in
    let m = all_before n l ls k x t e in
    grind (arith, nat_tests)

pub below_stops : (n : ℕ) (b : Option Leg) (ls : List Leg) (p k : ℕ) (x : Leg) → fits_legs n b ls ≡ true → slice_get ls k ≡ Some x → p ≤ x.from → below ls p ≤ k
unfolding below
below_stops n b [] p k x h e o = omega arith
below_stops n b (l ∷ ls) p zero x h e o =
    let q : l ≡ x = cc in
    let s : l.from ≡ x.from = ap (λ (y : Leg). y.from) q in
    let z = below_none n l ls p (tail_fits n b l ls h) (omega arith) in
    grind (arith, nat_tests)
below_stops n b (l ∷ ls) p (suc k) x h e o = let r = below_stops n (Some l) ls p k x (tail_fits n b l ls h) e o in grind (arith, nat_tests)
