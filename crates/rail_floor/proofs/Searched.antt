-- What a search by where legs lead finds among the legs from a place.
use Rattle.std.proofs.Common.{◌≡◌, ℕ, ◌<◌, ◌≤◌, List, [], ◌∷◌, length, map, get_or, None, ◌≢◌, Result, Ok, Err, eqb, sym, refl, ap, ◌∙◌, inl, inr, arith}
use Rattle.std.proofs.lemmas.Bool.Decides.{nat_tests}
use Rattle.std.proofs.lemmas.Bool.{cases_lt, eq-eqb, ne_eqb}
use Rattle.std.proofs.lemmas.Cmp.{ranked}
use Rattle.std.proofs.lemmas.List.{length-map, get_or-map}
use Rattle.std.proofs.lemmas.List.Sums.{position_or_len_is}
use Rattle.std.proofs.lemmas.List.Folds.{find_at}
use Rattle.std.proofs.lemmas.Option.{slice_get_past}
use Rattle.std.specs.List.{slice_get, find}
use Rattle.std.specs.List.Sorted.{IsNonDecreasingBy, IsSearchInRange, IsBinarySearchResult}
use Rattle.std.specs.Option.{option_map}
use Rattle.std.specs.Ordering.{nat_cmp, ordering_index}
use Rattle.std.specs.Result.{MatchResult}
use Rattle.floors.specs.Exits.{Rises}
use Rattle.rail_floor.specs.declared.legs.Leg.{Leg}
use Rattle.rail_floor.specs.Rails.{legs_at, length_of}

-- the length of a leg from p to q is that of the first of those from p that leads to q
pub length_of-find : (ls : List Leg) (p q : ℕ) → length_of ls p q ≡ option_map (λ (l : Leg). l.length) (find (λ (l : Leg). eqb l.to q) (legs_at ls p))
unfolding length_of
length_of-find [] p q = refl
length_of-find (l ∷ ls) p q = let r = length_of-find ls p q in grind (arith, nat_tests)

module _ (ls : List Leg) (rises : Rises (map (λ (l : Leg). l.to) ls)) (q : ℕ) where
  to_rises : (i j : ℕ) (d : Leg) → i < j → j < length ls → (get_or ls i d).to < (get_or ls j d).to
  to_rises i j d le in_range =
      let low = get_or-map (λ (l : Leg). l.to) ls i d 0 (omega arith) in
      let high = get_or-map (λ (l : Leg). l.to) ls j d 0 in_range in
      omega (arith, rises i j le (omega (arith, length-map ls (λ (l : Leg). l.to))))

  comparisons_rise : IsNonDecreasingBy (λ (l : Leg). ordering_index (nat_cmp l.to q)) ls
  comparisons_rise i j d le in_range =
      let up : i < j → (get_or ls i d).to < (get_or ls j d).to = λ lt. to_rises i j d lt in_range in
      grind (arith, nat_tests)

  -- the first that leads to q stands where none before it does
  find_first : (i : ℕ) (d : Leg) → i ≤ length ls → ((k : ℕ) → k < i → (get_or ls k d).to ≢ q) → (i < length ls → (get_or ls i d).to ≡ q) → find (λ (l : Leg). eqb l.to q) ls ≡ slice_get ls i
  find_first i d in_range before here =
      find_at (λ (l : Leg). eqb l.to q) ls
      ∙ ap (slice_get ls) (position_or_len_is (λ (l : Leg). eqb l.to q) ls i d in_range (λ k lt. ne_eqb _ _ (before k lt)) (λ lt. eq-eqb _ _ (here lt)))

  pub find_searched : (d : Leg) (r : Result ℕ ℕ) → IsSearchInRange r (length ls) → IsBinarySearchResult (λ (l : Leg). nat_cmp l.to q) ls r
      → MatchResult r (λ i. find (λ (l : Leg). eqb l.to q) ls ≡ slice_get ls i) (λ _. find (λ (l : Leg). eqb l.to q) ls ≡ None)
  find_searched d (Ok i) in_range equal =
      let here : (get_or ls i d).to ≡ q = ranked _ q _ (sym (equal d)) in
      find_first i d (omega arith) (λ k lt same. omega (arith, to_rises k i d lt in_range)) (λ _. here)
  find_searched d (Err i) in_range parted =
      let point = parted comparisons_rise in
      find_first (length ls) d (omega arith)
      (λ k lt same. elim (cases_lt k i) [
        | inl lower ↦ let m : (get_or ls k d).to < q = ranked _ q _ (sym (point.0 k d (omega arith) lower)) in omega arith
        | inr upper ↦ let m : q < (get_or ls k d).to = ranked _ q _ (sym (point.1 k d upper lt)) in omega arith
      ])
      (λ past. absurd (omega arith))
      ∙ slice_get_past ls (length ls) (omega arith)
