-- The circular wait that is computed is the one named.
use Rattle.std.proofs.Common.{◌≡◌, ℕ, suc, ◌-◌, ◌<◌, ◌≤◌, List, [], ◌∷◌, length, Some, None, Option, refl, ap, ◌∙◌, subst, ⊎_elim, arith}
use Rattle.floors.specs.Exits.{has}
use Rattle.store_floor.specs.Layout.{Layout}
use Rattle.plans.specs.Plan.{Plan}
use Rattle.laws.specs.declared.pairs.Pair.{Pair}
use Rattle.laws.specs.Paths.{carriers, entry, last}
use Rattle.laws.specs.Chains.{NoCircularWait, Written, Named}
use Rattle.laws.specs.Naming.{pair, led, first_chain, first_wait, named, Names, WaitsAreNamed}
use Rattle.laws.proofs.Searched.{first_none, first_some}
use Rattle.laws.proofs.Chained.{Foremost, Finds, After, reworded, led_finds, pairs_found, chain_found}
use Rattle.laws.proofs.Rounds.{Closes, closes_written, written_closes, first_leg, no_more_than_carriers, each_can_be_written, one_is_named}

wait_found : (p : Plan) (n : ℕ) → 0 < n → Finds (Written p) (suc n) (first_wait p n)
unfolding first_wait
wait_found p n more =
    pairs_found (Written p) n (carriers p) (last p)
    (λ c t. led c t (first_chain p c (entry p c t) n (c ∷ []) (entry p c (suc t))))
    (first_leg p)
    (λ c t h k. led_finds (Written p) n c t _
    (reworded (Closes p c t) (After (Written p) c t) n
    (λ xs l o. closes_written p c t xs h k (omega arith) o)
    (λ xs l w. written_closes p c t xs w) _
    (chain_found p c (entry p c t) n (c ∷ []) (entry p c (suc t)))))

-- Where the sizes below n + 2 are searched in vain, no written circular wait has one of them.
sizes_passed : (p : Plan) (n : ℕ) → ((i : ℕ) → i < n → first_wait p (suc i) ≡ None) → (v : List Pair) → length v < suc (suc n) → Written p v → ⊥
sizes_passed p n none v h w =
    let more = w.circular.more in
    let f : Finds (Written p) (suc (suc (length v - 2))) None = subst (Finds (Written p) (suc (suc (length v - 2)))) (none (length v - 2) (omega arith)) (wait_found p (suc (length v - 2)) (omega arith)) in
    f v (omega arith) w

-- The first of a size is the one named, if no smaller size has any.
pub first_is_named : (p : Plan) (n : ℕ) (w : List Pair) → ((v : List Pair) → length v < n → Written p v → ⊥) → Foremost (Written p) n w → Named p w
first_is_named p n w none f =
    record {
      written = f.is;
      first = λ v x b. ⊎_elim (λ lt. none v (omega (arith, lt, f.long)) x) (λ s. f.least v (s.0 ∙ f.long) x s.1) b;
    }

-- There is none at all, if no size up to the number of carriers has any.
pub none_from_sizes : (p : Plan) → ((v : List Pair) → length v ≤ carriers p → Written p v → ⊥) → NoCircularWait p
none_from_sizes p none w c =
    let v = each_can_be_written p w c in
    none v.writing (no_more_than_carriers p v.writing v.written) v.written

pub waits_are_named : WaitsAreNamed
unfolding named
waits_are_named p = go (named p) refl
  where
    go : (o : Option (List Pair)) → named p ≡ o → Names p o
    go None e = none_from_sizes p (λ v h. sizes_passed p (carriers p - 1) (first_none (carriers p - 1) (λ n. first_wait p (suc n)) e) v (omega arith))
    go (Some w) e =
        let a = first_some (carriers p - 1) (λ n. first_wait p (suc n)) w e in
        first_is_named p (suc (suc a.0)) w (sizes_passed p a.0 a.3) (subst (Finds (Written p) (suc (suc a.0))) a.2 (wait_found p (suc a.0) (omega arith)))

-- Nothing else is the one named than what is computed.
pub names_only : (p : Plan) (o : Option (List Pair)) → Names p o → named p ≡ o
names_only p o h = go (named p) o (waits_are_named p) h
  where
    go : (a b : Option (List Pair)) → Names p a → Names p b → a ≡ b
    go None None x y = refl
    go None (Some w) x y = absurd (x w y.written.circular)
    go (Some v) None x y = absurd (y v x.written.circular)
    go (Some v) (Some w) x y = ap (λ u. Some u) (one_is_named p v w x y)

-- Two carriers on one way in opposite directions: named are the first leg of the one, from 0 to 1, and the last leg of the other, from 1 to 0.
pub head_on_lem : (floor : Layout)
    → named (record {
      floor = floor;
      carriers = record { start = 0; goal = 3; path = 0 ∷ 1 ∷ 2 ∷ 3 ∷ [] } ∷ record { start = 3; goal = 0; path = 3 ∷ 2 ∷ 1 ∷ 0 ∷ [] } ∷ [];
    })
    ≡ Some (pair 0 0 ∷ pair 1 2 ∷ [])
unfolding named first_wait first_chain entry last has
head_on_lem floor = refl
