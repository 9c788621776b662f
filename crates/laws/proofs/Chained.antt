-- The first chain is found.
use Rattle.std.proofs.Common.{◌≡◌, ℕ, zero, suc, ◌<◌, Bool, true, false, cond, not, ◌&&◌, eqb, ltb, ◌⊎◌, List, [], ◌∷◌, length, Some, None, Option, sym, refl, subst, ⊎_elim, arith}
use Rattle.std.proofs.lemmas.Bool.{both_ways, cond_both, ltb-true, lt-ltb, eqb-true, eq-eqb, eqb-false, ne_eqb, and_parts, and_from, or_parts, or_from, not-true, not_from_false}
use Rattle.floors.specs.Exits.{has}
use Rattle.plans.specs.Plan.{Plan}
use Rattle.laws.specs.declared.pairs.Pair.{Pair}
use Rattle.laws.specs.Paths.{carriers, Carrier, entry, last, HasLeg}
use Rattle.laws.specs.Chains.{IsLeg, begin, end, Linked, Absent, Apart, Chain, Above, Earlier}
use Rattle.laws.specs.Naming.{pair, led, first_chain}
use Rattle.laws.proofs.Searched.{first_pair, first_pair_none, first_pair_some}

-- the first of the lists of n pairs that have a property
pub record Foremost (P : List Pair → Type 0) (n : ℕ) (w : List Pair) : Type 0 where
  pub long : length w ≡ n
  pub is : P w
  pub least : (v : List Pair) → length v ≡ n → P v → Earlier v w → ⊥

-- a search for it finds it, or finds nothing since there is none
abbrev pub Finds : (List Pair → Type 0) → ℕ → Option (List Pair) → Type 0
Finds P n None = (v : List Pair) → length v ≡ n → P v → ⊥
Finds P n (Some w) = Foremost P n w

-- the same of another property that the same lists have
pub reworded : (P Q : List Pair → Type 0) (n : ℕ) → ((v : List Pair) → length v ≡ n → P v → Q v) → ((v : List Pair) → length v ≡ n → Q v → P v) → (o : Option (List Pair)) → Finds P n o → Finds Q n o
reworded P Q n to from None none = λ v l q. none v l (from v l q)
reworded P Q n to from (Some w) f = record { long = f.long; is = to w f.long f.is; least = λ v l q. f.least v l (from v l q) }

-- what may follow the pair (c, t)
abbrev pub After : (List Pair → Type 0) → ℕ → ℕ → List Pair → Type 0
After P c t xs = P (pair c t ∷ xs)

-- a search for the first list that begins with (c, t) and has n pairs more
abbrev pub FindsFrom : (List Pair → Type 0) → ℕ → ℕ → ℕ → Option (List Pair) → Type 0
FindsFrom P n c t None = (xs : List Pair) → length xs ≡ n → After P c t xs → ⊥
FindsFrom P n c t (Some w) = (xs : List Pair) × (w ≡ pair c t ∷ xs) × Foremost (After P c t) n xs

pub led_finds : (P : List Pair → Type 0) (n c t : ℕ) (o : Option (List Pair)) → Finds (After P c t) n o → FindsFrom P n c t (led c t o)
led_finds P n c t None none = none
led_finds P n c t (Some xs) f = (xs, refl, f)

-- Pair by pair: if the search from each first pair finds, so does the search over the first pairs.
module _ (P : List Pair → Type 0) (n k : ℕ) (m : ℕ → ℕ) (f : ℕ → ℕ → Option (List Pair))
    (inside : (x : Pair) (xs : List Pair) → P (x ∷ xs) → (x.carrier < k) × (x.leg < m x.carrier))
    (finds : (c t : ℕ) → c < k → t < m c → FindsFrom P n c t (f c t)) where
  none_from : (x : Pair) (xs : List Pair) → f x.carrier x.leg ≡ None → length xs ≡ n → P (x ∷ xs) → ⊥
  none_from x xs e l q =
      let b = inside x xs q in
      let none : FindsFrom P n x.carrier x.leg None = subst (FindsFrom P n x.carrier x.leg) e (finds x.carrier x.leg b.0 b.1) in
      none xs l q

  none_begins : ((x : Pair) → x.carrier < k → x.leg < m x.carrier → f x.carrier x.leg ≡ None) → (v : List Pair) → length v ≡ suc n → P v → ⊥
  none_begins none [] l q = omega arith
  none_begins none (x ∷ xs) l q = let b = inside x xs q in none_from x xs (none x b.0 b.1) (omega arith) q

  least_from : (c t : ℕ) (xs : List Pair) → ((d u : ℕ) → u < m d → (d < c) ⊎ ((d ≡ c) × (u < t)) → f d u ≡ None) → Foremost (After P c t) n xs
      → (v : List Pair) → length v ≡ suc n → P v → Earlier v (pair c t ∷ xs) → ⊥
  unfolding Earlier
  least_from c t xs before first [] l q e = e
  least_from c t xs before first (y ∷ ys) l q e =
      let h : length ys ≡ n = omega arith in
      ⊎_elim
      (λ under. none_from y ys (before y.carrier y.leg (inside y ys q).1 under) h q)
      (λ s. first.least ys h (subst (λ (x : Pair). P (x ∷ ys)) s.0 q) s.1) e

  pub pairs_found : Finds P (suc n) (first_pair k m f)
  pairs_found = go (first_pair k m f) refl
    where
      go : (o : Option (List Pair)) → first_pair k m f ≡ o → Finds P (suc n) o
      go None e = none_begins (λ x h i. first_pair_none k m f e x.carrier x.leg h i)
      go (Some w) e =
          let a = first_pair_some k m f w e in
          let s : FindsFrom P n a.one a.two (Some w) = subst (FindsFrom P n a.one a.two) a.is (finds a.one a.two a.below_one a.below_two) in
          subst (Foremost P (suc n)) (sym s.1)
          (record { long = omega (arith, s.2.long); is = s.2.is; least = least_from a.one a.two s.0 a.before s.2 })

-- no leg is of a carrier in the list
unfoldable pub Free : List ℕ → List Pair → Type 0
Free used [] = Unit {0}
Free used (x ∷ xs) = (has x.carrier used ≡ false) × Free used xs

pub split_free : (c : ℕ) (used : List ℕ) (xs : List Pair) → Free (c ∷ used) xs → Absent c xs × Free used xs
unfolding Free Absent has
split_free c used [] f = (tt, tt)
split_free c used (x ∷ xs) f =
    let e = or_parts (eqb x.carrier c) (has x.carrier used) f.0 in
    let r = split_free c used xs f.1 in
    ((eqb-false x.carrier c e.0, r.0), (e.1, r.1))

pub join_free : (c : ℕ) (used : List ℕ) (xs : List Pair) → Absent c xs → Free used xs → Free (c ∷ used) xs
unfolding Free Absent has
join_free c used [] a f = tt
join_free c used (x ∷ xs) a f = (or_from _ _ (ne_eqb x.carrier c a.0) f.0, join_free c used xs a.1 f.1)

-- a chain from u to v by carriers above low that are not in used
pub record Onward (p : Plan) (low v : ℕ) (used : List ℕ) (u : ℕ) (xs : List Pair) : Type 0 where
  pub chain : Chain p u v xs
  pub above : Above low xs
  pub free : Free used xs

-- a leg from u of a carrier above low that is not in used
pub record Open (p : Plan) (low : ℕ) (used : List ℕ) (u : ℕ) (x : Pair) : Type 0 where
  pub leg : IsLeg p x
  pub above : low < x.carrier
  pub free : has x.carrier used ≡ false
  pub begins : begin p x ≡ u

pub parted : (p : Plan) (low v : ℕ) (used : List ℕ) (u : ℕ) (x : Pair) (xs : List Pair) → Onward p low v used u (x ∷ xs) → Open p low used u x × Onward p low v (x.carrier ∷ used) (end p x) xs
unfolding Linked Apart Above Free
parted p low v used u x xs o = (
  record { leg = o.chain.linked.0; above = o.above.0; free = o.free.0; begins = o.chain.linked.1 },
  record {
    chain = record { linked = o.chain.linked.2; apart = o.chain.apart.1 };
    above = o.above.1;
    free = join_free x.carrier used xs o.chain.apart.0 o.free.1;
  },
)

joined : (p : Plan) (low v : ℕ) (used : List ℕ) (u : ℕ) (x : Pair) (xs : List Pair) → Open p low used u x → Onward p low v (x.carrier ∷ used) (end p x) xs → Onward p low v used u (x ∷ xs)
unfolding Linked Apart Above Free
joined p low v used u x xs a o =
    let s = split_free x.carrier used xs o.free in
    record {
      chain = record { linked = (a.leg, a.begins, o.chain.linked); apart = (s.0, o.chain.apart) };
      above = (a.above, o.above);
      free = (a.free, s.1);
    }

-- whether leg t of c is open, as the search tests it
abbrev tested : Plan → ℕ → List ℕ → ℕ → ℕ → ℕ → Bool
tested p low used u c t = ltb low c && (not (has c used) && eqb (entry p c t) u)

test_passed : (p : Plan) (low : ℕ) (used : List ℕ) (u c t : ℕ) → Carrier p c → HasLeg p c t → tested p low used u c t ≡ true → Open p low used u (pair c t)
test_passed p low used u c t h k e =
    let a = and_parts _ _ e in
    let b = and_parts _ _ a.1 in
    record { leg = record { carrier = h; inside = k }; above = ltb-true low c a.0; free = not-true _ b.0; begins = eqb-true _ u b.1 }

passes_test : (p : Plan) (low : ℕ) (used : List ℕ) (u c t : ℕ) → Open p low used u (pair c t) → tested p low used u c t ≡ true
passes_test p low used u c t o = and_from _ _ (lt-ltb low c o.above) (and_from _ _ (not_from_false _ o.free) (eq-eqb _ u o.begins))

leg_finds : (p : Plan) (low v n : ℕ) (used : List ℕ) (u c t : ℕ) (o : Option (List Pair)) → Carrier p c → HasLeg p c t → Finds (Onward p low v (c ∷ used) (entry p c (suc t))) n o
    → FindsFrom (Onward p low v used u) n c t (cond (tested p low used u c t) (led c t o) None)
leg_finds p low v n used u c t o h k finds =
    cond_both (tested p low used u c t) (led c t o) None (FindsFrom (Onward p low v used u) n c t)
    (λ yes. led_finds (Onward p low v used u) n c t o
    (reworded (Onward p low v (c ∷ used) (entry p c (suc t))) (After (Onward p low v used u) c t) n
    (λ xs l q. joined p low v used u (pair c t) xs (test_passed p low used u c t h k yes) q)
    (λ xs l q. (parted p low v used u (pair c t) xs q).1) o finds))
    (λ no xs l q. both_ways _ no (passes_test p low used u c t (parted p low v used u (pair c t) xs q).0))

no_legs : (p : Plan) (low v : ℕ) (used : List ℕ) (u : ℕ) → (u ≡ v → ⊥) → (xs : List Pair) → length xs ≡ 0 → Onward p low v used u xs → ⊥
unfolding Linked
no_legs p low v used u ne [] l o = ne o.chain.linked
no_legs p low v used u ne (x ∷ xs) l o = omega arith

none_earlier : (v : List Pair) → Earlier v [] → ⊥
unfolding Earlier
none_earlier [] e = e
none_earlier (x ∷ v) e = e

pub chain_found : (p : Plan) (low v n : ℕ) (used : List ℕ) (u : ℕ) → Finds (Onward p low v used u) n (first_chain p low v n used u)
unfolding first_chain Linked Apart Above Free
chain_found p low v zero used u =
    cond_both (eqb u v) (Some []) None (Finds (Onward p low v used u) 0)
    (λ yes. record { long = refl; is = record { chain = record { linked = eqb-true u v yes; apart = tt }; above = tt; free = tt }; least = λ xs l q e. none_earlier xs e })
    (λ no. no_legs p low v used u (eqb-false u v no))
chain_found p low v (suc n) used u =
    pairs_found (Onward p low v used u) n (carriers p) (last p)
    (λ c t. cond (tested p low used u c t) (led c t (first_chain p low v n (c ∷ used) (entry p c (suc t)))) None)
    (λ x xs q. let o = (parted p low v used u x xs q).0 in (o.leg.carrier, o.leg.inside))
    (λ c t h k. leg_finds p low v n used u c t _ h k (chain_found p low v n (c ∷ used) (entry p c (suc t))))
