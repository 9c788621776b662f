-- Circular waits: each can be written from its lowest carrier on, has no more legs than there are carriers, and one is named at most.
use Rattle.std.proofs.Common.{◌≡◌, ℕ, zero, suc, ◌+◌, ◌<◌, ◌≤◌, false, cond, eqb, ◌⊎◌, List, [], ◌∷◌, ◌++◌, length, sym, refl, ap, subst, inl, inr, ⊎_elim, arith}
use Rattle.std.proofs.lemmas.List.{append_assoc, append-nil, length-append}
use Rattle.std.proofs.lemmas.Bool.{cases_eq, cases_order, eq-eqb, ne_eqb}
use Rattle.floors.specs.Exits.{has}
use Rattle.plans.specs.Plan.{Plan}
use Rattle.laws.specs.declared.pairs.Pair.{Pair}
use Rattle.laws.specs.Paths.{carriers, Carrier, entry, HasLeg}
use Rattle.laws.specs.Chains.{IsLeg, begin, end, Linked, Absent, Apart, CircularWait, Above, Written, Earlier}
use Rattle.laws.specs.Naming.{pair, OneIsNamed, EachCanBeWritten}
use Rattle.laws.proofs.Chained.{Free, join_free, split_free, Onward, parted}

-- A round begun at its second leg.
linked_on : (p : Plan) (x : Pair) (u : ℕ) (xs : List Pair) → IsLeg p x → Linked p u (begin p x) xs → Linked p u (end p x) (xs ++ (x ∷ []))
unfolding Linked
linked_on p x u [] i l = (i, sym l, refl)
linked_on p x u (y ∷ ys) i l = (l.0, l.1, linked_on p x (end p y) ys i l.2)

absent_on : (c : ℕ) (x : Pair) (xs : List Pair) → Absent c xs → (x.carrier ≡ c → ⊥) → Absent c (xs ++ (x ∷ []))
unfolding Absent
absent_on c x [] a ne = (ne, tt)
absent_on c x (y ∷ ys) a ne = (a.0, absent_on c x ys a.1 ne)

apart_on : (x : Pair) (xs : List Pair) → Absent x.carrier xs → Apart xs → Apart (xs ++ (x ∷ []))
unfolding Absent Apart
apart_on x [] a b = (tt, tt)
apart_on x (y ∷ ys) a b = (absent_on y.carrier x ys b.0 (λ e. a.0 (sym e)), apart_on x ys a.1 b.1)

turned : (p : Plan) (x : Pair) (xs : List Pair) → CircularWait p (x ∷ xs) → CircularWait p (xs ++ (x ∷ []))
unfolding Linked Apart
turned p x xs c =
    let l = c.chain.linked in
    record {
      place = end p x;
      chain = record {
        linked = linked_on p x (end p x) xs l.0 (subst (λ (v : ℕ). Linked p (end p x) v xs) (sym l.1) l.2);
        apart = apart_on x xs c.chain.apart.0 c.chain.apart.1;
      };
      more = simp length-append (omega (arith, c.more));
    }

-- A round begun at any leg.
rotated : (p : Plan) (xs ys : List Pair) → CircularWait p (xs ++ ys) → CircularWait p (ys ++ xs)
rotated p [] ys c = rw append-nil c
rotated p (x ∷ xs) ys c =
    let a : CircularWait p (xs ++ (ys ++ (x ∷ []))) = subst (CircularWait p) (append_assoc xs ys (x ∷ [])) (turned p x (xs ++ ys) c) in
    subst (CircularWait p) (append_assoc ys (x ∷ []) xs) (rotated p xs (ys ++ (x ∷ [])) a)

above_append : (c : ℕ) (xs ys : List Pair) → Above c xs → Above c ys → Above c (xs ++ ys)
unfolding Above
above_append c [] ys a b = b
above_append c (x ∷ xs) ys a b = (a.0, above_append c xs ys a.1 b)

above_less : (b c : ℕ) → b < c → (xs : List Pair) → Above c xs → Above b xs
unfolding Above
above_less b c h [] a = tt
above_less b c h (x ∷ xs) a = (omega (arith, a.0), above_less b c h xs a.1)

absent_at : (c : ℕ) (xs : List Pair) (y : Pair) (ys : List Pair) → Absent c (xs ++ (y ∷ ys)) → y.carrier ≡ c → ⊥
unfolding Absent
absent_at c [] y ys a = a.0
absent_at c (x ∷ xs) y ys a = absent_at c xs y ys a.1

-- where a list's lowest carrier stands
record Lowest (w : List Pair) : Type 0 where
  front : List Pair
  one : Pair
  back : List Pair
  is : w ≡ front ++ (one ∷ back)
  over_front : Above one.carrier front
  over_back : Above one.carrier back

lowest : (x : Pair) (xs : List Pair) → Apart (x ∷ xs) → Lowest (x ∷ xs)
unfolding Apart Above
lowest x [] a = record { front = []; one = x; back = []; is = refl; over_front = tt; over_back = tt }
lowest x (y ∷ ys) a = go (lowest y ys a.1)
  where
    go : Lowest (y ∷ ys) → Lowest (x ∷ (y ∷ ys))
    go r = pick (cases_order x.carrier r.one.carrier)
      where
        pick : (x.carrier ≡ r.one.carrier) ⊎ ((x.carrier < r.one.carrier) ⊎ (r.one.carrier < x.carrier)) → Lowest (x ∷ (y ∷ ys))
        pick (inl e) = absurd (absent_at x.carrier r.front r.one r.back (subst (Absent x.carrier) r.is a.0) (sym e))
        pick (inr (inl lt)) =
            record {
              front = [];
              one = x;
              back = y ∷ ys;
              is = refl;
              over_front = tt;
              over_back = subst (Above x.carrier) (sym r.is)
                  (above_append x.carrier r.front (r.one ∷ r.back) (above_less _ _ lt r.front r.over_front) (lt, above_less _ _ lt r.back r.over_back));
            }
        pick (inr (inr gt)) =
            record { front = x ∷ r.front; one = r.one; back = r.back; is = ap (λ v. x ∷ v) r.is; over_front = (gt, r.over_front); over_back = r.over_back }

pub each_can_be_written : EachCanBeWritten
each_can_be_written p [] c = let k = c.more in absurd (omega arith)
each_can_be_written p (x ∷ xs) c =
    let r = lowest x xs c.chain.apart in
    record {
      writing = r.one ∷ (r.back ++ r.front);
      rotated = record { front = r.front; back = r.one ∷ r.back; was = r.is; is = refl };
      written = record {
        circular = rotated p r.front (r.one ∷ r.back) (subst (CircularWait p) r.is c);
        lowest = above_append r.one.carrier r.back r.front r.over_back r.over_front;
      };
    }

-- with leg t of c before them the legs make a written circular wait: a chain from its end to where it begins, by carriers above c
abbrev pub Closes : Plan → ℕ → ℕ → List Pair → Type 0
Closes p c t xs = Onward p c (entry p c t) (c ∷ []) (entry p c (suc t)) xs

pub closes_written : (p : Plan) (c t : ℕ) (xs : List Pair) → Carrier p c → HasLeg p c t → 0 < length xs → Closes p c t xs → Written p (pair c t ∷ xs)
unfolding Linked Apart
closes_written p c t xs h k more o =
    record {
      circular = record {
        place = entry p c t;
        chain = record { linked = (record { carrier = h; inside = k }, refl, o.chain.linked); apart = ((split_free c [] xs o.free).0, o.chain.apart) };
        more = omega arith;
      };
      lowest = o.above;
    }

all_free : (xs : List Pair) → Free [] xs
unfolding Free has
all_free [] = tt
all_free (x ∷ xs) = (refl, all_free xs)

pub written_closes : (p : Plan) (c t : ℕ) (xs : List Pair) → Written p (pair c t ∷ xs) → Closes p c t xs
unfolding Linked Apart
written_closes p c t xs w =
    let chain = w.circular.chain in
    record {
      chain = record { linked = subst (λ (v : ℕ). Linked p (entry p c (suc t)) v xs) (sym chain.linked.1) chain.linked.2; apart = chain.apart.1 };
      above = w.lowest;
      free = join_free c [] xs chain.apart.0 (all_free xs);
    }

pub first_leg : (p : Plan) (x : Pair) (xs : List Pair) → Written p (x ∷ xs) → Carrier p x.carrier × HasLeg p x.carrier x.leg
unfolding Linked
first_leg p x xs w = let l = w.circular.chain.linked.0 in (l.carrier, l.inside)

-- how many of the carriers below n are not in the list
unfoldable unused : ℕ → List ℕ → ℕ
unused zero used = 0
unused (suc n) used = unused n used + cond (has n used) 0 1

unused_same : (n c : ℕ) (used : List ℕ) → n ≤ c → unused n (c ∷ used) ≡ unused n used
unfolding unused has
unused_same zero c used h = refl
unused_same (suc n) c used h =
    let e : eqb n c ≡ false = ne_eqb n c (λ k. omega arith) in
    rw (e, unused_same n c used (omega arith))

unused_less : (n c : ℕ) (used : List ℕ) → c < n → has c used ≡ false → suc (unused n (c ∷ used)) ≡ unused n used
unfolding unused has
unused_less zero c used h f = absurd (omega arith)
unused_less (suc n) c used h f = ⊎_elim (λ e. here e) (λ ne. there ne (λ k. unused_less n c used k f)) (cases_eq n c)
  where
    here : n ≡ c → suc (unused (suc n) (c ∷ used)) ≡ unused (suc n) used
    here e = let s = unused_same n c used (omega arith) in let g : has n used ≡ false = rw e f in rw (eq-eqb n c e, g) (omega arith)

    there : (n ≡ c → ⊥) → (c < n → suc (unused n (c ∷ used)) ≡ unused n used) → suc (unused (suc n) (c ∷ used)) ≡ unused (suc n) used
    there ne s = let k = s (omega arith) in rw (ne_eqb n c ne) (omega arith)

unused_all : (n : ℕ) → unused n [] ≡ n
unfolding unused has
unused_all zero = refl
unused_all (suc n) = let e = unused_all n in omega arith

few_legs : (p : Plan) (low v : ℕ) (used : List ℕ) (u : ℕ) (xs : List Pair) → Onward p low v used u xs → length xs ≤ unused (carriers p) used
few_legs p low v used u [] o = omega arith
few_legs p low v used u (x ∷ xs) o =
    let a = parted p low v used u x xs o in
    let e = unused_less (carriers p) x.carrier used a.0.leg.carrier a.0.free in
    let r = few_legs p low v (x.carrier ∷ used) (end p x) xs a.1 in
    omega arith

pub no_more_than_carriers : (p : Plan) (w : List Pair) → Written p w → length w ≤ carriers p
unfolding has
no_more_than_carriers p [] w = omega arith
no_more_than_carriers p (x ∷ xs) w =
    let e = unused_less (carriers p) x.carrier [] (first_leg p x xs w).0 refl in
    let a = unused_all (carriers p) in
    let r = few_legs p x.carrier (begin p x) (x.carrier ∷ []) (end p x) xs (written_closes p x.carrier x.leg xs w) in
    omega arith

-- One is named at most.
same_pair : (x y : Pair) → x.carrier ≡ y.carrier → x.leg ≡ y.leg → x ≡ y
same_pair x y e f = λ i. record { carrier = e i; leg = f i }

compared : (v w : List Pair) → length v ≡ length w → (v ≡ w) ⊎ (Earlier v w ⊎ Earlier w v)
unfolding Earlier
compared [] [] l = inl refl
compared [] (y ∷ w) l = absurd (omega arith)
compared (x ∷ v) [] l = absurd (omega arith)
compared (x ∷ v) (y ∷ w) l = go (cases_order x.carrier y.carrier) (cases_order x.leg y.leg) (compared v w (omega arith))
  where
    go : (x.carrier ≡ y.carrier) ⊎ ((x.carrier < y.carrier) ⊎ (y.carrier < x.carrier)) → (x.leg ≡ y.leg) ⊎ ((x.leg < y.leg) ⊎ (y.leg < x.leg)) → (v ≡ w) ⊎ (Earlier v w ⊎ Earlier w v) → ((x ∷ v) ≡ (y ∷ w)) ⊎ (Earlier (x ∷ v) (y ∷ w) ⊎ Earlier (y ∷ w) (x ∷ v))
    go (inl e) (inl f) (inl g) = let k = same_pair x y e f in inl (cc)
    go (inl e) (inl f) (inr (inl g)) = inr (inl (inr (same_pair x y e f, g)))
    go (inl e) (inl f) (inr (inr g)) = inr (inr (inr (sym (same_pair x y e f), g)))
    go (inl e) (inr (inl f)) r = inr (inl (inl (inr (e, f))))
    go (inl e) (inr (inr f)) r = inr (inr (inl (inr (sym e, f))))
    go (inr (inl e)) f r = inr (inl (inl (inl e)))
    go (inr (inr e)) f r = inr (inr (inl (inl e)))

pub one_is_named : OneIsNamed
one_is_named p v w a b = go (cases_order (length v) (length w))
  where
    go : (length v ≡ length w) ⊎ ((length v < length w) ⊎ (length w < length v)) → v ≡ w
    go (inl e) = ⊎_elim (λ s. s) (λ s. ⊎_elim (λ f. absurd (b.first v a.written (inr (e, f)))) (λ f. absurd (a.first w b.written (inr (sym e, f)))) s) (compared v w e)
    go (inr (inl lt)) = absurd (b.first v a.written (inl lt))
    go (inr (inr gt)) = absurd (a.first w b.written (inl gt))
