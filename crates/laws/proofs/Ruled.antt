-- The searches for breaches of the rules find the least.
use Rattle.std.proofs.Common.{◌≡◌, ℕ, zero, suc, pred, ◌-◌, ◌<◌, ◌≤◌, Bool, true, false, not, ◌&&◌, eqb, ltb, ◌≢◌, ◌⊎◌, Some, None, Option, sym, refl, ◌∙◌, subst, inl, inr, arith}
use Rattle.std.proofs.lemmas.Bool.{cases_lt, cases_order, and_parts, and_from, eqb-true, eq-eqb, ne_eqb, ltb-true, lt-ltb}
use Rattle.std.proofs.lemmas.Option.{none-some}
use Rattle.floors.specs.Exits.{has}
use Rattle.store_floor.specs.Layout.{exits_from}
use Rattle.plans.specs.Plan.{Plan}
use Rattle.laws.specs.Paths.{carriers, Carrier, start, goal, entries, entry, last}
use Rattle.laws.proofs.Searched.{first_none, first_some}
use Rattle.laws.specs.Rules.{or_else, first, when, NoPath, WrongEnd, NoLeg, ForeignGoal, no_path, wrong_end, no_leg, first_equal, foreign_goal, Least, NotBehind, LeastPair, LeastTriple, RulesAreSearched}

-- what a search gives: nothing, and then none gave anything; or what the first gave that gave something
pub record Finds {A : Type 0} (n : ℕ) (f : ℕ → Option A) (x : A) : Type 0 where
  pub place : ℕ
  pub below : place < n
  pub here : f place ≡ Some x
  pub before : (j : ℕ) → j < place → f j ≡ None

abbrev pub Searched : {A : Type 0} → ℕ → (ℕ → Option A) → Option A → Type 0
Searched n f None = (i : ℕ) → i < n → f i ≡ None
Searched n f (Some x) = Finds n f x

pub searched : {A : Type 0} (n : ℕ) (f : ℕ → Option A) (r : Option A) → first n f ≡ r → Searched n f r
searched n f None e = first_none n f e
searched n f (Some x) e = let s = first_some n f x e in record { place = s.0; below = s.1; here = s.2; before = s.3 }

-- a value that came by a test
pub when_some : {A : Type 0} (b : Bool) (x y : A) → when b x ≡ Some y → (b ≡ true) × (x ≡ y)
when_some true x y e = (refl, cc)
when_some false x y e = absurd (none-some y e)

pub when_none : {A : Type 0} (b : Bool) (x : A) → b ≡ true → when b x ≡ None → ⊥
when_none true x t e = none-some x (sym e)
when_none false x t e = let z : ◌≡◌ {A = ℕ} 0 1 = cc in omega arith

-- a search in each turn of a search: what it gives is the least breach, where a test at (c, t) says whether (c, h t) is one
module _ (n : ℕ) (m : ℕ → ℕ) (b : ℕ → ℕ → Bool) (h : ℕ → ℕ) (Breaks : ℕ → ℕ → Type 0)
    (rises : (t u : ℕ) → t ≤ u → h t ≤ h u)
    (sound : (c t : ℕ) → c < n → t < m c → b c t ≡ true → Breaks c (h t))
    (whole : (d u : ℕ) → Breaks d u → (d < n) × ((t : ℕ) × (u ≡ h t) × (t < m d) × (b d t ≡ true))) where
  abbrev row : ℕ → Option (ℕ × ℕ)
  row c = first (m c) (λ t. when (b c t) (c, h t))

  no_row : (d : ℕ) → row d ≡ None → (t : ℕ) → t < m d → b d t ≡ true → ⊥
  no_row d e t l k = when_none (b d t) (d, h t) k (searched (m d) (λ t. when (b d t) (d, h t)) None e t l)

  in_row : (c : ℕ) (x : ℕ × ℕ) → c < n → row c ≡ Some x → ((d : ℕ) → d < c → row d ≡ None) → LeastPair Breaks (Some x)
  in_row c x l e before =
      let w = searched (m c) (λ t. when (b c t) (c, h t)) (Some x) e in
      let t = w.place in
      let k = when_some (b c w.place) (c, h w.place) x w.here in
      subst (λ (x : ℕ × ℕ). LeastPair Breaks (Some x)) k.1 (
        sound c t l w.below k.0,
        λ d u f.
            let q = whole d u f in
            elim (cases_order c d) as (λ _. NotBehind c (h t) d u) [
              | inl s ↦
                  elim (cases_lt q.1.0 t) as (λ _. NotBehind c (h t) d u) [
                    | inl a ↦ absurd (when_none (b c q.1.0) (c, h q.1.0) (rw s q.1.3) (w.before q.1.0 a))
                    | inr a ↦ inr (s, omega (arith, rises t q.1.0 a, q.1.1))
                  ]
              | inr (inl s) ↦ inl s
              | inr (inr s) ↦ absurd (no_row d (before d s) q.1.0 q.1.2 q.1.3)
            ],
      )

  least_pair : (r : Option (ℕ × ℕ)) → Searched n row r → LeastPair Breaks r
  least_pair None w = λ d u f. let q = whole d u f in no_row d (w d q.0) q.1.0 q.1.2 q.1.3
  least_pair (Some x) w = in_row w.place x w.below w.here w.before

  pub pair_found : LeastPair Breaks (first n row)
  pair_found = least_pair (first n row) (searched n row (first n row) refl)

-- a negated test of equality
pub apart_true : (m n : ℕ) → not (eqb m n) ≡ true → m ≢ n
apart_true m n e k = let t = eq-eqb m n k in let z : ◌≡◌ {A = ℕ} 0 1 = cc in omega arith

pub true_apart : (m n : ℕ) → m ≢ n → not (eqb m n) ≡ true
true_apart m n k = rw (ne_eqb m n k) refl

pub not_true : (b : Bool) → not b ≡ true → b ≡ true → ⊥
not_true true e k = let z : ◌≡◌ {A = ℕ} 0 1 = cc in omega arith
not_true false e k = let z : ◌≡◌ {A = ℕ} 0 1 = cc in omega arith

pub true_not : (b : Bool) → (b ≡ true → ⊥) → not b ≡ true
true_not true k = absurd (k refl)
true_not false k = refl

pred_lt : (n t : ℕ) → t < pred n → suc t < n
pred_lt zero t h = absurd (omega arith)
pred_lt (suc n) t h = omega arith

lt_pred : (n t : ℕ) → suc t < n → t < pred n
lt_pred zero t h = absurd (omega arith)
lt_pred (suc n) t h = omega arith

-- a leg leads to an entry, and into each entry but the first leads a leg
pub leg_inside : (p : Plan) (c t : ℕ) → t < last p c → suc t < entries p c
unfolding last
leg_inside p c t h = pred_lt (entries p c) t h

pub inside_leg : (p : Plan) (c t : ℕ) → suc t < entries p c → t < last p c
unfolding last
inside_leg p c t h = lt_pred (entries p c) t h

module _ (p : Plan) where
  -- no path
  no_path_lem : Least (NoPath p) (no_path p)
  unfolding no_path
  no_path_lem = go (first (carriers p) (λ c. when (eqb (entries p c) 0) c)) (searched (carriers p) (λ c. when (eqb (entries p c) 0) c) _ refl)
    where
      go : (r : Option ℕ) → Searched (carriers p) (λ c. when (eqb (entries p c) 0) c) r → Least (NoPath p) r
      go None w = λ c k. when_none (eqb (entries p c) 0) c (eq-eqb _ _ k.1) (w c k.0)
      go (Some x) w =
          let k = when_some (eqb (entries p w.place) 0) w.place x w.here in
          subst (λ (x : ℕ). Least (NoPath p) (Some x)) k.1 (
            (w.below, eqb-true _ _ k.0),
            λ d f. elim (cases_lt d w.place) as (λ _. w.place ≤ d) [ inl a ↦ absurd (when_none (eqb (entries p d) 0) d (eq-eqb _ _ f.1) (w.before d a)) | inr a ↦ a ],
          )

  -- a wrong first or last entry
  abbrev ends : ℕ → Option (ℕ × ℕ)
  ends c = or_else (when (not (eqb (entry p c 0) (start p c))) (c, 0)) (when (not (eqb (entry p c (last p c)) (goal p c))) (c, last p c))

  -- what the two tests of a carrier give
  both_right : (x y : ℕ × ℕ) (a b : Bool) → or_else (when a x) (when b y) ≡ None → (a ≡ false) × (b ≡ false)
  both_right x y true b e = absurd (none-some x (sym e))
  both_right x y false true e = absurd (none-some y (sym e))
  both_right x y false false e = (refl, refl)

  one_wrong : (x y z : ℕ × ℕ) (a b : Bool) → or_else (when a x) (when b y) ≡ Some z → ((a ≡ true) × (x ≡ z)) ⊎ ((a ≡ false) × (b ≡ true) × (y ≡ z))
  one_wrong x y z true b e = inl (refl, cc)
  one_wrong x y z false true e = inr (refl, refl, cc)
  one_wrong x y z false false e = absurd (none-some z e)

  right_end : (m n : ℕ) → not (eqb m n) ≡ false → m ≢ n → ⊥
  right_end m n e k = let t = true_apart m n k in let z : ◌≡◌ {A = ℕ} 0 1 = cc in omega arith

  right : (d u : ℕ) → ends d ≡ None → WrongEnd p d u → ⊥
  right d u e f =
      let w = both_right (d, 0) (d, last p d) _ _ e in
      elim f.1 [ inl k ↦ right_end (entry p d 0) (start p d) w.0 (rw k.0 at k.1) | inr k ↦ right_end (entry p d (last p d)) (goal p d) w.1 (rw k.0 at k.1) ]

  -- the least of one carrier's wrong entries
  least_end : (c : ℕ) (x : ℕ × ℕ) → Carrier p c → ends c ≡ Some x → WrongEnd p x.0 x.1 × (x.0 ≡ c) × ((u : ℕ) → WrongEnd p c u → x.1 ≤ u)
  least_end c x l e =
      elim (one_wrong (c, 0) (c, last p c) x (not (eqb (entry p c 0) (start p c))) (not (eqb (entry p c (last p c)) (goal p c))) e)
      as (λ _. WrongEnd p x.0 x.1 × (x.0 ≡ c) × ((u : ℕ) → WrongEnd p c u → x.1 ≤ u)) [
        | inl k ↦ subst (λ (x : ℕ × ℕ). WrongEnd p x.0 x.1 × (x.0 ≡ c) × ((u : ℕ) → WrongEnd p c u → x.1 ≤ u)) k.1
            ((l, inl (refl, apart_true _ _ k.0)), refl, λ u f. omega arith)
        | inr k ↦ subst (λ (x : ℕ × ℕ). WrongEnd p x.0 x.1 × (x.0 ≡ c) × ((u : ℕ) → WrongEnd p c u → x.1 ≤ u)) k.2 (
          (l, inr (refl, apart_true _ _ k.1)),
          refl,
          λ u f. elim f.1 as (λ _. last p c ≤ u) [ inl j ↦ absurd (right_end (entry p c 0) (start p c) k.0 (rw j.0 at j.1)) | inr j ↦ omega (arith, j.0) ],
        )
      ]

  wrong_end_lem : LeastPair (WrongEnd p) (wrong_end p)
  unfolding wrong_end
  wrong_end_lem = go (first (carriers p) ends) (searched (carriers p) ends _ refl)
    where
      go : (r : Option (ℕ × ℕ)) → Searched (carriers p) ends r → LeastPair (WrongEnd p) r
      go None w = λ d u f. right d u (w d f.0) f
      go (Some x) w =
          let k = least_end w.place x w.below w.here in (
            k.0,
            λ d u f. elim (cases_order w.place d) as (λ _. NotBehind x.0 x.1 d u) [
              | inl s ↦ inr (k.1 ∙ s, k.2 u (subst (λ (c : ℕ). WrongEnd p c u) (sym s) f))
              | inr (inl s) ↦ inl (omega (arith, k.1))
              | inr (inr s) ↦ absurd (right d u (w.before d s) f)
            ],
          )

  -- an entry without a leg into it
  no_leg_lem : LeastPair (NoLeg p) (no_leg p)
  unfolding no_leg
  no_leg_lem = pair_found (carriers p) (last p) (λ c t. not (has (entry p c (suc t)) (exits_from p.floor (entry p c t)))) suc (NoLeg p)
      (λ t u l. omega arith)
      (λ c t l k b.
      let e : suc t - 1 ≡ t = omega arith in
      (l, omega arith, leg_inside p c t k, rw e (not_true (has (entry p c (suc t)) (exits_from p.floor (entry p c t))) b)))
      (λ d u f.
      let e : u ≡ suc (u - 1) = omega (arith, f.1) in
      (f.0, (u - 1, e, inside_leg p d (u - 1) (omega (arith, f.1, f.2)), true_not (has (entry p d (suc (u - 1))) (exits_from p.floor (entry p d (u - 1)))) (rw (← e) f.3))))

  -- another's goal at an entry after the first
  abbrev foreign : ℕ → ℕ → ℕ → Bool
  foreign c t d = not (eqb c d) && eqb (entry p c (suc t)) (goal p d)

  abbrev owners : ℕ → ℕ → Option (ℕ × ℕ × ℕ)
  owners c t = first (carriers p) (λ d. when (foreign c t d) (c, suc t, d))

  abbrev goals : ℕ → Option (ℕ × ℕ × ℕ)
  goals c = first (last p c) (owners c)

  no_owner : (c t d : ℕ) → owners c t ≡ None → d < carriers p → foreign c t d ≡ true → ⊥
  no_owner c t d e l k = when_none (foreign c t d) (c, suc t, d) k (searched (carriers p) (λ d. when (foreign c t d) (c, suc t, d)) None e d l)

  no_goal : (c t d : ℕ) → goals c ≡ None → t < last p c → d < carriers p → foreign c t d ≡ true → ⊥
  no_goal c t d e l k f = no_owner c t d (searched (last p c) (owners c) None e t l) k f

  -- the parts of a breach: the entry is suc t, and the test says it
  breach : (c u d : ℕ) → ForeignGoal p c u d → (t : ℕ) × (u ≡ suc t) × (t < last p c) × (foreign c t d ≡ true)
  breach c u d f =
      let e : u ≡ suc (u - 1) = omega (arith, f.3) in
      (u - 1, e, inside_leg p c (u - 1) (omega (arith, f.3, f.4)), and_from _ _ (true_apart c d f.2) (eq-eqb _ _ (rw (← e) f.5)))

  -- what comes before (c, t, d)
  abbrev NotBefore : ℕ × ℕ × ℕ → ℕ → ℕ → ℕ → Type 0
  NotBefore x d u o = (x.0 < d) ⊎ ((x.0 ≡ d) × NotBehind x.1 x.2 u o)

  in_goals : (c : ℕ) (x : ℕ × ℕ × ℕ) → Carrier p c → goals c ≡ Some x → ((d : ℕ) → d < c → goals d ≡ None) → LeastTriple (ForeignGoal p) (Some x)
  in_goals c x l e before =
      let v = searched (last p c) (owners c) (Some x) e in
      let t = v.place in
      let w = searched (carriers p) (λ d. when (foreign c v.place d) (c, suc v.place, d)) (Some x) v.here in
      let o = w.place in
      let k = when_some (foreign c v.place w.place) (c, suc v.place, w.place) x w.here in
      let g = and_parts (not (eqb c w.place)) (eqb (entry p c (suc v.place)) (goal p w.place)) k.0 in
      subst (λ (x : ℕ × ℕ × ℕ). LeastTriple (ForeignGoal p) (Some x)) k.1 (
        (l, w.below, apart_true _ _ g.0, omega arith, leg_inside p c v.place v.below, eqb-true _ _ g.1),
        λ d u q f.
            let b = breach d u q f in
            elim (cases_order c d) as (λ _. NotBefore (c, suc t, o) d u q) [
              | inl s ↦ inr (
                s,
                elim (cases_order t b.0) as (λ _. NotBehind (suc t) o u q) [
                  | inl a ↦
                      elim (cases_lt q o) as (λ _. NotBehind (suc t) o u q) [
                        | inl y ↦ absurd (when_none (foreign c t q) (c, suc t, q) ((λ i. foreign (s i) (a i) q) ∙ b.3) (w.before q y))
                        | inr y ↦ inr (omega (arith, b.1), y)
                      ]
                  | inr (inl a) ↦ inl (omega (arith, b.1))
                  | inr (inr a) ↦ absurd (no_owner c b.0 q (v.before b.0 a) f.1 ((λ i. foreign (s i) b.0 q) ∙ b.3))
                ],
              )
              | inr (inl s) ↦ inl s
              | inr (inr s) ↦ absurd (no_goal d b.0 q (before d s) b.2 f.1 b.3)
            ],
      )

  foreign_goal_lem : LeastTriple (ForeignGoal p) (foreign_goal p)
  unfolding foreign_goal
  foreign_goal_lem = go (first (carriers p) goals) (searched (carriers p) goals _ refl)
    where
      go : (r : Option (ℕ × ℕ × ℕ)) → Searched (carriers p) goals r → LeastTriple (ForeignGoal p) r
      go None w = λ c u d f. let b = breach c u d f in no_goal c b.0 d (w c f.0) b.2 f.1 b.3
      go (Some x) w = in_goals w.place x w.below w.here w.before

-- two carriers with one number
equal_found : (n : ℕ) (f : ℕ → ℕ) → LeastPair (λ c d. (c < d) × (d < n) × (f c ≡ f d)) (first_equal n f)
unfolding first_equal
equal_found n f = pair_found n (λ c. n) (λ c d. ltb c d && eqb (f c) (f d)) (λ d. d) (λ c d. (c < d) × (d < n) × (f c ≡ f d))
    (λ t u l. l)
    (λ c d l k b. let w = and_parts (ltb c d) (eqb (f c) (f d)) b in (ltb-true _ _ w.0, k, eqb-true _ _ w.1))
    (λ c d k. (omega (arith, k.0, k.1), (d, refl, k.1, and_from _ _ (lt-ltb _ _ k.0) (eq-eqb _ _ k.2))))

pub rules_are_searched : (p : Plan) → RulesAreSearched p
rules_are_searched p = record {
  no_path = no_path_lem p;
  wrong_end = wrong_end_lem p;
  no_leg = no_leg_lem p;
  equal_starts = equal_found (carriers p) (start p);
  equal_goals = equal_found (carriers p) (goal p);
  foreign_goal = foreign_goal_lem p;
}
