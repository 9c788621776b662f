-- What `find` and `find_map` over 0, 1, .. give is the first that there is.
use Rattle.std.proofs.Common.{◌≡◌, ℕ, zero, suc, ◌+◌, ◌<◌, ◌≤◌, Bool, true, false, List, [], ◌∷◌, Some, None, Option, sym, refl, ap, ◌∙◌, subst, inl, inr, add-one, arith}
use Rattle.std.proofs.lemmas.Bool.{cases_lt}
use Rattle.std.proofs.iter.Yields.{nat_range_steps}
use Rattle.std.specs.declared.ops.Range.{Range}
use Rattle.std.specs.Iterator.{Yields, YieldsThen, FindsMapped}
use Rattle.std.specs.Iterator.Runs.{SomeRun, YieldsRun, AllItemsGive, IsFirstToGive}
use Rattle.std.specs.List.{FoldsTo}
use Rattle.std.specs.Option.{option_map}
use Rattle.std.specs.Prelude.{IsTrue, IfSome, MatchOption, slice_get}
use denote.Param.Members.{Mut, Called}
use Rattle.laws.proofs.Searched.{none_first}
use Rattle.laws.specs.Rules.{or_else, first, when}

pub first_more : {A : Type 0} (n : ℕ) (f : ℕ → Option A) → first n f ≡ None → f n ≡ None → first (n + 1) f ≡ None
first_more n f e k = rw (add-one, e) k

pub first_hit : {A : Type 0} (n i : ℕ) (f : ℕ → Option A) (x : A) → i < n → first i f ≡ None → f i ≡ Some x → first n f ≡ Some x
first_hit zero i f x l e k = absurd (omega arith)
first_hit {A = A} (suc n) i f x l e k =
    elim (cases_lt i n) as (λ _. first (suc n) f ≡ Some x) [
      | inl s ↦ rw (first_hit n i f x s e k) refl
      | inr s ↦ let q : i ≡ n = omega arith in
          ap (λ (r : Option A). or_else r (f n)) (ap (λ j. first j f) (sym q) ∙ e) ∙ (ap f (sym q) ∙ k)
    ]

pub first_end : {A : Type 0} (n i : ℕ) (f : ℕ → Option A) → n ≡ i → first i f ≡ None → first n f ≡ None
first_end n i f e k = ap (λ j. first j f) e ∙ k

pub when_true : {A : Type 0} (b : Bool) (x : A) → b ≡ true → when b x ≡ Some x
when_true b x e = rw e refl

pub when_false : {A : Type 0} (b : Bool) (x : A) → b ≡ false → when b x ≡ None
when_false b x e = rw e refl

-- `find_map`, where each call at a number x gives k x
module _ {F B : Type 0} {g : Mut F (ℕ × Unit {0}) (Option B)} (f : F) (k : ℕ → Option B) (acts : (x : ℕ) (y : Option B) (q : F) → Called g f (x, tt) y q → (q ≡ f) × (y ≡ k x)) where
  abbrev GivesNone : F → ℕ → F → Type 0
  GivesNone = λ p x q. Called g p (x, tt) None q

  -- numbers at which nothing was given
  passed : (xs : List ℕ) (s t : Range ℕ) (j : F) → s.start ≤ s.end → first s.start k ≡ None → Yields nat_range_steps s xs t → FoldsTo GivesNone f xs j
      → (j ≡ f) × (t.end ≡ s.end) × (t.start ≤ t.end) × (first t.start k ≡ None)
  passed [] s t j l z y c =
      let w : (t.end ≡ s.end) × (t.start ≤ t.end) × (first t.start k ≡ None) = subst (λ (r : Range ℕ). (r.end ≡ s.end) × (r.start ≤ r.end) × (first r.start k ≡ None)) y (refl, l, z) in
      (sym c, w.0, w.1, w.2)
  passed (x ∷ xs) s t j l z y c =
      let m : Range ℕ = y.0 in
      let a = acts x None c.0 c.1 in
      let here : k s.start ≡ None = ap k (sym y.1.1.1) ∙ sym a.1 in
      let w = passed xs m t j (omega (arith, y.1)) (ap (λ i. first i k) y.1.1.2 ∙ first_more s.start k z here) y.2 (subst (λ p. FoldsTo GivesNone p xs j) a.0 c.2) in
      (w.0, w.1 ∙ y.1.0, w.2, w.3)

  pub first_from_find_map : (s u : Range ℕ) (r : Option B) → s.start ≡ 0 → FindsMapped nat_range_steps g s f r u
      → SomeRun nat_range_steps s (λ p. MatchOption r (IsTrue p.whole × AllItemsGive p g f None) (λ y. (i : ℕ) × (i < p.len) × (p.len ≡ i + 1) × IsFirstToGive p g f (Some y) None i))
      → r ≡ first s.end k
  unfolding YieldsRun
  first_from_find_map s u r from ran runs = go r ran runs
    where
      none : first s.start k ≡ None
      none = ap (λ i. first i k) from

      folds : (xs : List ℕ) → ((i : ℕ) → IfSome (slice_get xs i) (λ x. Called g f (x, tt) None f)) → FoldsTo GivesNone f xs f
      folds [] h = refl
      folds (x ∷ xs) h = (f, h 0, folds xs (λ i. h (suc i)))

      go : (r : Option B) → FindsMapped nat_range_steps g s f r u
          → SomeRun nat_range_steps s (λ p. MatchOption r (IsTrue p.whole × AllItemsGive p g f None) (λ y. (i : ℕ) × (i < p.len) × (p.len ≡ i + 1) × IsFirstToGive p g f (Some y) None i))
          → r ≡ first s.end k
      go None ran runs =
          let p = runs.0 in
          let at : (i : ℕ) → p.at i ≡ slice_get p.items i = p.gave.1 in
          let each : (i : ℕ) → IfSome (slice_get p.items i) (λ x. Called g f (x, tt) None f) = λ i. subst (λ o. IfSome o (λ x. Called g f (x, tt) None f)) (at i) (runs.2.1 (λ a r q c. (acts a.0 r q c).0) i) in
          let d = p.gave.0 in
          let y : Yields nat_range_steps s p.items d.0 = subst (λ v. Yields nat_range_steps v p.items d.0) runs.1 d.1 in
          let w = passed p.items s d.0 f (omega (arith, from)) none y (folds p.items each) in
          let e = d.2 runs.2.0 in
          let at_end : s.end ≡ d.0.start = omega (arith, w.1, w.2, e.1) in sym (ap (λ i. first i k) at_end ∙ w.3)
      go (Some y) ran runs = hit ran.1 ran.3 ran.4 ran.5
        where
          hit : (o : Option ℕ) → YieldsThen nat_range_steps s ran.0 o u → FoldsTo GivesNone f ran.0 ran.2
              → MatchOption o (◌≡◌ {A = Option B} (Some y) None) (λ x. (h : F) × Called g ran.2 (x, tt) (Some y) h) → Some y ≡ first s.end k
          hit None then calls stop = let z : ◌≡◌ {A = ℕ} 0 1 = cc in absurd (omega arith)
          hit (Some x) then calls stop =
              let w = passed ran.0 s then.0 ran.2 (omega (arith, from)) none then.1 calls in
              let step = then.2 in
              let a = acts x (Some y) stop.0 (subst (λ q. Called g q (x, tt) (Some y) stop.0) w.0 stop.1) in
              sym (first_hit s.end x k y (omega (arith, step.1, w.1)) (ap (λ i. first i k) step.1.1 ∙ w.3) (sym a.1))

-- what `find` says of the numbers below n, where calls compute a test
abbrev pub Finds : ℕ → (ℕ → Bool) → Option ℕ → Type 0
Finds n t r = MatchOption r ((i : ℕ) → 0 ≤ i → i < n → t i ≡ false) (λ i. (0 ≤ i) × (i < n) × (t i ≡ true) × ((j : ℕ) → 0 ≤ j → j < i → t j ≡ false))

pub first_from_find : {A : Type 0} (n : ℕ) (t : ℕ → Bool) (h : ℕ → A) (r : Option ℕ) → Finds n t r → option_map h r ≡ first n (λ c. when (t c) (h c))
first_from_find n t h None d = sym (none_first n (λ c. when (t c) (h c)) (λ i l. rw (d i (omega arith) l) refl))
first_from_find n t h (Some i) d =
    sym (first_hit n i (λ c. when (t c) (h c)) (h i) d.1 (none_first i (λ c. when (t c) (h c)) (λ j l. rw (d.3 j (omega arith) l) refl)) (rw d.2 refl))
