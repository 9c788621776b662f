-- What `try_fold` into an option gives over a slice.
use Rattle.std.proofs.Common.{◌≡◌, List, [], ◌∷◌, Option, Some, None, sym, subst, ap, ◌∙◌}
use Rattle.std.specs.Option.{MatchOption}
use Rattle.std.specs.ControlFlow.{continue_value}
use Rattle.std.specs.Iterator.{AlwaysYields, Yields, TryFoldTurn}
use Rattle.std.specs.List.{FoldsTo}
use Rattle.std.specs.Fn.{Called}
use denote.Param.Members.{Mut}

-- a step that was tried, and those over the rest if it gave something
abbrev pub go_on : {B : Type 0} → (B → Option B) → Option B → Option B
go_on next None = None
go_on next (Some b) = next b

-- steps from b on, over a list, for as long as each gives something
unfoldable pub tried : {B X : Type 0} → (B → X → Option B) → B → List X → Option B
tried step b [] = Some b
tried {B = B} step b (x ∷ xs) = go_on {B = B} (λ c. tried step c xs) (step b x)

-- where a call of g takes one step
module _ {S A F B X : Type 0} (E : Type 0) (steps : S → Option A → S → Type 0) (v : A → X) (g : Mut F (B × (A × Unit {0})) (Option B)) (f : F) (step : B → X → Option B)
    (takes : (b : B) (x : A) (r : Option B) (q : F) → Called g f (b, (x, tt)) r q → (q ≡ f) × (r ≡ step b (v x))) where
  -- a call at the element y
  taken : (p : F × B) (x : A) (y : X) (r : Option B) (q : F) → p.0 ≡ f → v x ≡ y → Called g p.0 (p.1, (x, tt)) r q → (q ≡ f) × (r ≡ step p.1 y)
  taken p x y r q w is k =
      let h = takes p.1 x r q (subst (λ z. Called g z (p.1, (x, tt)) r q) w k) in
      (h.0, h.1 ∙ ap (step p.1) is)

  pub tried_from_try_fold : (xs : List A) (ys : List X) (p q : F × B) (s t u : S) (o : Option A) (r : Option B)
      → p.0 ≡ f → AlwaysYields steps v s ys → Yields steps s xs t → steps t o u → FoldsTo (TryFoldTurn {E = E} g (λ w b. w ≡ continue_value b)) p xs q
      → MatchOption o (r ≡ Some q.1) (λ x. (w : Option B) × (h : F) × (e : E) × Called g q.0 (q.1, (x, tt)) w h × (w ≡ None) × (r ≡ None))
      → r ≡ tried step p.1 ys
  unfolding tried
  tried_from_try_fold [] [] p q s t u None r w y l n e m = m ∙ ap (λ z. Some z.1) (sym e)
  tried_from_try_fold [] [] p q s t u (Some x) r w y l n e m = absurd (y x u (subst (λ z. steps z (Some x) u) (sym l) n))
  tried_from_try_fold [] (c ∷ cs) p q s t u None r w y l n e m = absurd (y.0 u (subst (λ z. steps z None u) (sym l) n))
  tried_from_try_fold [] (c ∷ cs) p q s t u (Some x) r w y l n e m =
      let is : v x ≡ c = (y.1 x u (subst (λ z. steps z (Some x) u) (sym l) n)).0 in
      let k = (taken q x c m.0 m.1 (ap (λ z. z.0) (sym e) ∙ w) is m.3).1 in
      let same : q.1 ≡ p.1 = ap (λ z. z.1) (sym e) in
      m.5 ∙ ap (go_on {B = B} (λ b. tried step b cs)) (sym m.4 ∙ k ∙ ap (λ b. step b c) same)
  tried_from_try_fold (x ∷ xs) [] p q s t u o r w y l n e m = absurd (y x l.0 l.1)
  tried_from_try_fold (x ∷ xs) (c ∷ cs) p q s t u o r w y l n e m =
      let is : v x ≡ c = (y.1 x l.0 l.1).0 in
      let k = taken p x c e.1.0 e.0.0 w is e.1.1 in
      tried_from_try_fold xs cs e.0 q l.0 t u o r k.0 (y.1 x l.0 l.1).1 l.2 n e.2 m
      ∙ ap (go_on {B = B} (λ b. tried step b cs)) (sym e.1.2 ∙ k.1)
