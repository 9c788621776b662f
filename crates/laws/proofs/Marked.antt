-- The marked pictures are the reachable ones.
use Rattle.std.proofs.Common.{◌≡◌, ℕ, zero, suc, pred, ◌-◌, ◌<◌, ◌≤◌, Bool, true, false, ◌||◌, eqb, ◌⊎◌, List, [], ◌∷◌, ◌++◌, sym, refl, ap, ◌∙◌, subst, inl, inr, arith}
use Rattle.std.proofs.lemmas.Bool.Decides.{nat_tests}
use Rattle.std.proofs.lemmas.Bool.{cases_eq, cases_lt, or_cases, or_right, eqb-true, eq-eqb, ne_eqb, cond-true, cond-false}
use Rattle.plans.specs.Plan.{Plan}
use Rattle.laws.specs.Paths.{carriers, Carrier, entries, entry, last}
use Rattle.laws.specs.Pictures.{Picture, CanMove, Moved, LeadTo, begin, move, Reachable}
use Rattle.laws.specs.Judging.{pictures, picture, weight, any, taken, came, marks, reachable, ReachableIsComputed}
use Rattle.laws.proofs.Digits.{Down, down, inside, first_is, zero_picture}
use Rattle.laws.proofs.Tested.{any_some, any_has, any_same, clear, is_clear}

-- a move of c led into picture n from one that is marked
pub record Came (p : Plan) (n c : ℕ) : Type 0 where
  pub above : 0 < picture p n c
  pub alone : taken p (picture p n) c (entry p c (picture p n c)) ≡ false
  pub marked : reachable p (n - weight p c) ≡ true

pub came_parts : (p : Plan) (n c : ℕ) → came p (reachable p) n c ≡ true → Came p n c
unfolding came
came_parts p n c e = record { above = grind (arith, nat_tests); alone = grind (arith, nat_tests); marked = grind (arith, nat_tests) }

pub came_from : (p : Plan) (n c : ℕ) → Came p n c → came p (reachable p) n c ≡ true
unfolding came
came_from p n c k = let a = k.above in let b = k.alone in let d = k.marked in grind (arith, nat_tests)

marks_reachable : (p : Plan) (n i : ℕ) → i < n → marks p n i ≡ reachable p i
unfolding reachable
marks_reachable p zero i h = absurd (omega arith)
marks_reachable p (suc n) i h = go (cases_eq i n) (marks_reachable p n i)
  where
    go : (i ≡ n) ⊎ (i ≡ n → ⊥) → (i < n → marks p n i ≡ marks p (suc i) i) → marks p (suc n) i ≡ marks p (suc i) i
    go (inl e) ih = ap (λ m. marks p (suc m) i) (sym e)
    go (inr ne) ih = cond-false (eqb i n) _ (marks p n i) (ne_eqb i n ne) ∙ ih (omega arith)

-- only marks of lower numbers count
came_same : (p : Plan) (f g : ℕ → Bool) (n c : ℕ) → n < pictures p → Carrier p c → ((i : ℕ) → i < n → f i ≡ g i) → came p f n c ≡ came p g n c
unfolding came
came_same p f g n c h cp e = go (cases_lt 0 (picture p n c))
  where
    go : (0 < picture p n c) ⊎ (picture p n c ≤ 0) → came p f n c ≡ came p g n c
    go (inl u) = let k = down p.carriers n c h cp u in rw (e (n - weight p c) (omega (arith, k.some, k.fits)))
    go (inr z) = grind (arith, nat_tests)

reachable_first : (p : Plan) → reachable p 0 ≡ true
unfolding reachable
reachable_first p = refl

reachable_is : (p : Plan) (n : ℕ) → n < pictures p → reachable p n ≡ (eqb n 0 || any (carriers p) (came p (reachable p) n))
unfolding reachable
reachable_is p n h =
    cond-true (eqb n n) (eqb n 0 || any (carriers p) (came p (marks p n) n)) (marks p n n) (eq-eqb n n refl)
    ∙ ap (λ b. eqb n 0 || b) (any_same (carriers p) (came p (marks p n) n) (came p (reachable p) n)
    (λ c cp. came_same p (marks p n) (reachable p) n c h cp (marks_reachable p n)))

reachable_from : (p : Plan) (n c : ℕ) → n < pictures p → Carrier p c → Came p n c → reachable p n ≡ true
reachable_from p n c h cp k =
    reachable_is p n h ∙ or_right (eqb n 0) (any (carriers p) (came p (reachable p) n)) (any_has (carriers p) (came p (reachable p) n) c cp (came_from p n c k))

pub reachable_parts : (p : Plan) (n : ℕ) → n < pictures p → reachable p n ≡ true → (n ≡ 0) ⊎ ((c : ℕ) × Carrier p c × Came p n c)
reachable_parts p n h e = go (or_cases (eqb n 0) (any (carriers p) (came p (reachable p) n)) (sym (reachable_is p n h) ∙ e))
  where
    go : (eqb n 0 ≡ true) ⊎ (any (carriers p) (came p (reachable p) n) ≡ true) → (n ≡ 0) ⊎ ((c : ℕ) × Carrier p c × Came p n c)
    go (inl q) = inl (eqb-true n 0 q)
    go (inr a) = let (c, cp, t) = any_some (carriers p) (came p (reachable p) n) a in inr (c, cp, came_parts p n c t)

below_pred : (t l : ℕ) → t < l → t ≤ pred l
below_pred t l h = omega arith

not_past : (p : Plan) (c t : ℕ) → t < entries p c → t ≤ last p c
unfolding last
not_past p c t h = below_pred t (entries p c) h

-- before its last move c could move
pub can_before : (p : Plan) (n c : ℕ) → n < pictures p → Carrier p c → Came p n c → CanMove p (picture p (n - weight p c)) c
can_before p n c h cp k =
    let moved = (down p.carriers n c h cp k.above).moved in
    let one = moved.one in
    let l : picture p n c ≤ last p c = not_past p c (picture p n c) (inside p.carriers n h c cp) in
    record {
      carrier = cp;
      unfinished = omega arith;
      free = λ d dp ne same.
          clear p (picture p n) c (entry p c (picture p n c)) k.alone d dp ne (ap (entry p d) (moved.others d ne) ∙ same ∙ ap (entry p c) (sym one));
    }

-- a move into picture n from a picture x whose number is marked
pub came_of : (p : Plan) (n c : ℕ) → n < pictures p → (x : Picture) → CanMove p x c → Moved c x (picture p n)
    → ((m : ℕ) → m < pictures p → ((a : ℕ) → picture p m a ≡ x a) → reachable p m ≡ true) → Came p n c
came_of p n c h x could moved marked =
    let u : 0 < picture p n c = omega (arith, moved.one) in
    let d = down p.carriers n c h could.carrier u in
    record {
      above = u;
      alone = is_clear p (picture p n) c (entry p c (picture p n c)) (λ a known ne same.
          could.free a known ne (ap (entry p a) (sym (moved.others a ne)) ∙ same ∙ ap (entry p c) moved.one));
      marked = marked (n - weight p c) (omega arith) (λ a. go a (cases_eq c a) d);
    }
  where
    go : (a : ℕ) → (c ≡ a) ⊎ (c ≡ a → ⊥) → Down p.carriers n c → picture p (n - weight p c) a ≡ x a
    go a (inl q) d = let i : picture p (n - weight p c) c ≡ x c = omega (arith, d.moved.one, moved.one) in subst (λ a. picture p (n - weight p c) a ≡ x a) q i
    go a (inr ne) d = sym (d.moved.others a ne) ∙ moved.others a ne

marked_reached : (p : Plan) (k n : ℕ) → n < k → n < pictures p → reachable p n ≡ true → Reachable p (picture p n)
marked_reached p zero n l h m = absurd (omega arith)
marked_reached p (suc k) n l h m = go (reachable_parts p n h m) (marked_reached p k)
  where
    go : (n ≡ 0) ⊎ ((c : ℕ) × Carrier p c × Came p n c)
        → ((n : ℕ) → n < k → n < pictures p → reachable p n ≡ true → Reachable p (picture p n)) → Reachable p (picture p n)
    go (inl e) ih = rw e ([], begin (zero_picture p.carriers))
    go (inr (c, cp, w)) ih =
        let d = down p.carriers n c h cp w.above in
        let (cs, led) = ih (n - weight p c) (omega (arith, d.some, d.fits)) (omega arith) w.marked in
        (cs ++ c ∷ [], move led c (can_before p n c h cp w) d.moved)

led_marked : (p : Plan) (cs : List ℕ) (x : Picture) → LeadTo p cs x
    → (n : ℕ) → n < pictures p → ((c : ℕ) → picture p n c ≡ x c) → reachable p n ≡ true
led_marked p cs x (begin z) n h e = rw (first_is p.carriers n h (λ c. e c ∙ z c)) (reachable_first p)
led_marked p cs y (move {cs = ds} {x = x} led c could moved) n h e =
    let into : Moved c x (picture p n) = record { one = e c ∙ moved.one; others = λ d ne. e d ∙ moved.others d ne } in
    reachable_from p n c h could.carrier (came_of p n c h x could into (led_marked p ds x led))

pub computed_reached : (p : Plan) (n : ℕ) → n < pictures p → reachable p n ≡ true → Reachable p (picture p n)
computed_reached p n h m = marked_reached p (suc n) n (omega arith) h m

pub reached_computed : (p : Plan) (x : Picture) → Reachable p x → (n : ℕ) → n < pictures p → ((c : ℕ) → picture p n c ≡ x c) → reachable p n ≡ true
reached_computed p x (cs, led) n h e = led_marked p cs x led n h e

pub reachable_is_computed : ReachableIsComputed
reachable_is_computed p n h = (computed_reached p n h, (λ r. reached_computed p (picture p n) r n h (λ c. refl)))
