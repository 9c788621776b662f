-- The way back from a reachable picture.
use Rattle.std.proofs.Common.{◌≡◌, ℕ, zero, suc, ◌-◌, ◌<◌, ◌≤◌, true, false, ◌≢◌, ◌⊎◌, Some, None, Option, unwrap_or, sym, refl, inl, inr, arith}
use Rattle.std.proofs.lemmas.Bool.{cases_eq, cases_lt, both_ways}
use Rattle.plans.specs.Plan.{Plan}
use Rattle.laws.specs.Paths.{carriers, Carrier, sum_over}
use Rattle.laws.specs.Rules.{first, when}
use Rattle.laws.specs.Pictures.{Picture, Moved, LeadTo, begin, move}
use Rattle.laws.specs.Judging.{pictures, picture, weight, came, reachable, last_mover, way_back, way, WaysLead, LastMove, LowestGoesBack}
use Rattle.laws.proofs.Digits.{down, beyond, zero_picture}
use Rattle.laws.proofs.Tested.{Lowest, lowest_is}
use Rattle.laws.proofs.Marked.{Came, came_parts, came_from, reachable_parts, can_before, came_of, computed_reached, reached_computed}

-- c is the lowest carrier whose last move led into picture n from a marked one
record TakenBack (p : Plan) (n c : ℕ) : Type 0 where
  carrier : Carrier p c
  came_in : Came p n c
  lowest : (d : ℕ) → Carrier p d → Came p n d → c ≤ d

taken_back : (p : Plan) (n : ℕ) → n < pictures p → reachable p n ≡ true → n ≢ 0 → TakenBack p n (last_mover p n)
unfolding last_mover
taken_back p n h m ne = go (first (carriers p) (λ c. when (came p (reachable p) n c) c)) (lowest_is (carriers p) (came p (reachable p) n))
  where
    not_under : (c d : ℕ) → Came p n d → ((j : ℕ) → j < c → came p (reachable p) n j ≡ false) → (d < c) ⊎ (c ≤ d) → c ≤ d
    not_under c d w none (inl l) = absurd (both_ways (came p (reachable p) n d) (none d l) (came_from p n d w))
    not_under c d w none (inr l) = l

    someone : ((j : ℕ) → j < carriers p → came p (reachable p) n j ≡ false) → (n ≡ 0) ⊎ ((c : ℕ) × Carrier p c × Came p n c) → ⊥
    someone none (inl z) = ne z
    someone none (inr (c, cp, w)) = both_ways (came p (reachable p) n c) (none c cp) (came_from p n c w)

    go : (o : Option ℕ) → Lowest (carriers p) (came p (reachable p) n) o → TakenBack p n (unwrap_or o 0)
    go (Some c) (cp, t, none) = record { carrier = cp; came_in = came_parts p n c t; lowest = λ d dp w. not_under c d w none (cases_lt d c) }
    go None none = absurd (someone none (reachable_parts p n h m))

-- a move raises the sum_over of the entries by one
sum_same : (k : ℕ) (x y : Picture) (c : ℕ) → k ≤ c → Moved c x y → sum_over k y ≡ sum_over k x
sum_same zero x y c h m = refl
sum_same (suc k) x y c h m = let a = sum_same k x y c (omega arith) m in let b = m.others k (omega arith) in omega arith

sum_moved : (k : ℕ) (x y : Picture) (c : ℕ) → c < k → Moved c x y → sum_over k y ≡ suc (sum_over k x)
sum_moved zero x y c h m = absurd (omega arith)
sum_moved (suc k) x y c h m = go (cases_eq c k) (λ l. sum_moved k x y c l m)
  where
    go : (c ≡ k) ⊎ (c ≡ k → ⊥) → (c < k → sum_over k y ≡ suc (sum_over k x)) → sum_over (suc k) y ≡ suc (sum_over (suc k) x)
    go (inl q) ih = let a = sum_same k x y c (omega arith) m in let b : y k ≡ suc (x k) = rw q at m.one in omega arith
    go (inr ne) ih = let a = ih (omega arith) in let b = m.others k ne in omega arith

sum_none : (k : ℕ) (x : Picture) → sum_over k x ≡ 0 → (c : ℕ) → c < k → x c ≡ 0
sum_none zero x e c h = absurd (omega arith)
sum_none (suc k) x e c h = go (cases_eq c k) (sum_none k x (omega arith) c)
  where
    go : (c ≡ k) ⊎ (c ≡ k → ⊥) → (c < k → x c ≡ 0) → x c ≡ 0
    go (inl q) ih = rw q (omega arith)
    go (inr ne) ih = ih (omega arith)

no_moves : (p : Plan) (n : ℕ) → sum_over (carriers p) (picture p n) ≡ 0 → (c : ℕ) → picture p n c ≡ 0
no_moves p n e c = go (cases_lt c (carriers p))
  where
    go : (c < carriers p) ⊎ (carriers p ≤ c) → picture p n c ≡ 0
    go (inl cp) = sum_none (carriers p) (picture p n) e c cp
    go (inr h) = beyond p.carriers n c h

sum_first : (p : Plan) (k : ℕ) → sum_over k (picture p 0) ≡ 0
sum_first p zero = refl
sum_first p (suc k) = let a = sum_first p k in let b = zero_picture p.carriers k in omega arith

way_leads : (p : Plan) (k n : ℕ) → n < pictures p → reachable p n ≡ true → k ≡ sum_over (carriers p) (picture p n) → LeadTo p (way_back p k n) (picture p n)
way_leads p zero n h m e = begin (no_moves p n (sym e))
way_leads p (suc k) n h m e =
    let ne : n ≢ 0 = λ z. (let a : suc k ≡ sum_over (carriers p) (picture p 0) = rw z at e in omega (arith, sum_first p (carriers p))) in
    let c = last_mover p n in
    let b = taken_back p n h m ne in
    let d = down p.carriers n c h b.carrier b.came_in.above in
    let before = n - weight p c in
    let s = sum_moved (carriers p) (picture p before) (picture p n) c b.carrier d.moved in
    move (way_leads p k before (omega arith) b.came_in.marked (omega arith)) c (can_before p n c h b.carrier b.came_in) d.moved

pub ways_lead : WaysLead
unfolding way
ways_lead p n h r = way_leads p (sum_over (carriers p) (picture p n)) n h (reached_computed p (picture p n) r n h (λ c. refl)) refl

came_last : (p : Plan) (n c : ℕ) → n < pictures p → Carrier p c → Came p n c → LastMove p (picture p n) c
came_last p n c h cp w =
    let d = down p.carriers n c h cp w.above in
    record {
      before = picture p (n - weight p c);
      reached = computed_reached p (n - weight p c) (omega arith) w.marked;
      could = can_before p n c h cp w;
      moved = d.moved;
    }

last_came : (p : Plan) (n c : ℕ) → n < pictures p → LastMove p (picture p n) c → Came p n c
last_came p n c h l = came_of p n c h l.before l.could l.moved (reached_computed p l.before l.reached)

pub lowest_goes_back : LowestGoesBack
lowest_goes_back p n h r ne =
    let b = taken_back p n h (reached_computed p (picture p n) r n h (λ c. refl)) ne in
    (came_last p n (last_mover p n) h b.carrier b.came_in, λ c l. b.lowest c l.could.carrier (last_came p n c h l))
