-- Where nobody can move, carriers that are not at their last entries wait for one another in a ring: a circular wait.
use Rattle.std.proofs.Common.{◌≡◌, ℕ, zero, suc, ◌+◌, ◌<◌, ◌≤◌, ◌≢◌, ◌⊎◌, List, [], ◌∷◌, length, sym, refl, ap, ◌∙◌, inl, inr, arith}
use Rattle.std.proofs.lemmas.Bool.{cases_eq}
use Rattle.plans.specs.Plan.{Plan}
use Rattle.laws.specs.declared.pairs.Pair.{Pair}
use Rattle.laws.specs.Paths.{carriers, Carrier, entry, last}
use Rattle.laws.specs.Chains.{Linked, Absent, Apart, CircularWait}
use Rattle.laws.specs.Naming.{pair}
use Rattle.laws.specs.Pictures.{Picture, CanMove, LeadTo, Reachable}
use Rattle.laws.specs.Pictures.LeadTo.{begin, move}
use Rattle.laws.specs.Laws.{NoForeignGoal, Ends, CheckSuffices}
use Rattle.laws.proofs.Pigeon.{Ring, ring}

-- no carrier is past its last entry
led_within : (p : Plan) (cs : List ℕ) (x : Picture) → LeadTo p cs x → (c : ℕ) → x c ≤ last p c
led_within p cs x (begin e) c = omega (arith, e c)
led_within p cs y (move {cs = ds} {x = x} before c can moved) d = go (cases_eq c d) (led_within p ds x before d)
  where
    go : (c ≡ d) ⊎ (c ≡ d → ⊥) → x d ≤ last p d → y d ≤ last p d
    go (inl e) h = let u : y d ≡ suc (x d) = rw e at moved.one in let w : x d ≢ last p d = rw e at can.unfinished in omega arith
    go (inr ne) h = omega (arith, moved.others d ne)

pub within : (p : Plan) (x : Picture) → Reachable p x → (c : ℕ) → x c ≤ last p c
within p x r = led_within p r.0 x r.1

-- c has a leg to go
abbrev Unfinished : Plan → Picture → ℕ → Type 0
Unfinished p x c = Carrier p c × (x c < last p c)

-- d is another carrier, at c's next place
record Blocks (p : Plan) (x : Picture) (c d : ℕ) : Type 0 where
  other : c ≢ d
  there : entry p d (x d) ≡ entry p c (suc (x c))

-- no carrier of the first m blocks c
abbrev Unblocked : Plan → Picture → ℕ → ℕ → Type 0
Unblocked p x c m = (d : ℕ) → d < m → c ≢ d → entry p d (x d) ≢ entry p c (suc (x c))

-- one of the first m carriers blocks c, or none does
blocker : (p : Plan) (x : Picture) (c m : ℕ) → ((d : ℕ) × (d < m) × Blocks p x c d) ⊎ Unblocked p x c m
blocker p x c zero = inr (λ d h _ _. omega arith)
blocker p x c (suc m) = go (blocker p x c m) (cases_eq c m) (cases_eq (entry p m (x m)) (entry p c (suc (x c))))
  where
    go : ((d : ℕ) × (d < m) × Blocks p x c d) ⊎ Unblocked p x c m
        → (c ≡ m) ⊎ (c ≡ m → ⊥)
        → (entry p m (x m) ≡ entry p c (suc (x c))) ⊎ (entry p m (x m) ≡ entry p c (suc (x c)) → ⊥)
        → ((d : ℕ) × (d < suc m) × Blocks p x c d) ⊎ Unblocked p x c (suc m)
    go (inl (d, h, b)) _ _ = inl (d, omega arith, b)
    go (inr none) (inl e) _ = inr λ d h ne same. none d (omega arith) ne same
    go (inr none) (inr ne) (inl same) = inl (m, omega arith, record { other = ne; there = same })
    go (inr none) (inr ne) (inr apart) = inr λ d h ne' same. let u = none d in grind arith

module _ (p : Plan) (x : Picture) where
  -- the next legs of carriers `at i` and the n - 1 behind it
  legs : (ℕ → ℕ) → ℕ → ℕ → List Pair
  legs at i zero = []
  legs at i (suc n) = pair (at i) (x (at i)) ∷ legs at (suc i) n

  legs_length : (at : ℕ → ℕ) (i n : ℕ) → length (legs at i n) ≡ n
  unfolding legs
  legs_length at i zero = omega arith
  legs_length at i (suc n) = ap suc (legs_length at (suc i) n)

  legs_absent : (at : ℕ → ℕ) (c i n : ℕ) → ((j : ℕ) → i ≤ j → j < i + n → at j ≢ c) → Absent c (legs at i n)
  unfolding legs Absent
  legs_absent at c i zero h = tt
  legs_absent at c i (suc n) h = (h i (omega arith) (omega arith), legs_absent at c (suc i) n (λ j l k. h j (omega arith) (omega arith)))

  legs_apart : (at : ℕ → ℕ) (i n : ℕ) → ((a b : ℕ) → a < b → b < i + n → at a ≢ at b) → Apart (legs at i n)
  unfolding legs Apart
  legs_apart at i zero h = tt
  legs_apart at i (suc n) h = (
    legs_absent at (at i) (suc i) n (λ j l k e. h i j (omega arith) (omega arith) (sym e)),
    legs_apart at (suc i) n (λ a b l k. h a b l (omega arith)),
  )

  legs_linked : (at : ℕ → ℕ) → ((i : ℕ) → Unfinished p x (at i)) → ((i : ℕ) → Blocks p x (at i) (at (suc i))) → (i n j : ℕ) → i + n ≡ j →
      Linked p (entry p (at i) (x (at i))) (entry p (at j) (x (at j))) (legs at i n)
  unfolding legs Linked
  legs_linked at good next i zero j e = ap (λ m. entry p (at m) (x (at m))) (omega arith)
  legs_linked at good next i (suc n) j e = (
    record { carrier = (good i).0; inside = (good i).1 },
    refl,
    rw (← (next i).there) (legs_linked at good next (suc i) n j (omega arith)),
  )

  waits_round : Ring (Unfinished p x) (Blocks p x) → (w : List Pair) × CircularWait p w
  waits_round r =
      let n = suc r.rest in
      let more : 0 < r.rest = let ne : r.rest ≢ 0 = λ e. (r.next 0).other (sym r.round ∙ ap (λ m. r.at (suc m)) e) in omega arith in (
        legs r.at 0 n,
        record {
          place = entry p (r.at 0) (x (r.at 0));
          chain = record {
            linked = rw r.round at (legs_linked r.at r.good r.next 0 n n (omega arith));
            apart = legs_apart r.at 0 n (λ a b l k. r.distinct a b l (omega arith));
          };
          more = omega (arith, legs_length r.at 0 n);
        },
      )

  -- whoever cannot move and has a leg to go is blocked by a carrier that has one too
  module _ (ends : Ends p) (none : NoForeignGoal p) (reached : Reachable p x) (stuck : (c : ℕ) → CanMove p x c → ⊥) where
    blocked : (c : ℕ) → Unfinished p x c → (d : ℕ) × Unfinished p x d × Blocks p x c d
    blocked c (cp, l) = go (blocker p x c (carriers p))
      where
        go : ((d : ℕ) × (d < carriers p) × Blocks p x c d) ⊎ Unblocked p x c (carriers p) → (d : ℕ) × Unfinished p x d × Blocks p x c d
        go (inl (d, dp, b)) =
            let h = within p x reached d in
            let ne : x d ≢ last p d = λ e. none c d (x c) cp dp b.other l (sym b.there ∙ ap (entry p d) e ∙ ends d dp) in
            (d, (dp, omega arith), b)
        go (inr free) = absurd (stuck c (record { carrier = cp; unfinished = omega arith; free = free }))

pub check_suffices : CheckSuffices
check_suffices p ends foreign circular x s =
    let h = within p x s.reached s.who in
    let l : x s.who < last p s.who = omega (arith, s.short) in
    let r = ring (carriers p) (Unfinished p x) (Blocks p x) (λ c u. u.0) (blocked p x ends foreign s.reached s.stuck) s.who (s.carrier, l) in
    let w = waits_round p x r in
    circular w.0 w.1
