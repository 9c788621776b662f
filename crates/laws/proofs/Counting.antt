-- What departures and arrivals say: what each carrier does, and how far all are from home.
use Rattle.std.proofs.Common.{◌≡◌, ℕ, zero, suc, ◌+◌, ◌*◌, ◌<◌, ◌≤◌, Bool, cond, eqb, ◌≢◌, ◌⊎◌, List, [], ◌∷◌, set, Option, Result, sym, refl, ap, ◌∙◌, inl, inr, arith}
use Rattle.std.proofs.lemmas.List.{get_or-set_same, get_or-set_other}
use Rattle.std.proofs.lemmas.Bool.{cases_eq, eq-eqb, ne_eqb}
use Rattle.std.proofs.lemmas.Bool.Decides.{nat_tests}
use Rattle.plans.specs.Plan.{Plan}
use Rattle.laws.specs.declared.calls.Call.{Call}
use Rattle.laws.specs.declared.calls.Call.TheVariants.{TurnFor, MotionOf, DistanceLeft, HolderOf, CountOf}
use Rattle.laws.specs.declared.faults.RunFault.{RunFault}
use Rattle.laws.specs.declared.motions.Motion.{Motion}
use Rattle.laws.specs.declared.motions.Motion.TheVariants.{Standing, Travelling}
use Rattle.laws.specs.declared.motions.Turn.{Turn}
use Rattle.laws.specs.Paths.{carriers, Carrier, last, sum_over, legs}
use Rattle.laws.specs.Runs.{State, motion_of, Turned, turned, to_go, distance, opened}
use Rattle.laws.specs.Strings.{called, after, replies, reached, turn_departed, turn_arrived, of_turn, tally_for, departures, arrivals, by_counts}
use Rattle.laws.specs.Laws.{Opens, does}
use Rattle.laws.proofs.Turning.{get_or-set, Kept, departed, arrived, Outcome, outcome}
use Rattle.laws.proofs.Turning.Outcome.{not_in_run, is_home, waits, departs, arrives}
use Rattle.laws.proofs.Keeping.{kept_call, opened_stands, kept}

-- how many legs a carrier has begun, and how many it has ended
abbrev begun : Motion → ℕ
begun (Standing t) = t
begun (Travelling t) = suc t

abbrev ended : Motion → ℕ
ended (Standing t) = t
ended (Travelling t) = t

module _ (p : Plan) (size : ℕ) (s : State) (k : Kept p size s) (c d : ℕ) where
  begun_turn : {r : Turned} → Outcome p s d r → begun (motion_of r.state c) ≡ begun (motion_of s c) + cond (eqb c d) (cond (turn_departed r.answer) 1 0) 0
  begun_turn (not_in_run _) = grind (arith, nat_tests)
  begun_turn (is_home _ _) = grind (arith, nat_tests)
  begun_turn (waits _ _ _ _) = grind (arith, nat_tests)
  begun_turn (departs {t = t} cp e l f) = rw (get_or-set s.motions d (Travelling t) c (Standing 0) (omega (arith, k.long))) (grind (arith, nat_tests))
  begun_turn (arrives {t = t} cp e l) = rw (get_or-set s.motions d (Standing (suc t)) c (Standing 0) (omega (arith, k.long))) (grind (arith, nat_tests))

  ended_turn : {r : Turned} → Outcome p s d r → ended (motion_of r.state c) ≡ ended (motion_of s c) + cond (eqb c d) (cond (turn_arrived r.answer) 1 0) 0
  ended_turn (not_in_run _) = grind (arith, nat_tests)
  ended_turn (is_home _ _) = grind (arith, nat_tests)
  ended_turn (waits _ _ _ _) = grind (arith, nat_tests)
  ended_turn (departs {t = t} cp e l f) = rw (get_or-set s.motions d (Travelling t) c (Standing 0) (omega (arith, k.long))) (grind (arith, nat_tests))
  ended_turn (arrives {t = t} cp e l) = rw (get_or-set s.motions d (Standing (suc t)) c (Standing 0) (omega (arith, k.long))) (grind (arith, nat_tests))

-- a number of each carrier that a turn for it raises by one where its answer passes a test is raised as often as such answers are counted
module _ (p : Plan) (size : ℕ) (o : Opens p size) (count : Motion → ℕ) (test : Result Turn RunFault → Bool)
    (raised : (s : State) → Kept p size s → (c d : ℕ) →
    count (motion_of (turned p size s d).state c) ≡ count (motion_of s c) + cond (eqb c d) (cond (test (turned p size s d).answer) 1 0) 0) where
  counted_call : (s : State) → Kept p size s → (c : ℕ) (call : Call) →
      count (motion_of (called p size s call) c) ≡ count (motion_of s c) + tally_for c (of_turn test) (call ∷ []) (replies p size s (call ∷ []))
  counted_call s k c (TurnFor d) = omega (arith, raised s k c d)
  counted_call s k c (MotionOf d) = omega arith
  counted_call s k c DistanceLeft = omega arith
  counted_call s k c (HolderOf place) = omega arith
  counted_call s k c (CountOf d) = omega arith

  counted_after : (s : State) → Kept p size s → (c : ℕ) (calls : List Call) →
      count (motion_of (after p size s calls) c) ≡ count (motion_of s c) + tally_for c (of_turn test) calls (replies p size s calls)
  counted_after s k c [] = omega arith
  counted_after s k c (call ∷ calls) =
      let a = counted_after (called p size s call) (kept_call p size o s k call) c calls in
      let b = counted_call s k c call in
      omega arith

by_counts_lem : (x : Motion) (d a : ℕ) → begun x ≡ d → ended x ≡ a → x ≡ by_counts d a
by_counts_lem (Standing t) d a b e = rw (← e, eq-eqb d t (sym b))
by_counts_lem (Travelling t) d a b e = rw (← e, ne_eqb d t (λ q. omega arith))

-- the run records what the counts say
pub recorded : (p : Plan) (size : ℕ) → Opens p size → (calls : List Call) (c : ℕ) → motion_of (reached p size calls) c ≡ does p size calls c
recorded p size o calls c =
    let k = kept p size o [] in
    let z = opened_stands p size c in
    by_counts_lem (motion_of (reached p size calls) c) _ _
    (omega (arith, counted_after p size o begun turn_departed (λ s k c d. begun_turn p size s k c d (outcome p size o s k d)) (opened p size) k c calls, ap begun z))
    (omega (arith, counted_after p size o ended turn_arrived (λ s k c d. ended_turn p size s k c d (outcome p size o s k d)) (opened p size) k c calls, ap ended z))

-- two sums whose terms differ at one number
sum_but : (n : ℕ) (f g : ℕ → ℕ) (c : ℕ) → c < n → ((d : ℕ) → c ≢ d → g d ≡ f d) → sum_over n f + g c ≡ sum_over n g + f c
sum_but zero f g c h e = omega arith
sum_but (suc n) f g c h e = go (cases_eq c n) (λ l. sum_but n f g c l e)
  where
    same : (m : ℕ) → m ≤ c → sum_over m g ≡ sum_over m f
    same zero h = refl
    same (suc m) h = let a = same m (omega arith) in let b = e m (omega arith) in omega arith

    go : (c ≡ n) ⊎ (c ≡ n → ⊥) → (c < n → sum_over n f + g c ≡ sum_over n g + f c) → sum_over (suc n) f + g c ≡ sum_over (suc n) g + f c
    go (inl q) ih = let a = same n (omega arith) in rw q (omega arith)
    go (inr q) ih = let a = ih (omega arith) in let b = e n q in omega arith

-- the distance where c does x instead
distance-set : (p : Plan) (size : ℕ) (s : State) → Kept p size s → (c : ℕ) → Carrier p c → (x : Motion) (holders : List (Option ℕ)) →
    distance p s + to_go (last p c) x ≡ distance p (record { motions = set s.motions c x; holders = holders }) + to_go (last p c) (motion_of s c)
unfolding distance
distance-set p size s k c cp x holders =
    ap (λ y. sum_over (carriers p) (λ d. to_go (last p d) (motion_of s d)) + to_go (last p c) y) (sym (get_or-set_same s.motions c x (Standing 0) (omega (arith, k.long))))
    ∙ sum_but (carriers p) (λ d. to_go (last p d) (motion_of s d)) (λ d. to_go (last p d) (motion_of (record { motions = set s.motions c x; holders = holders }) d)) c cp
    (λ d ne. ap (to_go (last p d)) (get_or-set_other s.motions c d x (Standing 0) (λ e. ne (sym e))))

-- what a turn takes off the distance
pub shorter : (p : Plan) (size : ℕ) (s : State) → Kept p size s → (c : ℕ) {r : Turned} → Outcome p s c r →
    distance p r.state + cond (turn_departed r.answer) 1 0 + cond (turn_arrived r.answer) 1 0 ≡ distance p s
shorter p size s k c (not_in_run _) = omega arith
shorter p size s k c (is_home _ _) = omega arith
shorter p size s k c (waits _ _ _ _) = omega arith
shorter p size s k c (departs {t = t} cp e l f) = let a = rw e at (distance-set p size s k c cp (Travelling t) (departed p s c t).holders) in omega arith
shorter p size s k c (arrives {t = t} cp e l) = let a = rw e at (distance-set p size s k c cp (Standing (suc t)) (arrived p s c t).holders) in omega arith

shorter_call : (p : Plan) (size : ℕ) → Opens p size → (s : State) → Kept p size s → (call : Call) →
    distance p (called p size s call) + departures (replies p size s (call ∷ [])) + arrivals (replies p size s (call ∷ [])) ≡ distance p s
shorter_call p size o s k (TurnFor c) = omega (arith, shorter p size s k c (outcome p size o s k c))
shorter_call p size o s k (MotionOf c) = omega arith
shorter_call p size o s k DistanceLeft = omega arith
shorter_call p size o s k (HolderOf place) = omega arith
shorter_call p size o s k (CountOf c) = omega arith

pub distance_after : (p : Plan) (size : ℕ) → Opens p size → (s : State) → Kept p size s → (calls : List Call) →
    distance p (after p size s calls) + departures (replies p size s calls) + arrivals (replies p size s calls) ≡ distance p s
distance_after p size o s k [] = omega arith
distance_after p size o s k (call ∷ calls) =
    let a = distance_after p size o (called p size s call) (kept_call p size o s k call) calls in
    let b = shorter_call p size o s k call in
    omega arith

-- calls never raise the distance
pub never_farther : (p : Plan) (size : ℕ) → Opens p size → (s : State) → Kept p size s → (calls : List Call) → distance p (after p size s calls) ≤ distance p s
never_farther p size o s k calls = omega (arith, distance_after p size o s k calls)

pub distance_opened : (p : Plan) (size : ℕ) → distance p (opened p size) ≡ 2 * legs p
unfolding distance legs
distance_opened p size = go (carriers p)
  where
    go : (n : ℕ) → sum_over n (λ c. to_go (last p c) (motion_of (opened p size) c)) ≡ 2 * sum_over n (last p)
    go zero = refl
    go (suc n) = let a = go n in let z = ap (to_go (last p n)) (opened_stands p size n) in omega arith
