-- Where no standstill is reachable, every order of turns brings everybody home.
use Rattle.std.proofs.Common.{◌≡◌, ℕ, zero, suc, ◌+◌, ◌<◌, ◌≤◌, Bool, false, cond, ltb, ◌≢◌, ◌⊎◌, List, [], ◌∷◌, ◌++◌, Some, Ok, Err, Option, Result, sym, refl, ap, ◌∙◌, subst, inl, inr, arith}
use Rattle.std.proofs.lemmas.Bool.{true≢false, cases_eq, cases_lt, cond-true, cond_both, lt-ltb, ltb-true, ltb-false}
use Rattle.std.proofs.lemmas.Bool.Decides.{nat_tests}
use Rattle.boards.specs.declared.faults.BoardFault.{BoardFault}
use Rattle.boards.specs.declared.faults.BoardFault.TheVariants.{BeyondBoard, BeyondCarriers, Held, HoldsTwo, NotHolder}
use Rattle.boards.specs.Holders.{holder_of}
use Rattle.boards.specs.Calls.{enter_answer, leave_answer}
use Rattle.plans.specs.Plan.{Plan}
use Rattle.laws.specs.declared.calls.Call.{Call}
use Rattle.laws.specs.declared.calls.Call.TheVariants.{TurnFor, MotionOf, DistanceLeft, HolderOf, CountOf}
use Rattle.laws.specs.declared.calls.Reply.{Reply}
use Rattle.laws.specs.declared.faults.RunFault.{RunFault}
use Rattle.laws.specs.declared.faults.RunFault.TheVariants.{BoardRefuses}
use Rattle.laws.specs.declared.motions.Motion.{Motion}
use Rattle.laws.specs.declared.motions.Motion.TheVariants.{Standing, Travelling}
use Rattle.laws.specs.declared.motions.Turn.{Turn}
use Rattle.laws.specs.Paths.{carriers, Carrier, goal, entry, last, HasLeg, sum_over}
use Rattle.laws.specs.Pictures.{CanMove, NoStandstill}
use Rattle.laws.specs.Runs.{State, Turned, motion_of, on_entering, on_leaving, moved, turned, to_go, distance, opened}
use Rattle.laws.specs.Strings.{called, after, replies, reached, turn_departed, turn_arrived, of_turn, tally, departures, arrivals, HasTurn}
use Rattle.laws.specs.Laws.{Opens, Occupies, seen, Advances, Arrives, NoStandstillNoEndOfProgress}
use Rattle.laws.proofs.Waiting.{within}
use Rattle.laws.proofs.Placed.{legs_lead_away}
use Rattle.laws.proofs.Running.{distances_add_up, holders_are_counted, runs_are_pictured, after-++}

-- A string after a string.

tally-++ : (test : Reply → Bool) (p : Plan) (size : ℕ) (s : State) (calls more : List Call) →
    tally test (replies p size s (calls ++ more)) ≡ tally test (replies p size s calls) + tally test (replies p size (after p size s calls) more)
tally-++ test p size s [] more = omega arith
tally-++ test p size s (call ∷ calls) more = omega (arith, tally-++ test p size (called p size s call) calls more)

-- from a state on, each departure and each arrival brings the distance down by one
abbrev Falls : Plan → ℕ → State → Type 0
Falls p size s = (more : List Call) → distance p (after p size s more) + departures (replies p size s more) + arrivals (replies p size s more) ≡ distance p s

falls : (p : Plan) (size : ℕ) → Opens p size → (calls : List Call) → Falls p size (reached p size calls)
falls p size o calls more =
    let e : distance p (reached p size (calls ++ more)) ≡ distance p (after p size (reached p size calls) more) = ap (distance p) (after-++ p size (opened p size) calls more) in
    omega (
      arith,
      e,
      distances_add_up p size o calls,
      distances_add_up p size o (calls ++ more),
      tally-++ (of_turn turn_departed) p size (opened p size) calls more,
      tally-++ (of_turn turn_arrived) p size (opened p size) calls more,
    )

falls_on : (p : Plan) (size : ℕ) (s : State) → Falls p size s → (call : Call) → Falls p size (called p size s call)
falls_on p size s f call more = omega (arith, f (call ∷ more), f (call ∷ []))

-- a turn's answer that is neither "departed" nor "arrived"
record Idle (answer : Result Turn RunFault) : Type 0 where
  here : turn_departed answer ≡ false
  still : turn_arrived answer ≡ false

-- A turn with such an answer changes nothing.
module _ (p : Plan) (size : ℕ) (s : State) (c : ℕ) where
  idle_entering : (t : ℕ) (r : Result Unit BoardFault) → Idle (on_entering p size s c t r).answer → (on_entering p size s c t r).state ≡ s
  idle_entering t (Ok done) i = absurd (true≢false i.here)
  idle_entering t (Err fault) i = refl

  idle_leaving : (t : ℕ) (r : Result Unit BoardFault) → Idle (on_leaving p size s c t r).answer → (on_leaving p size s c t r).state ≡ s
  idle_leaving t (Ok done) i = absurd (true≢false i.still)
  idle_leaving t (Err fault) i = refl

  idle_motion : (m : Motion) → Idle (moved p size s c m).answer → (moved p size s c m).state ≡ s
  idle_motion (Standing t) = cond_both (ltb t (last p c)) _ _ (λ (r : Turned). Idle r.answer → r.state ≡ s) (λ _. idle_entering t (enter_answer size s.holders c (entry p c (suc t)))) (λ _ _. refl)
  idle_motion (Travelling t) = idle_leaving t (leave_answer size s.holders c (entry p c t))

  idle_turn : Idle (turned p size s c).answer → (turned p size s c).state ≡ s
  unfolding turned
  idle_turn = cond_both (ltb c (carriers p)) _ _ (λ (r : Turned). Idle r.answer → r.state ≡ s) (λ _. idle_motion (motion_of s c)) (λ _ _. refl)

-- Where a stretch does not bring the distance down, whoever has a turn in it is idle.
module _ (p : Plan) (size : ℕ) where
  uncounted : (b : Bool) → ◌≡◌ {A = ℕ} (cond b 1 0) 0 → b ≡ false
  uncounted b e = grind (arith, nat_tests)

  idle_now : (s : State) (c : ℕ) → Falls p size s → distance p s ≤ distance p (turned p size s c).state → Idle (turned p size s c).answer
  idle_now s c f h =
      let e = f (TurnFor c ∷ []) in
      record { here = uncounted (turn_departed (turned p size s c).answer) (omega arith); still = uncounted (turn_arrived (turned p size s c).answer) (omega arith) }

  unchanged : (s : State) (call : Call) → Falls p size s → distance p s ≤ distance p (called p size s call) → called p size s call ≡ s
  unchanged s (TurnFor c) f h = idle_turn p size s c (idle_now s c f h)
  unchanged s (MotionOf c) f h = refl
  unchanged s DistanceLeft f h = refl
  unchanged s (HolderOf place) f h = refl
  unchanged s (CountOf c) f h = refl

  idle_stretch : (stretch : List Call) (s : State) → Falls p size s → distance p s ≤ distance p (after p size s stretch) → (c : ℕ) → HasTurn c stretch → Idle (turned p size s c).answer
  idle_stretch [] s f h c i = absurd i
  idle_stretch (call ∷ calls) s f h c i = go i (idle_stretch calls (called p size s call) g (omega (arith, f (call ∷ []))) c)
    where
      g : Falls p size (called p size s call)
      g = falls_on p size s f call

      kept : distance p s ≤ distance p (called p size s call)
      kept = omega (arith, g calls)

      go : (call ≡ TurnFor c) ⊎ HasTurn c calls → (HasTurn c calls → Idle (turned p size (called p size s call) c).answer) → Idle (turned p size s c).answer
      go (inl e) later = idle_now s c f (subst (λ w. distance p s ≤ distance p (called p size s w)) e kept)
      go (inr i) later = subst (λ z. Idle (turned p size z c).answer) (unchanged s call f kept) (later i)

-- a carrier whose turn changes nothing: it stands at its last entry, or its next place is held
data Rests (p : Plan) (s : State) (c : ℕ) : Type 0 where
  at_home : (t : ℕ) → motion_of s c ≡ Standing t → last p c ≤ t → Rests p s c
  in_wait : (t d : ℕ) → motion_of s c ≡ Standing t → HasLeg p c t → holder_of s.holders (entry p c (suc t)) ≡ Some d → Rests p s c

was_held : (size : ℕ) (holders : List (Option ℕ)) (c place q d : ℕ) → enter_answer size holders c place ≡ Err (Held q d) → holder_of holders place ≡ Some d
unfolding enter_answer
was_held size holders c place q d e = grind (arith, nat_tests)

module _ (p : Plan) (size : ℕ) (s : State) (c : ℕ) where
  -- an idle answer other than that the board refuses
  record Quiet (answer : Result Turn RunFault) : Type 0 where
    idle : Idle answer
    granted : (fault : BoardFault) → answer ≡ Err (BoardRefuses c fault) → ⊥

  rests_entering : (t : ℕ) → motion_of s c ≡ Standing t → HasLeg p c t → (r : Result Unit BoardFault) → enter_answer size s.holders c (entry p c (suc t)) ≡ r →
      Quiet (on_entering p size s c t r).answer → Rests p s c
  rests_entering t e l (Ok done) a q = absurd (true≢false q.idle.here)
  rests_entering t e l (Err (Held place holder)) a q = in_wait t holder e l (was_held size s.holders c (entry p c (suc t)) place holder a)
  rests_entering t e l (Err (BeyondBoard place)) a q = absurd (q.granted _ refl)
  rests_entering t e l (Err (BeyondCarriers carrier)) a q = absurd (q.granted _ refl)
  rests_entering t e l (Err (HoldsTwo carrier)) a q = absurd (q.granted _ refl)
  rests_entering t e l (Err (NotHolder place holder)) a q = absurd (q.granted _ refl)

  rests_leaving : (t : ℕ) (r : Result Unit BoardFault) → Quiet (on_leaving p size s c t r).answer → Rests p s c
  rests_leaving t (Ok done) q = absurd (true≢false q.idle.still)
  rests_leaving t (Err fault) q = absurd (q.granted fault refl)

  rests_motion : (m : Motion) → motion_of s c ≡ m → Quiet (moved p size s c m).answer → Rests p s c
  rests_motion (Standing t) e =
      cond_both (ltb t (last p c)) _ _ (λ (r : Turned). Quiet r.answer → Rests p s c)
      (λ l. rests_entering t e (ltb-true t (last p c) l) (enter_answer size s.holders c (entry p c (suc t))) refl)
      (λ l _. at_home t e (ltb-false t (last p c) l))
  rests_motion (Travelling t) e = rests_leaving t (leave_answer size s.holders c (entry p c t))

  rests : Carrier p c → Quiet (turned p size s c).answer → Rests p s c
  unfolding turned
  rests cp q = rests_motion (motion_of s c) refl (subst (λ (r : Turned). Quiet r.answer) (cond-true (ltb c (carriers p)) _ _ (lt-ltb c (carriers p) cp)) q)

sum_none : (n : ℕ) (f : ℕ → ℕ) → ((c : ℕ) → c < n → f c ≡ 0) → sum_over n f ≡ 0
sum_none zero f z = refl
sum_none (suc n) f z = let a = sum_none n f (λ c h. z c (omega arith)) in omega (arith, z n (omega arith))

none_sum : (n : ℕ) (f : ℕ → ℕ) → sum_over n f ≡ 0 → (c : ℕ) → c < n → f c ≡ 0
none_sum zero f z c h = omega arith
none_sum (suc n) f z c h = go (cases_eq c n) (none_sum n f (omega arith) c)
  where
    go : (c ≡ n) ⊎ (c ≡ n → ⊥) → (c < n → f c ≡ 0) → f c ≡ 0
    go (inl e) _ = rw e (omega arith)
    go (inr ne) ih = ih (omega arith)

-- Everybody rests after a string of calls.
module _ (p : Plan) (size : ℕ) (o : Opens p size) (calls : List Call) (all : (c : ℕ) → Carrier p c → Rests p (reached p size calls) c) where
  stands : (c : ℕ) → Rests p (reached p size calls) c → motion_of (reached p size calls) c ≡ Standing (seen (motion_of (reached p size calls) c))
  stands c (at_home t e _) = rw e
  stands c (in_wait t d e _ _) = rw e

  nobody_moves : (c : ℕ) → CanMove p (λ d. seen (motion_of (reached p size calls) d)) c → ⊥
  nobody_moves c can = go (all c can.carrier)
    where
      go : Rests p (reached p size calls) c → ⊥
      go (at_home t e h) =
          let w : t ≤ last p c = rw e at (within p _ (runs_are_pictured p size o calls) c) in
          let u : t ≢ last p c = rw e at can.unfinished in
          omega arith
      go (in_wait t d e l f) =
          let k = holders_are_counted p size o calls in
          let h = (k.holders d (entry p c (suc t))).0 f in
          let there : entry p d (seen (motion_of (reached p size calls) d)) ≡ entry p c (suc t) = rw (← (k.recorded d), stands d (all d h.0)) at h.1 in
          let other : c ≢ d = λ q. legs_lead_away p o.0 c t l (rw (← q, e) at there) in
          can.free d h.0 other (there ∙ ap (λ m. entry p c (suc (seen m))) (sym e))

  all_home : NoStandstill p → distance p (reached p size calls) ≡ 0
  unfolding distance
  all_home none = sum_none (carriers p) (λ c. to_go (last p c) (motion_of (reached p size calls) c)) λ c cp. go c cp (cases_eq (seen (motion_of (reached p size calls) c)) (last p c))
    where
      go : (c : ℕ) → Carrier p c → (seen (motion_of (reached p size calls) c) ≡ last p c) ⊎ (seen (motion_of (reached p size calls) c) ≡ last p c → ⊥) → to_go (last p c) (motion_of (reached p size calls) c) ≡ 0
      go c cp (inl e) = rw (stands c (all c cp)) (omega arith)
      go c cp (inr ne) =
          absurd (none (λ d. seen (motion_of (reached p size calls) d)) (record { reached = runs_are_pictured p size o calls; stuck = nobody_moves; who = c; carrier = cp; short = ne }))

pub advances : (p : Plan) (size : ℕ) → Opens p size → NoStandstill p → Advances p size
advances p size o none before stretch far every =
    rw (after-++ p size (opened p size) before stretch) (go (cases_lt (distance p (after p size (reached p size before) stretch)) (distance p (reached p size before))))
  where
    idle : distance p (reached p size before) ≤ distance p (after p size (reached p size before) stretch) → (c : ℕ) → Carrier p c → Rests p (reached p size before) c
    idle h c cp = rests p size (reached p size before) c cp (record {
      idle = idle_stretch p size stretch (reached p size before) (falls p size o before) h c (every c cp);
      granted = (holders_are_counted p size o before).granted c;
    })

    go : (distance p (after p size (reached p size before) stretch) < distance p (reached p size before)) ⊎ (distance p (reached p size before) ≤ distance p (after p size (reached p size before) stretch))
        → distance p (after p size (reached p size before) stretch) < distance p (reached p size before)
    go (inl h) = h
    go (inr h) = let z = all_home p size o before (idle h) none in absurd (omega arith)

pub arrives : (p : Plan) (size : ℕ) → Opens p size → Arrives p size
unfolding distance
arrives p size o calls z c cp =
    go (motion_of (reached p size calls) c) (within p _ (runs_are_pictured p size o calls) c) (none_sum (carriers p) (λ d. to_go (last p d) (motion_of (reached p size calls) d)) z c cp)
  where
    go : (m : Motion) → seen m ≤ last p c → to_go (last p c) m ≡ 0 → m ≡ Standing (last p c)
    go (Standing t) w h = ap Standing (omega arith)
    go (Travelling t) w h = absurd (omega arith)

pub no_standstill_no_end_of_progress : NoStandstillNoEndOfProgress
no_standstill_no_end_of_progress p size o none = record {
  advances = advances p size o none;
  arrives = arrives p size o;
  goals = λ ends calls z c cp.
      let k = holders_are_counted p size o calls in
      (k.holders c (goal p c)).1 (cp, subst (λ m. Occupies p c m (goal p c)) (sym (arrives p size o calls z c cp) ∙ k.recorded c) (ends c cp));
}
