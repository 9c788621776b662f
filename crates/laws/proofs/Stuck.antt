-- At a standstill nothing changes any more; without one, rounds of turns bring everybody home.
use Rattle.std.proofs.Common.{◌≡◌, ℕ, zero, suc, ◌<◌, ◌≤◌, ltb, ◌⊎◌, List, [], ◌∷◌, ◌++◌, Some, None, Ok, Err, Option, Result, sym, refl, ap, ◌∙◌, subst, inl, inr, arith}
use Rattle.std.proofs.lemmas.List.{append_assoc}
use Rattle.std.proofs.lemmas.Bool.{ltb-true, cases_eq, cases_lt, cond_both}
use Rattle.boards.specs.declared.faults.BoardFault.{BoardFault}
use Rattle.boards.specs.Holders.{holder_of}
use Rattle.boards.specs.Calls.{enter_answer}
use Rattle.boards.proofs.Granting.{enter_granted}
use Rattle.plans.specs.Plan.{Plan}
use Rattle.laws.specs.declared.calls.Call.{Call}
use Rattle.laws.specs.declared.calls.Call.TheVariants.{TurnFor, MotionOf, DistanceLeft, HolderOf, CountOf}
use Rattle.laws.specs.declared.motions.Motion.TheVariants.{Standing}
use Rattle.laws.specs.Paths.{carriers, Carrier, entry, last, HasLeg}
use Rattle.laws.specs.Pictures.{Picture, LeadTo, Standstill, NoStandstill}
use Rattle.laws.specs.Judging.{twice, picture, way, FindsLowest, lowest_standstill}
use Rattle.laws.specs.Runs.{State, Turned, motion_of, on_entering, moved, turned, opened, distance}
use Rattle.laws.specs.Strings.{called, after, reached, turns_for, HasTurn}
use Rattle.laws.specs.Laws.{Opens, Occupies, Sticks, StandstillsAreStuckStrings}
use Rattle.laws.proofs.Running.{holders_are_counted, moves_are_turns, after-++}
use Rattle.laws.proofs.Stills.{lowest_standstill_is_found}
use Rattle.laws.proofs.WaysBack.{ways_lead}
use Rattle.laws.proofs.Progress.{advances, arrives}

-- Moves have led to a standstill, and the string has made them.
module _ (p : Plan) (size : ℕ) (o : Opens p size) (cs : List ℕ) (x : Picture) (led : LeadTo p cs x) (halt : Standstill p x) where
  there : State
  there = reached p size (turns_for (twice cs))

  stands : (c : ℕ) → Carrier p c → motion_of there c ≡ Standing (x c)
  unfolding there
  stands = moves_are_turns p size o cs x led

  holds : (c : ℕ) → Carrier p c → holder_of there.holders (entry p c (x c)) ≡ Some c
  unfolding there
  holds c cp =
      let k = holders_are_counted p size o (turns_for (twice cs)) in
      (k.holders c (entry p c (x c))).1 (cp, subst (λ m. Occupies p c m (entry p c (x c))) (sym (stands c cp) ∙ k.recorded c) refl)

  not_granted : (c : ℕ) → Carrier p c → HasLeg p c (x c) → enter_answer size there.holders c (entry p c (suc (x c))) ≡ Ok tt → ⊥
  not_granted c cp l g =
      let f = (enter_granted size there.holders c (entry p c (suc (x c))) g).free in
      halt.stuck c (record {
        carrier = cp;
        unfinished = omega arith;
        free = λ d dp _ same. let h = holds d dp in let z : ◌≡◌ {A = ℕ} 0 1 = cc in omega arith;
      })

  entering_keeps : (c : ℕ) → Carrier p c → HasLeg p c (x c) → (r : Result Unit BoardFault) → enter_answer size there.holders c (entry p c (suc (x c))) ≡ r → (on_entering p size there c (x c) r).state ≡ there
  entering_keeps c cp l (Ok done) e = absurd (not_granted c cp l e)
  entering_keeps c cp l (Err fault) e = refl

  turn_keeps : (c : ℕ) → (turned p size there c).state ≡ there
  unfolding turned
  turn_keeps c =
      cond_both (ltb c (carriers p)) _ _ (λ (r : Turned). r.state ≡ there)
      (λ b. let cp = ltb-true c (carriers p) b in
      subst (λ m. (moved p size there c m).state ≡ there) (sym (stands c cp))
      (cond_both (ltb (x c) (last p c)) _ _ (λ (r : Turned). r.state ≡ there)
      (λ l. entering_keeps c cp (ltb-true (x c) (last p c) l) (enter_answer size there.holders c (entry p c (suc (x c)))) refl)
      (λ _. refl)))
      (λ _. refl)

  call_keeps : (call : Call) → called p size there call ≡ there
  call_keeps (TurnFor c) = turn_keeps c
  call_keeps (MotionOf c) = refl
  call_keeps DistanceLeft = refl
  call_keeps (HolderOf place) = refl
  call_keeps (CountOf c) = refl

  all_keep : (calls : List Call) → after p size there calls ≡ there
  all_keep [] = refl
  all_keep (call ∷ calls) = ap (λ s. after p size s calls) (call_keeps call) ∙ all_keep calls

  -- the carrier that is not at its last entry is not there yet
  far : 0 < distance p there
  unfolding there
  far = go (cases_lt 0 (distance p (reached p size (turns_for (twice cs)))))
    where
      go : (0 < distance p (reached p size (turns_for (twice cs)))) ⊎ (distance p (reached p size (turns_for (twice cs))) ≤ 0) → 0 < distance p (reached p size (turns_for (twice cs)))
      go (inl h) = h
      go (inr z) =
          let home = arrives p size o (turns_for (twice cs)) (omega arith) halt.who halt.carrier in
          let here = stands halt.who halt.carrier in
          let e : x halt.who ≡ last p halt.who = cc in
          absurd (halt.short e)

  sticks : Sticks p size (turns_for (twice cs))
  unfolding there
  sticks more = rw (after-++ p size (opened p size) (turns_for (twice cs)) more, all_keep more) far

-- a turn for each of the first n carriers
everyone : ℕ → List Call
everyone zero = []
everyone (suc n) = TurnFor n ∷ everyone n

has_everyone : (n c : ℕ) → c < n → HasTurn c (everyone n)
unfolding everyone
has_everyone zero c h = absurd (omega arith)
has_everyone (suc n) c h = go (cases_eq n c) (has_everyone n c)
  where
    go : (n ≡ c) ⊎ (n ≡ c → ⊥) → (c < n → HasTurn c (everyone n)) → HasTurn c (TurnFor n ∷ everyone n)
    go (inl e) later = inl (ap (λ d. TurnFor d) e)
    go (inr ne) later = inr (later (omega arith))

-- without a standstill so many rounds bring the distance to nought
module _ (p : Plan) (size : ℕ) (o : Opens p size) where
  exhaust : NoStandstill p → (k : ℕ) (calls : List Call) → distance p (reached p size calls) ≤ k → (more : List Call) × (distance p (reached p size (calls ++ more)) ≡ 0)
  exhaust none zero calls h = ([], rw (after-++ p size (opened p size) calls []) (omega arith))
  exhaust none (suc k) calls h = go (cases_lt 0 (distance p (reached p size calls))) (exhaust none k (calls ++ everyone (carriers p)))
    where
      go : (0 < distance p (reached p size calls)) ⊎ (distance p (reached p size calls) ≤ 0)
          → (distance p (reached p size (calls ++ everyone (carriers p))) ≤ k → (more : List Call) × (distance p (reached p size ((calls ++ everyone (carriers p)) ++ more)) ≡ 0))
          → (more : List Call) × (distance p (reached p size (calls ++ more)) ≡ 0)
      go (inr z) later = ([], rw (after-++ p size (opened p size) calls []) (omega arith))
      go (inl away) later =
          let round = everyone (carriers p) in
          let less = advances p size o none calls round away (has_everyone (carriers p)) in
          let (more, z) = later (omega arith) in
          (round ++ more, ap (λ w. distance p (reached p size w)) (sym (append_assoc calls round more)) ∙ z)

  ends : ((calls : List Call) × Sticks p size calls) → (found : Option ℕ) → FindsLowest p found → (x : Picture) × Standstill p x
  ends s (Some n) f = (picture p n, f.1)
  ends (calls, stuck) None none =
      let (more, z) = exhaust none (distance p (reached p size calls)) calls (omega arith) in
      absurd (omega (arith, stuck more))

  way_sticks : (n : ℕ) → FindsLowest p (Some n) → Sticks p size (turns_for (twice (way p n)))
  way_sticks n (small, halt, lowest) = sticks p size o (way p n) (picture p n) (ways_lead p n small halt.reached) halt

pub standstills_are_stuck_strings : StandstillsAreStuckStrings
standstills_are_stuck_strings p size o paths =
    let found = lowest_standstill_is_found p paths in
    record {
      exactly = (
        (λ s. ends p size o s (lowest_standstill p) found),
        (λ (x, halt). (turns_for (twice halt.reached.0), sticks p size o halt.reached.0 x halt.reached.1 halt)),
      );
      turns = λ n e. way_sticks p size o n (rw e at found);
    }
