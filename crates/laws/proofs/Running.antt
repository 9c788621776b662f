-- What holds after every string of calls on an opened run and its board.
use Rattle.std.proofs.Common.{◌≡◌, ℕ, suc, ◌≤◌, ◌≢◌, ◌⊎◌, List, [], ◌∷◌, ◌++◌, Some, None, Err, Option, sym, refl, ap, ◌∙◌, inl, inr, arith}
use Rattle.std.proofs.lemmas.List.{map-append, get_or-set_same, get_or-set_other}
use Rattle.std.proofs.lemmas.Bool.{cases_eq}
use Rattle.boards.specs.declared.faults.BoardFault.{BoardFault}
use Rattle.boards.specs.Holders.{holder_of, Free}
use Rattle.plans.specs.Plan.{Plan}
use Rattle.laws.specs.declared.calls.Call.{Call}
use Rattle.laws.specs.declared.calls.Call.TheVariants.{TurnFor}
use Rattle.laws.specs.declared.faults.RunFault.TheVariants.{BoardRefuses}
use Rattle.laws.specs.declared.motions.Motion.TheVariants.{Standing, Travelling}
use Rattle.laws.specs.Paths.{Carrier, entry, last, HasLeg}
use Rattle.laws.specs.Pictures.{Picture, CanMove, Moved}
use Rattle.laws.specs.Pictures.LeadTo.{begin, move}
use Rattle.laws.specs.Judging.{twice}
use Rattle.laws.specs.Runs.{State, motion_of, Turned, turned, opened}
use Rattle.laws.specs.Strings.{called, after, reached, turns_for}
use Rattle.laws.specs.Laws.{Opens, DistancesAddUp, HoldersAreCounted, RunsArePictured, MovesAreTurns}
use Rattle.laws.proofs.Placed.{legs_lead_away}
use Rattle.laws.proofs.Turning.{Kept, Outcome, outcome}
use Rattle.laws.proofs.Turning.Outcome.{not_in_run, is_home, waits, departs, arrives}
use Rattle.laws.proofs.Keeping.{kept_turn, opened_stands}
use Rattle.laws.proofs.Counting.{recorded, distance_after, distance_opened}
pub use Rattle.laws.proofs.Keeping.{kept}
pub use Rattle.laws.proofs.Counting.{never_farther}

pub distances_add_up : DistancesAddUp
distances_add_up p size o calls = distance_after p size o (opened p size) (kept p size o []) calls ∙ distance_opened p size

-- the board refuses nothing but a held place
pub never_refused : (p : Plan) (s : State) (c : ℕ) {r : Turned} → Outcome p s c r → (fault : BoardFault) → r.answer ≡ Err (BoardRefuses c fault) → ⊥
never_refused p s c (not_in_run _) fault e = let z : ◌≡◌ {A = ℕ} 0 1 = cc in omega arith
never_refused p s c (is_home _ _) fault e = let z : ◌≡◌ {A = ℕ} 0 1 = cc in omega arith
never_refused p s c (waits _ _ _ _) fault e = let z : ◌≡◌ {A = ℕ} 0 1 = cc in omega arith
never_refused p s c (departs _ _ _ _) fault e = let z : ◌≡◌ {A = ℕ} 0 1 = cc in omega arith
never_refused p s c (arrives _ _ _) fault e = let z : ◌≡◌ {A = ℕ} 0 1 = cc in omega arith

pub holders_are_counted : HoldersAreCounted
holders_are_counted p size o calls =
    let k = kept p size o calls in
    record {
      holders = λ c q. rw (← recorded p size o calls c) (k.held c q);
      alone = λ c d q cp dp a b.
          let x = (k.held c q).1 (cp, rw (recorded p size o calls c) a) in
          let y = (k.held d q).1 (dp, rw (recorded p size o calls d) b) in
          cc;
      recorded = recorded p size o calls;
      granted = λ c fault. never_refused p (reached p size calls) c (outcome p size o (reached p size calls) k c) fault;
    }

pub runs_are_pictured : RunsArePictured
runs_are_pictured p size o calls = (kept p size o calls).pictured

pub after-++ : (p : Plan) (size : ℕ) (s : State) (calls more : List Call) → after p size s (calls ++ more) ≡ after p size (after p size s calls) more
after-++ p size s [] more = refl
after-++ p size s (call ∷ calls) more = after-++ p size (called p size s call) calls more

twice_push : (cs : List ℕ) (c : ℕ) → twice (cs ++ c ∷ []) ≡ twice cs ++ c ∷ c ∷ []
twice_push [] c = refl
twice_push (d ∷ cs) c = ap (λ l. d ∷ d ∷ l) (twice_push cs c)

-- a turn changes nothing of the other carriers
pub others_stay : (p : Plan) (s : State) (c : ℕ) {r : Turned} → Outcome p s c r → (d : ℕ) → c ≢ d → motion_of r.state d ≡ motion_of s d
others_stay p s c (not_in_run _) d ne = refl
others_stay p s c (is_home _ _) d ne = refl
others_stay p s c (waits _ _ _ _) d ne = refl
others_stay p s c (departs {t = t} _ _ _ _) d ne = get_or-set_other s.motions c d (Travelling t) (Standing 0) (λ e. ne (sym e))
others_stay p s c (arrives {t = t} _ _ _) d ne = get_or-set_other s.motions c d (Standing (suc t)) (Standing 0) (λ e. ne (sym e))

module _ (p : Plan) (size : ℕ) (s : State) (k : Kept p size s) (c : ℕ) (cp : Carrier p c) (t : ℕ) where
  -- a carrier whose next place is free departs
  pub is_departed : motion_of s c ≡ Standing t → HasLeg p c t → Free s.holders (entry p c (suc t)) → {r : Turned} → Outcome p s c r →
      motion_of r.state c ≡ Travelling t
  is_departed e l f (not_in_run n) = absurd (n cp)
  is_departed e l f (is_home _ h) = let q : t ≡ last p c = cc in absurd (omega arith)
  is_departed e l f (waits {t = u} {d = d} _ h _ g) = let q : t ≡ u = cc in let z : ◌≡◌ {A = ℕ} 0 1 = cc in absurd (omega arith)
  is_departed e l f (departs {t = u} _ h _ _) = let q : u ≡ t = cc in get_or-set_same s.motions c (Travelling u) (Standing 0) (omega (arith, k.long)) ∙ ap Travelling q
  is_departed e l f (arrives _ h _) = let z : ◌≡◌ {A = ℕ} 0 1 = cc in absurd (omega arith)

  -- a travelling carrier arrives
  pub is_arrived : motion_of s c ≡ Travelling t → {r : Turned} → Outcome p s c r → motion_of r.state c ≡ Standing (suc t)
  is_arrived e (not_in_run n) = absurd (n cp)
  is_arrived e (is_home _ h) = let z : ◌≡◌ {A = ℕ} 0 1 = cc in absurd (omega arith)
  is_arrived e (waits _ h _ _) = let z : ◌≡◌ {A = ℕ} 0 1 = cc in absurd (omega arith)
  is_arrived e (departs _ h _ _) = let z : ◌≡◌ {A = ℕ} 0 1 = cc in absurd (omega arith)
  is_arrived e (arrives {t = u} _ h _) =
      let q : u ≡ t = cc in get_or-set_same s.motions c (Standing (suc u)) (Standing 0) (omega (arith, k.long)) ∙ ap (λ n. Standing (suc n)) q

-- where all carriers stand and c can move, its next place is free, and two turns move it
module _ (p : Plan) (size : ℕ) (o : Opens p size) (s : State) (k : Kept p size s)
    (x : Picture) (at : (d : ℕ) → Carrier p d → motion_of s d ≡ Standing (x d)) (c : ℕ) (can : CanMove p x c) where
  has_leg : HasLeg p c (x c)
  has_leg = let w : x c ≤ last p c = rw (at c can.carrier) at (k.within c) in omega (arith, can.unfinished)

  next_free : (y : Option ℕ) → holder_of s.holders (entry p c (suc (x c))) ≡ y → y ≡ None
  next_free None e = refl
  next_free (Some d) e =
      let h = (k.held d (entry p c (suc (x c)))).0 e in
      let same : entry p d (x d) ≡ entry p c (suc (x c)) = rw (at d h.0) at h.1 in
      absurd (other d h.0 same (cases_eq c d))
    where
      other : (d : ℕ) → Carrier p d → entry p d (x d) ≡ entry p c (suc (x c)) → (c ≡ d) ⊎ (c ≡ d → ⊥) → ⊥
      other d dp same (inl q) = legs_lead_away p o.0 c (x c) has_leg (rw (← q) at same)
      other d dp same (inr ne) = can.free d dp ne same

  two_turns : (y : Picture) → Moved c x y → (d : ℕ) → Carrier p d → motion_of (after p size s (TurnFor c ∷ TurnFor c ∷ [])) d ≡ Standing (y d)
  two_turns y moved d dp = go (cases_eq c d)
    where
      first : Outcome p s c (turned p size s c)
      first = outcome p size o s k c

      between : Kept p size (turned p size s c).state
      between = kept_turn p size o s k c first

      second : Outcome p (turned p size s c).state c (turned p size (turned p size s c).state c)
      second = outcome p size o (turned p size s c).state between c

      go : (c ≡ d) ⊎ (c ≡ d → ⊥) → motion_of (after p size s (TurnFor c ∷ TurnFor c ∷ [])) d ≡ Standing (y d)
      go (inl e) =
          rw (← e)
          (is_arrived p size (turned p size s c).state between c can.carrier (x c)
          (is_departed p size s k c can.carrier (x c) (at c can.carrier) has_leg (next_free _ refl) first) second
          ∙ ap Standing (sym moved.one))
      go (inr ne) =
          others_stay p (turned p size s c).state c second d ne ∙ others_stay p s c first d ne ∙ at d dp ∙ ap Standing (sym (moved.others d ne))

pub moves_are_turns : MovesAreTurns
moves_are_turns p size o cs x (begin z) c cp = opened_stands p size c ∙ ap Standing (sym (z c))
moves_are_turns p size o cs y (move {cs = ds} {x = x} lead c can moved) d dp =
    rw (twice_push ds c, map-append, after-++)
    (two_turns p size o (reached p size (turns_for (twice ds))) (kept p size o (turns_for (twice ds))) x (moves_are_turns p size o ds x lead) c can y moved d dp)
