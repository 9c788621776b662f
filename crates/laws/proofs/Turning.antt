-- What every turn keeps, and what a turn does where it is kept, as cases to match on.
use Rattle.std.proofs.Common.{◌≡◌, ℕ, suc, ◌<◌, ◌≤◌, cond, eqb, ltb, ◌⊎◌, ◌↔◌, List, [], ◌∷◌, length, get_or, set, Some, None, Ok, Err, Option, sym, refl, ap, ◌∙◌, inl, inr, arith}
use Rattle.std.proofs.lemmas.List.{get_or-set_same, get_or-set_other}
use Rattle.std.proofs.lemmas.Bool.{cases_eq, ltb-true, ltb-false, eq-eqb, ne_eqb, cond_both}
use Rattle.boards.specs.Holders.{holder_of, Holds, Free, held}
use Rattle.boards.specs.Calls.{enter_answer, leave_answer}
use Rattle.boards.proofs.Holding.{one, held-set}
use Rattle.boards.proofs.Granting.{enter_is, may_enter, may_leave}
use Rattle.plans.specs.Plan.{Plan}
use Rattle.laws.specs.declared.faults.RunFault.TheVariants.{NotInRun}
use Rattle.laws.specs.declared.motions.Motion.{Motion}
use Rattle.laws.specs.declared.motions.Motion.TheVariants.{Standing, Travelling}
use Rattle.laws.specs.declared.motions.Turn.TheVariants.{Home, Departed, Waits, Arrived}
use Rattle.laws.specs.Paths.{carriers, Carrier, entry, last, HasLeg}
use Rattle.laws.specs.Pictures.{Reachable}
use Rattle.laws.specs.Runs.{State, motion_of, Turned, on_entering, on_leaving, moved, turned}
use Rattle.laws.specs.Laws.{Opens, Occupies, seen}
use Rattle.laws.proofs.Placed.{few_carriers, entry_inside}

-- a list after one write
pub get_or-set : {A : Type 0} (xs : List A) (i : ℕ) (y : A) (j : ℕ) (d : A) → i < length xs → get_or (set xs i y) j d ≡ cond (eqb j i) y (get_or xs j d)
get_or-set xs i y j d l = go (cases_eq j i)
  where
    go : (j ≡ i) ⊎ (j ≡ i → ⊥) → get_or (set xs i y) j d ≡ cond (eqb j i) y (get_or xs j d)
    go (inl e) = rw (eq-eqb j i e, e) (get_or-set_same xs i y d l)
    go (inr ne) = rw (ne_eqb j i ne) (get_or-set_other xs i j y d ne)

-- who holds no place holds none, and who holds a single place holds one
pub held_nowhere : (hs : List (Option ℕ)) (c : ℕ) → ((q : ℕ) → Holds hs c q → ⊥) → held hs c ≡ 0
unfolding held
held_nowhere [] c never = refl
held_nowhere (x ∷ hs) c never = omega (arith, first x (never 0), held_nowhere hs c (λ q. never (suc q)))
  where
    first : (x : Option ℕ) → (x ≡ Some c → ⊥) → one x c ≡ 0
    first None n = refl
    first (Some d) n = rw (ne_eqb d c (λ e. n (ap Some e)))

pub held_once : (hs : List (Option ℕ)) (c q : ℕ) → q < length hs → Holds hs c q → ((r : ℕ) → Holds hs c r → r ≡ q) → held hs c ≡ 1
held_once hs c q l mine only =
    let e = held-set hs q (Some c) None c l mine in
    let o : one (Some c) c ≡ 1 = rw (eq-eqb c c refl) in
    let z = held_nowhere (set hs q None) c none in
    omega arith
  where
    none : (r : ℕ) → Holds (set hs q None) c r → ⊥
    none r h = go (cases_eq r q)
      where
        go : (r ≡ q) ⊎ (r ≡ q → ⊥) → ⊥
        go (inl e) = let f = get_or-set_same hs q None None l in let z : ◌≡◌ {A = ℕ} 0 1 = cc in omega arith
        go (inr ne) = ne (only r (sym (get_or-set_other hs q r None None ne) ∙ h))

-- an entry or a leg of a path with so many legs
abbrev pub Within : ℕ → Motion → Type 0
Within legs (Standing t) = t ≤ legs
Within legs (Travelling t) = t < legs

-- What every turn keeps.
pub record Kept (p : Plan) (size : ℕ) (s : State) : Type 0 where
  pub long : length s.motions ≡ carriers p
  pub sized : length s.holders ≡ size
  pub within : (c : ℕ) → Within (last p c) (motion_of s c)
  pub held : (c place : ℕ) → (holder_of s.holders place ≡ Some c) ↔ (Carrier p c × Occupies p c (motion_of s c) place)
  pub pictured : Reachable p (λ c. seen (motion_of s c))

-- c begins its leg t, and ends it
abbrev pub departed : Plan → State → ℕ → ℕ → State
departed p s c t = record { motions = set s.motions c (Travelling t); holders = set s.holders (entry p c (suc t)) (Some c) }

abbrev pub arrived : Plan → State → ℕ → ℕ → State
arrived p s c t = record { motions = set s.motions c (Standing (suc t)); holders = set s.holders (entry p c t) None }

-- What a turn for c does.
pub data Outcome (p : Plan) (s : State) (c : ℕ) : Turned → Type 0 where
  not_in_run : (Carrier p c → ⊥) → Outcome p s c (record { answer = Err (NotInRun c); state = s })
  is_home : Carrier p c → motion_of s c ≡ Standing (last p c) → Outcome p s c (record { answer = Ok Home; state = s })
  waits : {t d : ℕ} → Carrier p c → motion_of s c ≡ Standing t → HasLeg p c t → Holds s.holders d (entry p c (suc t)) →
      Outcome p s c (record { answer = Ok (Waits (entry p c (suc t)) d); state = s })
  departs : {t : ℕ} → Carrier p c → motion_of s c ≡ Standing t → HasLeg p c t → Free s.holders (entry p c (suc t)) →
      Outcome p s c (record { answer = Ok Departed; state = departed p s c t })
  arrives : {t : ℕ} → Carrier p c → motion_of s c ≡ Travelling t → HasLeg p c t → Outcome p s c (record { answer = Ok Arrived; state = arrived p s c t })

module _ (p : Plan) (size : ℕ) (o : Opens p size) (s : State) (k : Kept p size s) (c : ℕ) (cp : Carrier p c) where
  -- a standing carrier holds the place where it stands and no other
  holds_once : (t : ℕ) → motion_of s c ≡ Standing t → t ≤ last p c → held s.holders c ≡ 1
  holds_once t e l =
      held_once s.holders c (entry p c t) (omega (arith, entry_inside p o.0 c cp t l, k.sized)) ((k.held c (entry p c t)).1 (cp, rw e refl))
      (λ r h. sym (rw e at ((k.held c r).0 h).1))

  asked : (t : ℕ) → motion_of s c ≡ Standing t → HasLeg p c t → (x : Option ℕ) → holder_of s.holders (entry p c (suc t)) ≡ x →
      Outcome p s c (on_entering p size s c t (enter_answer size s.holders c (entry p c (suc t))))
  asked t e l None f =
      let once = holds_once t e (omega arith) in
      let inside = entry_inside p o.0 c cp (suc t) (omega arith) in
      let g = may_enter size s.holders c (entry p c (suc t)) (record {
        inside = omega arith;
        carrier = few_carriers p o.0 c cp;
        free = f;
        room = omega arith;
      }) in
      rw (g, g) (departs cp e l f)
  asked t e l (Some d) f =
      let inside = entry_inside p o.0 c cp (suc t) (omega arith) in
      rw (enter_is size s.holders c (entry p c (suc t)) (Some d) _ (omega arith) (few_carriers p o.0 c cp) f refl) (waits cp e l f)

  left_behind : (t : ℕ) → motion_of s c ≡ Travelling t → HasLeg p c t → Outcome p s c (on_leaving p size s c t (leave_answer size s.holders c (entry p c t)))
  left_behind t e l =
      let inside = entry_inside p o.0 c cp t (omega arith) in
      let g = may_leave size s.holders c (entry p c t) (record {
        inside = omega arith;
        carrier = few_carriers p o.0 c cp;
        mine = (k.held c (entry p c t)).1 (cp, rw e (inl refl));
      }) in
      rw (g, g) (arrives cp e l)

  by_motion : (x : Motion) → motion_of s c ≡ x → Outcome p s c (moved p size s c x)
  by_motion (Standing t) e =
      cond_both (ltb t (last p c)) _ _ (Outcome p s c)
      (λ b. asked t e (ltb-true t (last p c) b) (holder_of s.holders (entry p c (suc t))) refl)
      (λ b. let h : t ≡ last p c = omega (arith, ltb-false t (last p c) b, rw e at (k.within c)) in is_home cp (e ∙ ap Standing h))
  by_motion (Travelling t) e = left_behind t e (rw e at (k.within c))

-- what the turn does
pub outcome : (p : Plan) (size : ℕ) → Opens p size → (s : State) → Kept p size s → (c : ℕ) → Outcome p s c (turned p size s c)
unfolding turned
outcome p size o s k c =
    cond_both (ltb c (carriers p)) _ _ (Outcome p s c)
    (λ b. by_motion p size o s k c (ltb-true c (carriers p) b) (motion_of s c) refl)
    (λ b. not_in_run (λ cp. omega (arith, ltb-false c (carriers p) b)))
