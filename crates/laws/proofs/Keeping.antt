-- A run as it is opened, every turn, and so every string of calls keep what is to be kept.
use Rattle.std.proofs.Common.{◌≡◌, ℕ, zero, suc, ◌<◌, ◌≤◌, ◌≢◌, ◌⊎◌, ◌↔◌, List, [], ◌∷◌, length, get_or, set, replicate, Some, None, Option, sym, refl, ap, ◌∙◌, subst, inl, inr, arith}
use mathlib.Core.Path.{fun_ext}
use Rattle.std.proofs.lemmas.List.{get_or-set_same, get_or-set_other, length-set, length-replicate}
use Rattle.std.proofs.lemmas.Bool.{cases_eq}
use Rattle.std.proofs.lemmas.Bool.Decides.{nat_tests}
use Rattle.boards.specs.Holders.{holder_of, Holds, Free}
use Rattle.boards.specs.Calls.{entered}
use Rattle.boards.proofs.Holding.{free_none}
use Rattle.boards.proofs.Granting.{may_enter, entered_is}
use Rattle.plans.specs.Plan.{Plan}
use Rattle.laws.specs.declared.calls.Call.{Call}
use Rattle.laws.specs.declared.calls.Call.TheVariants.{TurnFor, MotionOf, DistanceLeft, HolderOf, CountOf}
use Rattle.laws.specs.declared.motions.Motion.{Motion}
use Rattle.laws.specs.declared.motions.Motion.TheVariants.{Standing, Travelling}
use Rattle.laws.specs.Paths.{carriers, Carrier, start, entry, last, HasLeg}
use Rattle.laws.specs.Pictures.{CanMove, Reachable}
use Rattle.laws.specs.Pictures.LeadTo.{begin, move}
use Rattle.laws.specs.Runs.{State, motion_of, Turned, starts_held, opened}
use Rattle.laws.specs.Strings.{called, after, reached}
use Rattle.laws.specs.Laws.{Opens, Occupies, seen}
use Rattle.laws.proofs.Placed.{few_carriers, start_inside, legs_lead_away, entry_inside}
use Rattle.laws.proofs.Turning.{get_or-set, held_nowhere, Within, Kept, departed, arrived, Outcome, outcome}
use Rattle.laws.proofs.Turning.Outcome.{not_in_run, is_home, waits, departs, arrives}

-- what holds of the value written, and of the others as they were, holds of a list after one write
pub set_all : {A : Type 0} (xs : List A) (i : ℕ) (y d : A) (P : ℕ → A → Type 0) → i < length xs → P i y → ((j : ℕ) → i ≢ j → P j (get_or xs j d)) →
    (j : ℕ) → P j (get_or (set xs i y) j d)
set_all xs i y d P l here other j = go (cases_eq j i)
  where
    go : (j ≡ i) ⊎ (j ≡ i → ⊥) → P j (get_or (set xs i y) j d)
    go (inl e) = rw (e, get_or-set_same xs i y d l) here
    go (inr ne) = rw (get_or-set_other xs i j y d ne) (other j (λ e. ne (sym e)))

-- a carrier is at the place of its entry in the picture
pub occupies_seen : (p : Plan) (c : ℕ) (x : Motion) → Occupies p c x (entry p c (seen x))
occupies_seen p c (Standing t) = refl
occupies_seen p c (Travelling t) = inr refl

module _ (p : Plan) (size : ℕ) (o : Opens p size) (s : State) (k : Kept p size s) (c : ℕ) (cp : Carrier p c) (t : ℕ) (l : HasLeg p c t) where
  module _ (e : motion_of s c ≡ Standing t) (f : Free s.holders (entry p c (suc t))) where
    held_departed : (d q : ℕ) → (holder_of (departed p s c t).holders q ≡ Some d) ↔ (Carrier p d × Occupies p d (motion_of (departed p s c t) d) q)
    held_departed d q =
        let inside = entry_inside p o.0 c cp (suc t) (omega arith) in
        let a = get_or-set s.motions c (Travelling t) d (Standing 0) (omega (arith, k.long)) in
        let b = get_or-set s.holders (entry p c (suc t)) (Some c) q None (omega (arith, k.sized)) in
        let here = k.held d q in
        let there = k.held d (entry p c (suc t)) in
        rw (a, b) (grind (arith, nat_tests))

    can_depart : CanMove p (λ d. seen (motion_of s d)) c
    can_depart = record {
      carrier = cp;
      unfinished = rw e (omega arith);
      free = λ d dp ne same.
          let h : entry p d (seen (motion_of s d)) ≡ entry p c (suc t) = rw e at same in
          let g = (k.held d (entry p d (seen (motion_of s d)))).1 (dp, occupies_seen p d (motion_of s d)) in
          let z : ◌≡◌ {A = ℕ} 0 1 = cc in omega arith;
    }

    kept_departed : Kept p size (departed p s c t)
    kept_departed =
        let short : c < length s.motions = omega (arith, k.long) in
        record {
          long = length-set s.motions c (Travelling t) ∙ k.long;
          sized = length-set s.holders (entry p c (suc t)) (Some c) ∙ k.sized;
          within = set_all s.motions c (Travelling t) (Standing 0) (λ d x. Within (last p d) x) short l (λ d _. k.within d);
          held = held_departed;
          pictured = (
            _,
            move k.pictured.1 c can_depart (record {
              one = rw (get_or-set_same s.motions c (Travelling t) (Standing 0) short, e);
              others = λ d ne. ap seen (get_or-set_other s.motions c d (Travelling t) (Standing 0) (λ q. ne (sym q)));
            }),
          );
        }

  module _ (e : motion_of s c ≡ Travelling t) where
    held_arrived : (d q : ℕ) → (holder_of (arrived p s c t).holders q ≡ Some d) ↔ (Carrier p d × Occupies p d (motion_of (arrived p s c t) d) q)
    held_arrived d q =
        let inside = entry_inside p o.0 c cp t (omega arith) in
        let a = get_or-set s.motions c (Standing (suc t)) d (Standing 0) (omega (arith, k.long)) in
        let b = get_or-set s.holders (entry p c t) None q None (omega (arith, k.sized)) in
        let away = legs_lead_away p o.0 c t l in
        let here = k.held d q in
        let there = k.held d (entry p c t) in
        let own = (k.held c (entry p c t)).1 (cp, rw e (inl refl)) in
        rw (a, b) (grind (arith, nat_tests))

    kept_arrived : Kept p size (arrived p s c t)
    kept_arrived =
        let short : c < length s.motions = omega (arith, k.long) in
        record {
          long = length-set s.motions c (Standing (suc t)) ∙ k.long;
          sized = length-set s.holders (entry p c t) None ∙ k.sized;
          within = set_all s.motions c (Standing (suc t)) (Standing 0) (λ d x. Within (last p d) x) short l (λ d _. k.within d);
          held = held_arrived;
          pictured = subst (Reachable p)
              (fun_ext λ d. sym (set_all s.motions c (Standing (suc t)) (Standing 0) (λ d x. seen x ≡ seen (motion_of s d)) short (rw e) (λ _ _. refl) d))
              k.pictured;
        }

pub kept_turn : (p : Plan) (size : ℕ) → Opens p size → (s : State) → Kept p size s → (c : ℕ) {r : Turned} → Outcome p s c r → Kept p size r.state
kept_turn p size o s k c (not_in_run _) = k
kept_turn p size o s k c (is_home _ _) = k
kept_turn p size o s k c (waits _ _ _ _) = k
kept_turn p size o s k c (departs {t = t} cp e l f) = kept_departed p size o s k c cp t l e f
kept_turn p size o s k c (arrives {t = t} cp e l) = kept_arrived p size o s k c cp t l e

pub kept_call : (p : Plan) (size : ℕ) → Opens p size → (s : State) → Kept p size s → (call : Call) → Kept p size (called p size s call)
kept_call p size o s k (TurnFor c) = kept_turn p size o s k c (outcome p size o s k c)
kept_call p size o s k (MotionOf c) = k
kept_call p size o s k DistanceLeft = k
kept_call p size o s k (HolderOf place) = k
kept_call p size o s k (CountOf c) = k

pub kept_after : (p : Plan) (size : ℕ) → Opens p size → (s : State) → Kept p size s → (calls : List Call) → Kept p size (after p size s calls)
kept_after p size o s k [] = k
kept_after p size o s k (call ∷ calls) = kept_after p size o (called p size s call) (kept_call p size o s k call) calls

-- the board after the first n carriers have entered their starts
record StartsEntered (p : Plan) (size n : ℕ) (holders : List (Option ℕ)) : Type 0 where
  pub sized : length holders ≡ size
  pub held : (c q : ℕ) → Holds holders c q ↔ ((c < n) × (start p c ≡ q))

starts_entered : (p : Plan) (size : ℕ) → Opens p size → (n : ℕ) → n ≤ carriers p → StartsEntered p size n (starts_held p size (replicate size None) n)
starts_entered p size o zero l = record {
  sized = length-replicate size None;
  held = λ c q. ((λ h. let z : ◌≡◌ {A = ℕ} 0 1 = cc (free_none size q) in absurd (omega arith)), λ x. absurd (omega arith));
}
starts_entered p size o (suc n) l = go (starts_held p size (replicate size None) n) (starts_entered p size o n (omega arith))
  where
    go : (hs : List (Option ℕ)) → StartsEntered p size n hs → StartsEntered p size (suc n) (entered size hs n (start p n))
    go hs b =
        let inside = start_inside p o.0 n (omega arith) in
        let nowhere = held_nowhere hs n (λ q h. omega (arith, ((b.held n q).0 h).0)) in
        let g = may_enter size hs n (start p n) (record {
          inside = omega arith;
          carrier = few_carriers p o.0 n (omega arith);
          free = free (holder_of hs (start p n)) refl;
          room = omega arith;
        }) in
        rw (entered_is size hs n (start p n) g) (record {
          sized = length-set hs (start p n) (Some n) ∙ b.sized;
          held = λ c q.
              let a = get_or-set hs (start p n) (Some n) q None (omega (arith, b.sized)) in
              let here = b.held c q in
              let apart = o.0.apart c n in
              rw a (grind (arith, nat_tests));
        })
      where
        free : (x : Option ℕ) → holder_of hs (start p n) ≡ x → x ≡ None
        free None e = refl
        free (Some d) e =
            let h = (b.held d (start p n)).0 e in
            let same = o.0.apart d n (omega arith) (omega arith) h.1 in
            absurd (omega arith)

all_stand : (n c : ℕ) → get_or (replicate n (Standing 0)) c (Standing 0) ≡ Standing 0
all_stand zero c = refl
all_stand (suc n) zero = refl
all_stand (suc n) (suc c) = all_stand n c

pub opened_stands : (p : Plan) (size c : ℕ) → motion_of (opened p size) c ≡ Standing 0
unfolding opened
opened_stands p size c = all_stand (carriers p) c

kept_opened : (p : Plan) (size : ℕ) → Opens p size → Kept p size (opened p size)
unfolding opened
kept_opened p size o =
    let b = starts_entered p size o (carriers p) (omega arith) in
    record {
      long = length-replicate (carriers p) (Standing 0);
      sized = b.sized;
      within = λ c. rw (all_stand (carriers p) c) (omega arith);
      held = λ c q. rw (all_stand (carriers p) c) (
        (λ h. let x = (b.held c q).0 h in (x.0, o.0.begins c x.0 ∙ x.1)),
        λ x. (b.held c q).1 (x.0, sym (o.0.begins c x.0) ∙ x.1),
      );
      pictured = (_, begin (λ c. ap seen (all_stand (carriers p) c)));
    }

-- after any string of calls
pub kept : (p : Plan) (size : ℕ) → Opens p size → (calls : List Call) → Kept p size (reached p size calls)
kept p size o calls = kept_after p size o (opened p size) (kept_opened p size o) calls
