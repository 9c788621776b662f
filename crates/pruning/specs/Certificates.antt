-- What is checked of tables that were computed without a promise: each is a certificate for a fact about chains.
use Rattle.std.specs.Prelude.{◌≡◌, ℕ, suc, ◌+◌, ◌<◌, ◌≤◌, cond, ◌⊎◌, List, ◌∷◌, count_by, ◌==◌, ◌≢◌, nat_eq, slice_index, slice_index_or, None, Option, IfSome}
use Rattle.std.specs.Option.{unwrap_or}
use Rattle.plans.specs.Plan.{Plan}
use Rattle.laws.specs.declared.pairs.Pair.{Pair}
use Rattle.laws.specs.Paths.{Carrier, HasLeg, entry, last}
use Rattle.laws.specs.Chains.{CircularWait}
use Rattle.pruning.specs.declared.dropped.Dropped.{Dropped}
use Rattle.pruning.specs.Back.{height, Scope, Open}

-- No dropped leg is on a circular wait.
abbrev pub Live : Plan → Dropped → Type 0
Live p d = (x : Pair) (xs : List Pair) → CircularWait p (x ∷ xs) → height d x.carrier x.leg ≡ None

-- of the legs at a place: their least height, a carrier that has it, and the least height of the other carriers
pub record Lowest : Type 0 where
  pub low : ℕ
  pub who : ℕ
  pub next : ℕ

-- what a table says of the legs at the place u
abbrev pub lowest_at : List Lowest → ℕ → Lowest
lowest_at table u = slice_index_or table u (record { low = 0; who = 0; next = 0 })

-- a leg of carrier c at a place, of height h, has been counted
pub record Counts (at : Lowest) (c h : ℕ) : Type 0 where
  pub least : at.low ≤ h
  pub others : (at.who ≢ c) → at.next ≤ h

-- the least height of the legs at a place of other carriers than c
abbrev pub least_other : Lowest → ℕ → ℕ
least_other at c = cond (at.who == c) at.next at.low

-- the height that leg t of carrier c counts with: 0 if it is kept
abbrev pub counted : Dropped → ℕ → ℕ → ℕ
counted d c t = unwrap_or (height d c t) 0

-- What is checked of leg t of c: it is counted where it begins, in `out`, and where it ends, in `into`; and if it is dropped, then all
-- legs of others that begin at its end are higher, or all that end at its beginning.
pub record Sunk (p : Plan) (d : Dropped) (out into : List Lowest) (c t : ℕ) : Type 0 where
  pub leaves : Counts (lowest_at out (entry p c t)) c (counted d c t)
  pub comes : Counts (lowest_at into (entry p c (suc t))) c (counted d c t)
  pub small : counted d c t < 65536
  pub alone : (height d c t ≡ None) ⊎ ((counted d c t < least_other (lowest_at out (entry p c (suc t))) c) ⊎ (counted d c t < least_other (lowest_at into (entry p c t)) c))

-- how many numbers are 0
unfoldable pub zeros : List ℕ → ℕ
zeros xs = count_by (λ x. nat_eq x 0) xs

-- by how much a leg of carrier c may lower: by one if the carrier counts, which 0 says
abbrev pub step_of : List ℕ → ℕ → ℕ
step_of counts c = cond (slice_index counts c == 0) 1 0

-- What is checked of numbers at places: 0 at home, and no open leg leads to a place that is lower by more than its carrier's step, if it
-- begins and ends near enough for `left` legs.
pub record Graded (p : Plan) (marks ahead near : List ℕ) (left : ℕ) (counts : List ℕ) (s : Scope) (home : ℕ) (back : List ℕ) : Type 0 where
  pub at_home : slice_index back home ≡ 0
  pub even : (c t : ℕ) → Open p marks s (entry p c t) c t → slice_index ahead (entry p c t) + slice_index near (entry p c (suc t)) < left → slice_index back (entry p c t) ≤ slice_index back (entry p c (suc t)) + step_of counts c

-- The same the other way: 0 at the place `from`, and no open leg leads to a place that is higher by more than one.
pub record Ahead (p : Plan) (marks : List ℕ) (s : Scope) (from : ℕ) (ahead : List ℕ) : Type 0 where
  pub at_start : slice_index ahead from ≡ 0
  pub even : (c t : ℕ) → Open p marks s (entry p c t) c t → slice_index ahead (entry p c (suc t)) ≤ slice_index ahead (entry p c t) + 1

-- leg t of k and leg t of c are both dropped, or both kept and between the same places
pub record AlikeLeg (p : Plan) (d : Dropped) (k c t : ℕ) : Type 0 where
  pub there : height d k t ≡ None → height d c t ≡ None
  pub back : height d c t ≡ None → height d k t ≡ None
  pub begins : height d k t ≡ None → entry p k t ≡ entry p c t
  pub ends : height d k t ≡ None → entry p k (suc t) ≡ entry p c (suc t)

-- carriers k and c are interchangeable
pub record Alike (p : Plan) (d : Dropped) (k c : ℕ) : Type 0 where
  pub legs : last p k ≡ last p c
  pub leg : (t : ℕ) → HasLeg p k t → AlikeLeg p d k c t

-- What is checked of `like`: what it says for a carrier, if anything, is a lower one that is interchangeable with it.
abbrev pub Likes : Plan → Dropped → List (Option ℕ) → Type 0
Likes p d like = (c : ℕ) → Carrier p c → IfSome (slice_index_or like c None) (λ k. (k < c) × Alike p d k c)
