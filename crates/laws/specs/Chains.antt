-- Chains of legs, circular waits, how they are written, and the one that is named.
use Rattle.std.specs.Prelude.{◌≡◌, ℕ, suc, ◌<◌, ◌⊎◌, List, [], ◌∷◌, ◌++◌, length, ◌≢◌}
use Rattle.plans.specs.Plan.{Plan}
use Rattle.laws.specs.declared.pairs.Pair.{Pair}
use Rattle.laws.specs.Paths.{Carrier, HasLeg, entry}

-- a pair is a leg of a carrier of the plan
pub record IsLeg (p : Plan) (x : Pair) : Type 0 where
  pub carrier : Carrier p x.carrier
  pub inside : HasLeg p x.carrier x.leg

-- where a leg begins, and where it ends
abbrev pub begin : Plan → Pair → ℕ
begin p x = entry p x.carrier x.leg

abbrev pub end : Plan → Pair → ℕ
end p x = entry p x.carrier (suc x.leg)

-- legs, each ending where the next begins, from the place u to the place v
unfoldable pub Linked : Plan → ℕ → ℕ → List Pair → Type 0
Linked p u v [] = u ≡ v
Linked p u v (x ∷ xs) = IsLeg p x × (begin p x ≡ u) × Linked p (end p x) v xs

-- no leg is of carrier c
unfoldable pub Absent : ℕ → List Pair → Type 0
Absent c [] = Unit {0}
Absent c (x ∷ xs) = (x.carrier ≢ c) × Absent c xs

-- the legs are of different carriers
unfoldable pub Apart : List Pair → Type 0
Apart [] = Unit {0}
Apart (x ∷ xs) = Absent x.carrier xs × Apart xs

-- a chain: legs of different carriers, each ending where the next begins, from the place u to the place v
pub record Chain (p : Plan) (u v : ℕ) (xs : List Pair) : Type 0 where
  pub linked : Linked p u v xs
  pub apart : Apart xs

-- a circular wait: a chain of two legs or more that ends where it begins
pub record CircularWait (p : Plan) (w : List Pair) : Type 0 where
  pub place : ℕ
  pub chain : Chain p place place w
  pub more : 1 < length w

abbrev pub NoCircularWait : Plan → Type 0
NoCircularWait p = (w : List Pair) → CircularWait p w → ⊥

-- each leg is of a carrier above c
unfoldable pub Above : ℕ → List Pair → Type 0
Above c [] = Unit {0}
Above c (x ∷ xs) = (c < x.carrier) × Above c xs

-- it begins with its lowest carrier
abbrev pub LowestFirst : List Pair → Type 0
LowestFirst [] = ⊥
LowestFirst (x ∷ xs) = Above x.carrier xs

-- a circular wait as it is written: from its lowest carrier on
pub record Written (p : Plan) (w : List Pair) : Type 0 where
  pub circular : CircularWait p w
  pub lowest : LowestFirst w

-- a pair comes before another: by the carrier, then by the leg
abbrev pub Under : Pair → Pair → Type 0
Under x y = (x.carrier < y.carrier) ⊎ ((x.carrier ≡ y.carrier) × (x.leg < y.leg))

-- of two lists that are as long, one comes before the other, pair compared with pair
unfoldable pub Earlier : List Pair → List Pair → Type 0
Earlier [] w = ⊥
Earlier (x ∷ v) [] = ⊥
Earlier (x ∷ v) (y ∷ w) = Under x y ⊎ ((x ≡ y) × Earlier v w)

-- it has fewer pairs, or as many and comes before the other
abbrev pub Before : List Pair → List Pair → Type 0
Before v w = (length v < length w) ⊎ ((length v ≡ length w) × Earlier v w)

-- the circular wait that is named: as written, none comes before it
pub record Named (p : Plan) (w : List Pair) : Type 0 where
  pub written : Written p w
  pub first : (v : List Pair) → Written p v → Before v w → ⊥

-- the same round, begun elsewhere
pub record Rotated (v w : List Pair) : Type 0 where
  pub front : List Pair
  pub back : List Pair
  pub was : v ≡ front ++ back
  pub is : w ≡ back ++ front

-- a way to write a circular wait from its lowest carrier on
pub record Writing (p : Plan) (v : List Pair) : Type 0 where
  pub writing : List Pair
  pub rotated : Rotated v writing
  pub written : Written p writing
