-- Pictures: an entry number for each carrier. They leave out that a carrier travels between two entries.
use Rattle.std.specs.Prelude.{◌≡◌, ℕ, suc, ◌≢◌, List, [], ◌∷◌, ◌++◌}
use Rattle.plans.specs.Plan.{Plan}
use Rattle.laws.specs.Paths.{Carrier, entry, last}

-- the entry at which each carrier is
abbrev pub Picture : Type 0
Picture = ℕ → ℕ

-- a carrier can move if it is not at its last entry and no other carrier is at its next place
pub record CanMove (p : Plan) (x : Picture) (c : ℕ) : Type 0 where
  pub carrier : Carrier p c
  pub unfinished : x c ≢ last p c
  pub free : (d : ℕ) → Carrier p d → c ≢ d → entry p d (x d) ≢ entry p c (suc (x c))

-- one carrier is one entry further, the others are where they were
pub record Moved (c : ℕ) (x y : Picture) : Type 0 where
  pub one : y c ≡ suc (x c)
  pub others : (d : ℕ) → c ≢ d → y d ≡ x d

-- moves, in their order, lead from the first picture, in which all entry numbers are 0, to this one
pub data LeadTo (p : Plan) : List ℕ → Picture → Type 0 where
  begin : {x : Picture} → ((c : ℕ) → x c ≡ 0) → LeadTo p [] x
  move : {cs : List ℕ} {x y : Picture} → LeadTo p cs x → (c : ℕ) → CanMove p x c → Moved c x y → LeadTo p (cs ++ c ∷ []) y

-- some moves lead to it
abbrev pub Reachable : Plan → Picture → Type 0
Reachable p x = (cs : List ℕ) × LeadTo p cs x

-- a standstill: a reachable picture in which some carrier is not at its last entry, and none can move
pub record Standstill (p : Plan) (x : Picture) : Type 0 where
  pub reached : Reachable p x
  pub stuck : (c : ℕ) → CanMove p x c → ⊥
  pub who : ℕ
  pub carrier : Carrier p who
  pub short : x who ≢ last p who

abbrev pub NoStandstill : Plan → Type 0
NoStandstill p = (x : Picture) → Standstill p x → ⊥
