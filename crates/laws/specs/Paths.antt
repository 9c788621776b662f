-- The paths of a plan's carriers, read entry by entry. An unknown carrier has no entries and no legs.
use Rattle.std.specs.Prelude.{◌≡◌, ℕ, zero, suc, pred, ◌+◌, ◌<◌, true, length, slice_index}
use Rattle.floors.specs.Exits.{has}
use Rattle.store_floor.specs.Layout.{exits_from}
use Rattle.plans.specs.Plan.{Plan, carrier}

-- how many carriers there are
abbrev pub carriers : Plan → ℕ
carriers p = length p.carriers

-- c is one of the plan's carriers
abbrev pub Carrier : Plan → ℕ → Type 0
Carrier p c = c < carriers p

-- where c starts, and where it is to go
abbrev pub start : Plan → ℕ → ℕ
start p c = (carrier p c).start

abbrev pub goal : Plan → ℕ → ℕ
goal p c = (carrier p c).goal

-- how many entries c's path has
abbrev pub entries : Plan → ℕ → ℕ
entries p c = length (carrier p c).path

-- the place that is entry t of c's path
unfoldable pub entry : Plan → ℕ → ℕ → ℕ
entry p c t = slice_index (carrier p c).path t

-- the number of c's last entry, which is the number of its legs
unfoldable pub last : Plan → ℕ → ℕ
last p c = pred (entries p c)

-- each carrier has a path (11)
abbrev pub HavePaths : Plan → Type 0
HavePaths p = (c : ℕ) → Carrier p c → 0 < entries p c

-- c has a leg t, from its entry t to its entry t + 1
abbrev pub HasLeg : Plan → ℕ → ℕ → Type 0
HasLeg p c t = t < last p c

-- a leg of the floor leads from a place to a place
abbrev pub Leads : Plan → ℕ → ℕ → Type 0
Leads p u v = has v (exits_from p.floor u) ≡ true

-- f 0 + .. + f (n - 1)
abbrev pub sum_over : ℕ → (ℕ → ℕ) → ℕ
sum_over zero f = 0
sum_over (suc n) f = sum_over n f + f n

-- how many legs all carriers have together
unfoldable pub legs : Plan → ℕ
legs p = sum_over (carriers p) (last p)
