-- The file of a plan.
use Rattle.std.specs.Prelude.{ℕ, ◌/◌, ◌%◌, List, [], ◌∷◌, ◌++◌, length}
use Rattle.rail_floor.specs.declared.legs.Leg.{Leg}
use Rattle.store_floor.specs.Layout.{Layout, rails, cellular}
use Rattle.plans.specs.Plan.{Route, Plan}

-- a number, the low byte first
abbrev pub two : ℕ → List ℕ
two v = (v % 256) ∷ (v / 256) ∷ []

abbrev pub leg_bytes : Leg → List ℕ
leg_bytes leg = two leg.from ++ (two leg.to ++ two leg.length)

unfoldable pub legs_bytes : List Leg → List ℕ
legs_bytes [] = []
legs_bytes (leg ∷ legs) = leg_bytes leg ++ legs_bytes legs

-- "RF" or "HF", and the floor
abbrev pub floor_bytes : Layout → List ℕ
floor_bytes (rails size legs) = 82 ∷ 70 ∷ (two size ++ (two (length legs) ++ legs_bytes legs))
floor_bytes (cellular h) = 72 ∷ 70 ∷ (two h.width ++ (two h.height ++ (two h.across ++ (two h.down ++ h.blocked))))

unfoldable pub entries_bytes : List ℕ → List ℕ
entries_bytes [] = []
entries_bytes (entry ∷ more) = two entry ++ entries_bytes more

-- for each carrier "CA" and the carrier
unfoldable pub routes_bytes : List Route → List ℕ
routes_bytes [] = []
routes_bytes (r ∷ more) = (67 ∷ 65 ∷ (two r.start ++ (two r.goal ++ (two (length r.path) ++ entries_bytes r.path)))) ++ routes_bytes more

-- the whole file, up to "EN"
unfoldable pub written : Plan → List ℕ
written p = floor_bytes p.floor ++ (routes_bytes p.carriers ++ (69 ∷ 78 ∷ []))
