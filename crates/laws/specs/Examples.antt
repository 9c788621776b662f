-- Worked plans on one small floor, and what the definitions give for them.
use Rattle.std.specs.Prelude.{◌≡◌, ℕ, List, [], ◌∷◌, Some, None, Ok, Option}
use Rattle.std.specs.Option.{option_map}
use Rattle.rail_floor.specs.declared.legs.Leg.{Leg}
use Rattle.store_floor.specs.Layout.{Layout, rails}
use Rattle.plans.specs.Plan.{Route, Plan}
use Rattle.laws.specs.declared.calls.Reply.{Reply}
use Rattle.laws.specs.declared.calls.Reply.TheVariants.{Turned}
use Rattle.laws.specs.declared.motions.Turn.TheVariants.{Departed, Waits, Arrived}
use Rattle.laws.specs.declared.pairs.Pair.{Pair}
use Rattle.laws.specs.Paths.{legs}
use Rattle.laws.specs.Rules.{no_path, wrong_end, no_leg, equal_starts, equal_goals, foreign_goal}
use Rattle.laws.specs.Naming.{pair, named}
use Rattle.laws.specs.Judging.{lowest_standstill, way, twice}
use Rattle.laws.specs.Runs.{opened, distance}
use Rattle.laws.specs.Strings.{reached, replies_to, turns_for}

abbrev pub leg : ℕ → ℕ → ℕ → Leg
leg from to long = record { from = from; to = to; length = long }

-- Five places: a line 0, 1, 2, 3, and a way round from 1 to 2 by 4; legs both ways.
abbrev pub line_with_loop : Layout
line_with_loop = rails 5 (leg 0 1 30 ∷ leg 1 0 30 ∷ leg 1 2 90 ∷ leg 1 4 20 ∷ leg 2 1 90 ∷ leg 2 3 30 ∷ leg 2 4 20 ∷ leg 3 2 30 ∷ leg 4 1 20 ∷ leg 4 2 20 ∷ [])

abbrev pub route : ℕ → ℕ → List ℕ → Route
route start goal path = record { start = start; goal = goal; path = path }

abbrev pub on_line : Route → Route → Plan
on_line r s = record { floor = line_with_loop; carriers = r ∷ s ∷ [] }

-- one carrier goes along the line, the other turns aside in front of it
abbrev pub aside : Plan
aside = on_line (route 0 3 (0 ∷ 1 ∷ 2 ∷ 3 ∷ [])) (route 2 4 (2 ∷ 4 ∷ []))

-- two carriers meet head on
abbrev pub head_on : Plan
head_on = on_line (route 0 3 (0 ∷ 1 ∷ 2 ∷ 3 ∷ [])) (route 3 0 (3 ∷ 2 ∷ 1 ∷ 0 ∷ []))

-- one carrier goes through the other's goal
abbrev pub through_goal : Plan
through_goal = on_line (route 0 2 (0 ∷ 1 ∷ 2 ∷ [])) (route 1 3 (1 ∷ 2 ∷ 3 ∷ []))

-- one carrier starts at the other's goal, leaves it and comes back to it
abbrev pub back_to_goal : Plan
back_to_goal = on_line (route 0 2 (0 ∷ 1 ∷ 2 ∷ [])) (route 2 4 (2 ∷ 3 ∷ 2 ∷ 4 ∷ []))

-- what may be shown of a plan
pub data Shown : Type 0 where
  legs_are : ℕ → Shown
  -- no path, a wrong end, no leg, equal starts, equal goals
  breaches_are : Option ℕ → Option (ℕ × ℕ) → Option (ℕ × ℕ) → Option (ℕ × ℕ) → Option (ℕ × ℕ) → Shown
  distance_is : ℕ → Shown
  replies_are : List Reply → Shown
  foreign_is : Option (ℕ × ℕ × ℕ) → Shown
  wait_is : Option (List Pair) → Shown
  turns_are : Option (List ℕ) → Shown

-- the turns into the lowest standstill, if there is one
abbrev pub stuck_turns : Plan → Option (List ℕ)
stuck_turns p = option_map (λ n. twice (way p n)) (lowest_standstill p)

abbrev pub breaches : Plan → Shown
breaches p = breaches_are (no_path p) (wrong_end p) (no_leg p) (equal_starts p) (equal_goals p)

abbrev pub shown : List Shown
shown =
    breaches aside ∷ breaches head_on ∷ breaches through_goal ∷ breaches back_to_goal
    ∷ legs_are (legs aside) ∷ foreign_is (foreign_goal aside) ∷ wait_is (named aside) ∷ turns_are (stuck_turns aside) ∷ distance_is (distance aside (opened aside 5))
    ∷ replies_are (replies_to aside 5 (turns_for (0 ∷ 0 ∷ 0 ∷ []))) ∷ distance_is (distance aside (reached aside 5 (turns_for (0 ∷ 0 ∷ 0 ∷ []))))
    ∷ wait_is (named head_on) ∷ turns_are (stuck_turns head_on)
    ∷ foreign_is (foreign_goal through_goal) ∷ turns_are (stuck_turns through_goal)
    ∷ foreign_is (foreign_goal back_to_goal)
    ∷ []

abbrev pub kept : Shown
kept = breaches_are None None None None None

abbrev pub expected : List Shown
expected =
    kept ∷ kept ∷ kept ∷ kept
    ∷ legs_are 4 ∷ foreign_is None ∷ wait_is None ∷ turns_are None ∷ distance_is 8
    ∷ replies_are (Turned (Ok Departed) ∷ Turned (Ok Arrived) ∷ Turned (Ok (Waits 2 1)) ∷ []) ∷ distance_is 6
    ∷ wait_is (Some (pair 0 0 ∷ pair 1 2 ∷ [])) ∷ turns_are (Some (0 ∷ 0 ∷ 0 ∷ 0 ∷ []))
    ∷ foreign_is (Some (1, 1, 0)) ∷ turns_are None
    ∷ foreign_is (Some (1, 2, 0))
    ∷ []

abbrev pub WorkedPlans : Type 0
WorkedPlans = shown ≡ expected
