-- What holds of every order of turns. Each law says which rules it needs.
use Rattle.std.specs.Prelude.{◌≡◌, ℕ, suc, ◌+◌, ◌*◌, ◌<◌, ◌≤◌, true, ◌≢◌, ◌⊎◌, ◌↔◌, List, ◌++◌, Some, None, Err}
use Rattle.boards.specs.declared.faults.BoardFault.{BoardFault}
use Rattle.boards.specs.Holders.{holder_of}
use Rattle.store_floor.specs.Layout.{places}
use Rattle.plans.specs.Plan.{Plan, fits}
use Rattle.laws.specs.declared.calls.Call.{Call}
use Rattle.laws.specs.declared.faults.RunFault.TheVariants.{BoardRefuses}
use Rattle.laws.specs.declared.motions.Motion.{Motion}
use Rattle.laws.specs.declared.motions.Motion.TheVariants.{Standing, Travelling}
use Rattle.laws.specs.Paths.{Carrier, start, goal, entry, HavePaths, last, HasLeg, Leads, legs}
use Rattle.laws.specs.Rules.{no_path, wrong_end, no_leg, equal_starts, foreign_goal}
use Rattle.laws.specs.Chains.{NoCircularWait}
use Rattle.laws.specs.Naming.{named}
use Rattle.laws.specs.Pictures.{Picture, LeadTo, Reachable, Standstill, NoStandstill}
use Rattle.laws.specs.Judging.{twice, way, lowest_standstill}
use Rattle.laws.specs.Runs.{motion_of, turned, distance}
use Rattle.laws.specs.Strings.{reached, replies_to, turns_for, departures, arrivals, departures_of, arrivals_of, by_counts, HasTurn}

-- What runs need of a plan: it keeps to its bounds, each path begins at its carrier's start (12), each leg of a path is a leg of the
-- floor (13), and no two carriers start at one place (14).
pub record Runnable (p : Plan) : Type 0 where
  pub fit : fits p ≡ true
  pub begins : (c : ℕ) → Carrier p c → entry p c 0 ≡ start p c
  pub leads : (c t : ℕ) → HasLeg p c t → Leads p (entry p c t) (entry p c (suc t))
  pub apart : (c d : ℕ) → Carrier p c → Carrier p d → start p c ≡ start p d → c ≡ d

-- The path of each carrier ends at its goal (12).
abbrev pub Ends : Plan → Type 0
Ends p = (c : ℕ) → Carrier p c → entry p c (last p c) ≡ goal p c

-- No path leads, after its first entry, through the goal of another carrier (16).
abbrev pub NoForeignGoal : Plan → Type 0
NoForeignGoal p = (c d t : ℕ) → Carrier p c → Carrier p d → c ≢ d → HasLeg p c t → entry p c (suc t) ≢ goal p d

-- a run of the plan on an empty board no smaller than the floor
abbrev pub Opens : Plan → ℕ → Type 0
Opens p size = Runnable p × (places p.floor ≤ size)

-- The sum: each leg takes a departure and an arrival, so what is left, and what was done, make up all legs twice.
abbrev pub DistancesAddUp : Type 0
DistancesAddUp =
    (p : Plan) (size : ℕ) → Opens p size → (calls : List Call) →
    distance p (reached p size calls) + departures (replies_to p size calls) + arrivals (replies_to p size calls) ≡ 2 * legs p

-- a carrier that does this stands at the place, or travels from it or to it
abbrev pub Occupies : Plan → ℕ → Motion → ℕ → Type 0
Occupies p c (Standing t) place = entry p c t ≡ place
Occupies p c (Travelling t) place = (entry p c t ≡ place) ⊎ (entry p c (suc t) ≡ place)

-- what a carrier does, by its departures and arrivals in the string
abbrev pub does : Plan → ℕ → List Call → ℕ → Motion
does p size calls c = by_counts (departures_of c calls (replies_to p size calls)) (arrivals_of c calls (replies_to p size calls))

-- what is known of run and board after a string of calls
pub record HeldAsCounted (p : Plan) (size : ℕ) (calls : List Call) : Type 0 where
  -- a carrier holds a place exactly when it stands there or travels from it or to it
  pub holders : (c place : ℕ) → (holder_of (reached p size calls).holders place ≡ Some c) ↔ (Carrier p c × Occupies p c (does p size calls c) place)
  -- no two are at one place
  pub alone : (c d place : ℕ) → Carrier p c → Carrier p d → Occupies p c (does p size calls c) place → Occupies p d (does p size calls d) place → c ≡ d
  -- the run records what the counts say
  pub recorded : (c : ℕ) → motion_of (reached p size calls) c ≡ does p size calls c
  -- the board refuses nothing in a turn but a held place
  pub granted : (c : ℕ) (fault : BoardFault) → (turned p size (reached p size calls) c).answer ≢ Err (BoardRefuses c fault)

abbrev pub HoldersAreCounted : Type 0
HoldersAreCounted = (p : Plan) (size : ℕ) → Opens p size → (calls : List Call) → HeldAsCounted p size calls

-- a travelling carrier counts as being at the end of its leg
abbrev pub seen : Motion → ℕ
seen (Standing t) = t
seen (Travelling t) = suc t

-- Every string's state is a reachable picture.
abbrev pub RunsArePictured : Type 0
RunsArePictured =
    (p : Plan) (size : ℕ) → Opens p size → (calls : List Call) → Reachable p (λ c. seen (motion_of (reached p size calls) c))

-- And moves that lead to a picture, each as two turns, bring it about, with every carrier standing.
abbrev pub MovesAreTurns : Type 0
MovesAreTurns =
    (p : Plan) (size : ℕ) → Opens p size → (cs : List ℕ) (x : Picture) → LeadTo p cs x →
    (c : ℕ) → Carrier p c → motion_of (reached p size (turns_for (twice cs))) c ≡ Standing (x c)

-- Every stretch of a string that begins with the distance above nought and has a turn for every carrier ends with less.
abbrev pub Advances : Plan → ℕ → Type 0
Advances p size =
    (before stretch : List Call) → 0 < distance p (reached p size before) → ((c : ℕ) → Carrier p c → HasTurn c stretch) →
    distance p (reached p size (before ++ stretch)) < distance p (reached p size before)

-- At nought each carrier stands at its last entry.
abbrev pub Arrives : Plan → ℕ → Type 0
Arrives p size =
    (calls : List Call) → distance p (reached p size calls) ≡ 0 → (c : ℕ) → Carrier p c → motion_of (reached p size calls) c ≡ Standing (last p c)

-- every order of turns brings everybody home
pub record ComesHome (p : Plan) (size : ℕ) : Type 0 where
  pub advances : Advances p size
  pub arrives : Arrives p size
  -- and where paths end at goals, each carrier then holds its own goal
  pub goals : Ends p → (calls : List Call) → distance p (reached p size calls) ≡ 0 → (c : ℕ) → Carrier p c → holder_of (reached p size calls).holders (goal p c) ≡ Some c

-- Progress: where no standstill is reachable, every order of turns brings everybody home.
abbrev pub NoStandstillNoEndOfProgress : Type 0
NoStandstillNoEndOfProgress = (p : Plan) (size : ℕ) → Opens p size → NoStandstill p → ComesHome p size

-- The check suffices: without foreign goals and circular waits no standstill is reachable.
abbrev pub CheckSuffices : Type 0
CheckSuffices = (p : Plan) → Ends p → NoForeignGoal p → NoCircularWait p → NoStandstill p

-- Hence a plan in which the check finds nothing is one in which the judge finds no standstill.
abbrev pub JudgeAgreesWithCheck : Type 0
JudgeAgreesWithCheck =
    (p : Plan) → no_path p ≡ None → wrong_end p ≡ None → foreign_goal p ≡ None → named p ≡ None → lowest_standstill p ≡ None

-- What "released" means: every order of turns brings everybody home to its goal, where nothing breaks the rules 11 to 14 and the judge
-- finds no standstill; so it does too where the check finds nothing.
abbrev pub ReleasedPlansComeHome : Type 0
ReleasedPlansComeHome =
    (p : Plan) (size : ℕ) → fits p ≡ true → places p.floor ≤ size → no_path p ≡ None → wrong_end p ≡ None → no_leg p ≡ None → equal_starts p ≡ None →
    lowest_standstill p ≡ None → ComesHome p size × Ends p

-- a string that leaves the distance above nought whatever is called afterwards
abbrev pub Sticks : Plan → ℕ → List Call → Type 0
Sticks p size calls = (more : List Call) → 0 < distance p (reached p size (calls ++ more))

-- Stuck: a standstill is reachable exactly when some string sticks, and the turns of the way to it are such a string.
pub record StuckStrings (p : Plan) (size : ℕ) : Type 0 where
  pub exactly : ((calls : List Call) × Sticks p size calls) ↔ ((x : Picture) × Standstill p x)
  pub turns : (n : ℕ) → lowest_standstill p ≡ Some n → Sticks p size (turns_for (twice (way p n)))

abbrev pub StandstillsAreStuckStrings : Type 0
StandstillsAreStuckStrings = (p : Plan) (size : ℕ) → Opens p size → HavePaths p → StuckStrings p size
