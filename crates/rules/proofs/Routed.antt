-- What is read of a plan's carriers.
use Rattle.std.proofs.Common.{◌≡◌, ℕ, zero, suc, ◌<◌, ◌≤◌, List, [], ◌∷◌, length, get_or, Some, unwrap_or, sym, refl, arith, length-append}
use Rattle.std.specs.Option.{option_map}
use Rattle.std.specs.List.{slice_get}
use Rattle.plans.specs.declared.plans.ReadPlan.{ReadPlan}
use Rattle.plans.specs.Plan.{Plan, Route, nobody, entries_of, carrier}
use Rattle.plans.specs.Held.{plan_of}
use Rattle.laws.specs.Paths.{carriers, goal}
use Rattle.plans.proofs.Facts.{entries_few}

-- what is read of a list, or 0 beyond it
pub value_nth : (xs : List ℕ) (i : ℕ) → unwrap_or (slice_get xs i) 0 ≡ get_or xs i 0
value_nth [] i = refl
value_nth (x ∷ xs) zero = refl
value_nth (x ∷ xs) (suc i) = value_nth xs i

-- what is read of a list's element, or 0 beyond the list
pub value_mapped : {X : Type 0} (g : X → ℕ) (none : X) → g none ≡ 0 → (xs : List X) (i : ℕ) → unwrap_or (option_map g (slice_get xs i)) 0 ≡ g (get_or xs i none)
value_mapped g none e [] i = sym e
value_mapped g none e (x ∷ xs) zero = refl
value_mapped g none e (x ∷ xs) (suc i) = value_mapped g none e xs i

-- no path is longer than all paths together
path_few : (rs : List Route) (c : ℕ) → length (get_or rs c nobody).path ≤ length (entries_of rs)
unfolding entries_of
path_few [] c = omega arith
path_few (r ∷ rs) zero = omega (arith, length-append r.path (entries_of rs))
path_few (r ∷ rs) (suc c) = omega (arith, length-append r.path (entries_of rs), path_few rs c)

-- no path of a plan that was read has more than 2,048 entries
pub path_short : (p : ReadPlan) (c : ℕ) → length (carrier (plan_of p) c).path ≤ 2048
path_short p c = omega (arith, path_few (plan_of p).carriers c, entries_few p)

-- the goal of a carrier that there is
pub goal_at : (p : Plan) (c : ℕ) → c < carriers p → option_map (λ (r : Route). r.goal) (slice_get p.carriers c) ≡ Some (goal p c)
goal_at p c l = go p.carriers c l
  where
    go : (rs : List Route) (c : ℕ) → c < length rs → option_map (λ (r : Route). r.goal) (slice_get rs c) ≡ Some (get_or rs c nobody).goal
    go [] c l = absurd (omega arith)
    go (r ∷ rs) zero l = refl
    go (r ∷ rs) (suc c) l = go rs c (omega arith)
