-- What a route that code reads means, and what is found in one.
use Rattle.std.specs.Prelude.{ℕ, suc, pred, Bool, not, ◌&&◌, length, Some, Option, nat_eq, ◌==◌, slice_index}
use Rattle.std.specs.Option.{option_eq}
use Rattle.floors.specs.Exits.{has}
use Rattle.store_floor.specs.Layout.{Layout, exits_from}
use Rattle.plans.specs.Plan.{Route}
use Rattle.laws.specs.Rules.{or_else, first, when}
use Rattle.rules.specs.declared.paths.Route.{Route as NumberedRoute}

abbrev pub route_of : NumberedRoute → Route
route_of r = record { start = r.start; goal = r.goal; path = r.path.now }

-- the number of the last entry, which is the number of legs
abbrev pub last_of : Route → ℕ
last_of r = pred (length r.path)

-- of carrier c: the first of the two ends of the path that is not where the route is to begin or to end
unfoldable pub wrong_end_of : ℕ → Route → Option (ℕ × ℕ)
wrong_end_of c r = or_else (when (not (slice_index r.path 0 == r.start)) (c, 0)) (when (not (slice_index r.path (last_of r) == r.goal)) (c, last_of r))

-- no leg of the floor leads from entry t to the next
abbrev pub lacks_leg : Layout → Route → ℕ → Bool
lacks_leg floor r t = not (has (slice_index r.path (suc t)) (exits_from floor (slice_index r.path t)))

-- of carrier c: the first entry to which no leg of the floor leads from the one before
unfoldable pub legless_of : Layout → ℕ → Route → Option (ℕ × ℕ)
legless_of floor c r = first (last_of r) (λ t. when (lacks_leg floor r t) (c, suc t))

-- the entry after entry t of carrier c is where carrier d, another, is to go; `goal` is that place, if there is such a carrier
abbrev pub is_foreign : ℕ → Route → ℕ → ℕ → Option ℕ → Bool
is_foreign c r t d goal = not (c == d) && option_eq nat_eq (Some (slice_index r.path (suc t))) goal
