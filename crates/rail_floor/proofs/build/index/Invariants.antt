use Rattle.std.proofs.Common.{◌≡◌, ℕ, ◌<◌, ◌≤◌, get_or, vec_items, vec_len}
use Rattle.rail_floor.specs.Rails.{below}
use Rattle.rail_floor.proofs.build.index.Given as goal

abbrev pub invariant-loop-place : goal.invariant-loop-place
invariant-loop-place l =
    (vec_len l.first ≡ l.place)
    × (l.next ≤ below l.legs l.place)
    × ((p : ℕ) → p < l.place → get_or (vec_items l.first) p 0 ≡ below l.legs p)
