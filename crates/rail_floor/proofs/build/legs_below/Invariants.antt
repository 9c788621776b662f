use Rattle.std.proofs.Common.{◌-◌, ◌≤◌, length}
use Rattle.rail_floor.specs.Rails.{below}
use Rattle.rail_floor.proofs.build.legs_below.Given as goal

abbrev pub invariant-loop-next : goal.invariant-loop-next
invariant-loop-next l = l.next ≤ below l.legs l.place

abbrev pub decreases-loop-next : goal.decreases-loop-next
decreases-loop-next l = length l.legs - l.next
