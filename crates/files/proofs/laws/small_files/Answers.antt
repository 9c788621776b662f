use Rattle.std.proofs.Common.{refl}
use Rattle.files.specs.Parse.{number_at, ranged_at, leg_at, legs_at, rail_at, floor_at, follows_at, carriers_at, parse}
use Rattle.files.proofs.laws.small_files.Goals as goal

pub returns : goal.returns
unfolding number_at ranged_at leg_at legs_at rail_at floor_at follows_at carriers_at parse
returns c = refl
