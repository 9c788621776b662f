-- What is known of a hall that fits.
use Rattle.std.specs.Prelude.{◌≡◌, ◌≤◌, true}
use Rattle.std.proofs.Common.{mul-pos, arith}
use Rattle.std.proofs.lemmas.Bool.Decides.{nat_tests}
use Rattle.hall_floor.specs.declared.sides.Side.{Side}
use Rattle.hall_floor.specs.declared.sides.Side.TheVariants.{North, West, East, South}
use Rattle.hall_floor.specs.Halls.{Hall, cells, fits_hall, pitch}

pub width_some : (h : Hall) → fits_hall h ≡ true → 1 ≤ h.width
width_some h fit = grind (arith, nat_tests)

pub height_some : (h : Hall) → fits_hall h ≡ true → 1 ≤ h.height
height_some h fit = grind (arith, nat_tests)

pub cells_some : (h : Hall) → fits_hall h ≡ true → 1 ≤ cells h
cells_some h fit = mul-pos (width_some h fit) (height_some h fit)

pub cells_most : (h : Hall) → fits_hall h ≡ true → cells h ≤ 1024
cells_most h fit = grind (arith, nat_tests)

pub pitch_some : (h : Hall) → fits_hall h ≡ true → (side : Side) → 1 ≤ pitch h side
pitch_some h fit North = grind (arith, nat_tests)
pitch_some h fit West = grind (arith, nat_tests)
pitch_some h fit East = grind (arith, nat_tests)
pitch_some h fit South = grind (arith, nat_tests)

pub pitch_most : (h : Hall) → fits_hall h ≡ true → (side : Side) → pitch h side ≤ 65535
pitch_most h fit North = grind (arith, nat_tests)
pitch_most h fit West = grind (arith, nat_tests)
pitch_most h fit East = grind (arith, nat_tests)
pitch_most h fit South = grind (arith, nat_tests)
