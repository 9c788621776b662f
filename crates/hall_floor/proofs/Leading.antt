-- Which legs lead over the sides of a cell, and that these are its exits.
use Rattle.std.proofs.Common.{◌≡◌, ℕ, ◌<◌, ◌≤◌, true, List, [], ◌∷◌, Some, None, Option, refl, nat_eq, ◌==◌, arith}
use Rattle.std.proofs.lemmas.Bool.Decides.{nat_tests}
use Rattle.std.proofs.lemmas.Bool.{eq-eqb, or_right}
use Rattle.std.specs.List.{cons_option}
use Rattle.floors.specs.Exits.{has}
use Rattle.hall_floor.specs.declared.sides.Side.{Side}
use Rattle.hall_floor.specs.declared.sides.Side.TheVariants.{North, West, East, South}
use Rattle.hall_floor.specs.Halls.{Hall, cells, is_open, beyond, over, sides, exits_over, hall_exits}
use Rattle.hall_floor.specs.Grid.{right_column}
use Rattle.hall_floor.specs.Legs.{Lies, over_open, over_lies, has_over}

-- what a leg over a side tells
pub record Leads (h : Hall) (c d : ℕ) (side : Side) : Type 0 where
  pub from : is_open h c ≡ true
  pub to : is_open h d ≡ true
  pub lies : Lies h c d side

pub over_leads : (h : Hall) → 1 ≤ h.width → (c d : ℕ) (side : Side) → over h c side ≡ Some d → Leads h c d side
over_leads h some c d side e =
    let p = over_open h c d side e in record { from = p.0; to = p.2; lies = over_lies h some c d side e }

lies_beyond : (h : Hall) (c d : ℕ) (side : Side) → d < cells h → Lies h c d side → beyond h c side ≡ Some d
lies_beyond h c d North inside l = grind (arith, nat_tests)
lies_beyond h c d West inside l = let column = right_column h.width d c l in grind (arith, nat_tests)
lies_beyond h c d East inside l = grind (arith, nat_tests)
lies_beyond h c d South inside l = grind (arith, nat_tests)

pub leads_over : (h : Hall) (c d : ℕ) (side : Side) → d < cells h → Leads h c d side → over h c side ≡ Some d
unfolding over
leads_over h c d side inside l =
    let from = l.from in
    let to = l.to in
    let b = lies_beyond h c d side inside l.lies in
    rw (from, b, to)

has_here : (h : Hall) (c d : ℕ) (side : Side) (ss : List Side) → over h c side ≡ Some d → has d (exits_over h c (side ∷ ss)) ≡ true
unfolding has
has_here h c d side ss e = let same : nat_eq d d ≡ true = eq-eqb d d refl in rw (e, same)

has_more : (h : Hall) (c d : ℕ) (side : Side) (ss : List Side) → has d (exits_over h c ss) ≡ true → has d (exits_over h c (side ∷ ss)) ≡ true
unfolding has
has_more h c d side ss e = listed_more (over h c side)
  where
    listed_more : (o : Option ℕ) → has d (cons_option o (exits_over h c ss)) ≡ true
    listed_more None = e
    listed_more (Some x) = or_right (d == x) (has d (exits_over h c ss)) e

pub over_has : (h : Hall) (c d : ℕ) (side : Side) → over h c side ≡ Some d → has d (hall_exits h c) ≡ true
unfolding hall_exits
over_has h c d North e = has_here h c d North (West ∷ East ∷ South ∷ []) e
over_has h c d West e = has_more h c d North (West ∷ East ∷ South ∷ []) (has_here h c d West (East ∷ South ∷ []) e)
over_has h c d East e =
    has_more h c d North (West ∷ East ∷ South ∷ []) (has_more h c d West (East ∷ South ∷ []) (has_here h c d East (South ∷ []) e))
over_has h c d South e =
    has_more h c d North (West ∷ East ∷ South ∷ []) (has_more h c d West (East ∷ South ∷ []) (has_more h c d East (South ∷ [])
    (has_here h c d South [] e)))

pub has_leads : (h : Hall) → 1 ≤ h.width → (c d : ℕ) → has d (hall_exits h c) ≡ true → (side : Side) × Leads h c d side
unfolding hall_exits
has_leads h some c d e = let p = has_over h c d sides e in (p.0, over_leads h some c d p.0 p.1)
