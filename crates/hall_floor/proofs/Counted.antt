-- How many exits a cell has: as many as there are sides over which a leg leads.
use Rattle.std.proofs.Common.{◌≡◌, ℕ, ◌≤◌, ◌+◌, cond, List, [], ◌∷◌, length, is_some, Some, None, Option, refl, ap, ◌∙◌, arith}
use Rattle.std.specs.List.{count_by, filter_map, cons_option}
use Rattle.std.proofs.lemmas.List.Sums.{sum_by-cons, count_by-le-length}
use Rattle.hall_floor.specs.declared.sides.Side.{Side}
use Rattle.hall_floor.specs.Halls.{Hall, over, sides, hall_exits}

option_length : (o : Option ℕ) (xs : List ℕ) → cond (is_some o) 1 0 + length xs ≡ length (cons_option o xs)
option_length None xs = omega arith
option_length (Some x) xs = omega arith

exits_counted : (f : Side → Option ℕ) (ss : List Side) → count_by (λ side. is_some (f side)) ss ≡ length (filter_map f ss)
exits_counted f [] = refl
exits_counted f (side ∷ ss) =
    sum_by-cons (λ side. cond (is_some (f side)) 1 0) side ss ∙ ap (λ n. cond (is_some (f side)) 1 0 + n) (exits_counted f ss)
    ∙ option_length (f side) (filter_map f ss)

pub hall_counted : (h : Hall) (c : ℕ) → count_by (λ side. is_some (over h c side)) sides ≡ length (hall_exits h c)
unfolding hall_exits
hall_counted h c = exits_counted (over h c) sides

pub exits_few : (h : Hall) (c : ℕ) → count_by (λ side. is_some (over h c side)) sides ≤ 4
exits_few h c = omega (arith, count_by-le-length (λ side. is_some (over h c side)) sides)
