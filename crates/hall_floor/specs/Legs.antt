-- Where the legs over the sides of a cell lead.
use Rattle.std.specs.Prelude.{◌≡◌, ℕ, zero, suc, ◌-◌, ◌%◌, ◌<◌, ◌≤◌, Bool, true, false, cond, ◌⊎◌, List, [], ◌∷◌, length, is_some, Some, None, Option, nat_eq, nat_lt, slice_index, refl}
use Rattle.std.proofs.Common.{sym, ap, inl, inr, arith}
use Rattle.std.proofs.lemmas.Bool.Decides.{nat_tests}
use Rattle.std.proofs.lemmas.Option.{none-some, same_Some, cond_some}
use Rattle.std.proofs.lemmas.Bool.{false≢true, cases_Bool, cases_eq, eq-eqb, ne_eqb, le-ltb, and_parts, ltb-true, eqb-true}
use Rattle.std.specs.List.{cons_option, find}
use Rattle.std.specs.Option.{option_map}
use Rattle.floors.specs.Exits.{has, Rises}
use Rattle.hall_floor.specs.declared.sides.Side.{Side}
use Rattle.hall_floor.specs.declared.sides.Side.TheVariants.{North, West, East, South}
use Rattle.hall_floor.specs.Halls.{Hall, cells, is_open, beyond, if_open, over, sides, exits_over, hall_exits, pitch, is_cell, length_over, hall_length, fits_hall}
use Rattle.hall_floor.specs.Fitting.{pitch_some, pitch_most}
use Rattle.hall_floor.specs.Grid.{RightOf, Below, right_before}

-- d is the cell beyond a side of c
abbrev pub Lies : Hall → ℕ → ℕ → Side → Type 0
Lies h c d North = Below h.width c d
Lies h c d West = RightOf h.width c d
Lies h c d East = RightOf h.width d c
Lies h c d South = Below h.width d c

-- what a test and then a choice gave, if it gave something
picked : {X : Type 0} (b : Bool) (o : Option X) (x : X) → cond b o None ≡ Some x → (b ≡ true) × (o ≡ Some x)
picked true o x e = (refl, e)
picked false o x e = absurd (none-some x e)

open_some : (h : Hall) (o : Option ℕ) (d : ℕ) → if_open h o ≡ Some d → (o ≡ Some d) × (is_open h d ≡ true)
open_some h None d e = absurd (none-some d e)
open_some h (Some x) d e =
    let p = cond_some (is_open h x) x d e in
    (ap (λ (y : ℕ). Some y) p.1, rw p.1 at p.0)

-- where a leg over a side leads: to the cell beyond it, and both cells are open
pub over_open : (h : Hall) (c d : ℕ) (side : Side) → over h c side ≡ Some d → (is_open h c ≡ true) × (beyond h c side ≡ Some d) × (is_open h d ≡ true)
unfolding over
over_open h c d side e =
    let p = picked (is_open h c) (if_open h (beyond h c side)) d e in
    let q = open_some h (beyond h c side) d p.1 in
    (p.0, q.0, q.1)

-- each leg leads to the cell beyond its side
abbrev pub AllLie : Hall → Type 0
AllLie h = (c d : ℕ) (side : Side) → over h c side ≡ Some d → Lies h c d side

pub over_lies : (h : Hall) → 1 ≤ h.width → AllLie h
over_lies h some c d side e = beyond_lies side (over_open h c d side e).1
  where
    beyond_lies : (s : Side) → beyond h c s ≡ Some d → Lies h c d s
    beyond_lies North k = grind (arith, nat_tests)
    beyond_lies West k =
        elim (cases_eq (c % h.width) 0) as (λ _. RightOf h.width c d) [
          | inl first ↦ let none : nat_eq (c % h.width) 0 ≡ true = eq-eqb _ _ first in absurd (none-some d (rw none at k))
          | inr inner ↦
              let one : nat_eq (c % h.width) 0 ≡ false = ne_eqb _ _ inner in
              let same : Some (c - 1) ≡ Some d = rw one at k in
              let before = same_Some (c - 1) d same in
              rw before at (right_before h.width c some inner)
        ]
    beyond_lies East k = (grind (arith, nat_tests), grind (arith, nat_tests))
    beyond_lies South k = grind (arith, nat_tests)

has_listed : (d : ℕ) (o : Option ℕ) (xs : List ℕ) → has d (cons_option o xs) ≡ true → (o ≡ Some d) ⊎ (has d xs ≡ true)
unfolding has
has_listed d None xs e = inr e
has_listed d (Some x) xs e =
    elim (cases_eq d x) as (λ _. (Some x ≡ Some d) ⊎ (has d xs ≡ true)) [
      | inl same ↦ inl (ap (λ (y : ℕ). Some y) (sym same))
      | inr apart ↦ let n : nat_eq d x ≡ false = ne_eqb _ _ apart in inr (rw n at e)
    ]

pub has_over : (h : Hall) (c d : ℕ) (ss : List Side) → has d (exits_over h c ss) ≡ true → (side : Side) × (over h c side ≡ Some d)
unfolding has
has_over h c d [] e = absurd (false≢true e)
has_over h c d (side ∷ ss) e =
    elim (has_listed d (over h c side) (exits_over h c ss) e) [ inl here ↦ (side, here) | inr more ↦ has_over h c d ss more ]

-- a place beyond the hall has no exits
pub exits_beyond : (h : Hall) (c : ℕ) → cells h ≤ c → hall_exits h c ≡ []
unfolding hall_exits over is_open
exits_beyond h c outside = let no : nat_lt c (cells h) ≡ false = le-ltb _ _ outside in simp no

-- each number of a list is above x
abbrev Above : ℕ → List ℕ → Type 0
Above x ys = (i : ℕ) → i < length ys → x < slice_index ys i

above_none : (x : ℕ) → Above x []
above_none x i k = absurd (omega arith)

above_listed : (x : ℕ) (o : Option ℕ) (ys : List ℕ) → ((y : ℕ) → o ≡ Some y → x < y) → Above x ys → Above x (cons_option o ys)
above_listed x None ys head tail i k = tail i k
above_listed x (Some y) ys head tail zero k = head y refl
above_listed x (Some y) ys head tail (suc i) k = tail i (omega arith)

rises_none : Rises []
rises_none i j l k = absurd (omega arith)

rises_listed : (o : Option ℕ) (ys : List ℕ) → ((x : ℕ) → o ≡ Some x → Above x ys) → Rises ys → Rises (cons_option o ys)
rises_listed None ys head tail i j l k = tail i j l k
rises_listed (Some x) ys head tail i zero l k = absurd (omega arith)
rises_listed (Some x) ys head tail zero (suc j) l k = head x refl j (omega arith)
rises_listed (Some x) ys head tail (suc i) (suc j) l k = tail i j (omega arith) (omega arith)

pub exits_rise : (h : Hall) → 1 ≤ h.width → AllLie h → (c : ℕ) → Rises (hall_exits h c)
unfolding hall_exits
exits_rise h some lie c =
    rises_listed (over h c North) (exits_over h c (West ∷ East ∷ South ∷ []))
    (λ n en. above_listed n (over h c West) (exits_over h c (East ∷ South ∷ [])) (λ w ew. omega (arith, north n en, west w ew))
    (above_listed n (over h c East) (exits_over h c (South ∷ [])) (λ e ee. omega (arith, north n en, east e ee))
    (above_listed n (over h c South) [] (λ s es. omega (arith, north n en, south s es)) (above_none n))))
    (rises_listed (over h c West) (exits_over h c (East ∷ South ∷ []))
    (λ w ew. above_listed w (over h c East) (exits_over h c (South ∷ [])) (λ e ee. omega (arith, west w ew, east e ee))
    (above_listed w (over h c South) [] (λ s es. omega (arith, west w ew, south s es)) (above_none w)))
    (rises_listed (over h c East) (exits_over h c (South ∷ []))
    (λ e ee. above_listed e (over h c South) [] (λ s es. omega (arith, east e ee, south s es)) (above_none e))
    (rises_listed (over h c South) [] (λ s es. above_none s) rises_none)))
  where
    north : (d : ℕ) → over h c North ≡ Some d → Below h.width c d
    north d e = lie c d North e

    west : (d : ℕ) → over h c West ≡ Some d → RightOf h.width c d
    west d e = lie c d West e

    east : (d : ℕ) → over h c East ≡ Some d → RightOf h.width d c
    east d e = lie c d East e

    south : (d : ℕ) → over h c South ≡ Some d → Below h.width d c
    south d e = lie c d South e

pub open_inside : (h : Hall) (c : ℕ) → is_open h c ≡ true → c < cells h
unfolding is_open
open_inside h c e = ltb-true c (cells h) (and_parts _ _ e).0

-- the exits of a place are places of the hall
pub exits_inside : (h : Hall) (c d : ℕ) → has d (hall_exits h c) ≡ true → d < cells h
unfolding hall_exits
exits_inside h c d e = let p = has_over h c d sides e in open_inside h d (over_open h c d p.0 p.1).2

lies_away : (h : Hall) → 1 ≤ h.width → (c : ℕ) (side : Side) → Lies h c c side → ⊥
lies_away h some c North l = omega arith
lies_away h some c West l = omega arith
lies_away h some c East l = omega arith
lies_away h some c South l = omega arith

pub exits_away : (h : Hall) → 1 ≤ h.width → AllLie h → (c : ℕ) → has c (hall_exits h c) ≡ false
unfolding hall_exits
exits_away h some lie c =
    elim (cases_Bool (has c (exits_over h c sides))) [
      | inl e ↦ let p = has_over h c c sides e in absurd (lies_away h some c p.0 (lie c c p.0 p.1))
      | inr e ↦ e
    ]

-- there is a length over these sides exactly where a leg over one of them leads
length-led : (h : Hall) (c d : ℕ) (ss : List Side) → is_some (length_over h c d ss) ≡ has d (exits_over h c ss)
unfolding has
length-led h c d [] = refl
length-led h c d (side ∷ ss) = step (over h c side) (length-led h c d ss)
  where
    step : (o : Option ℕ) → is_some (length_over h c d ss) ≡ has d (exits_over h c ss)
        → is_some (option_map (pitch h) (cond (is_cell o d) (Some side) (find (λ s. is_cell (over h c s) d) ss))) ≡ has d (cons_option o (exits_over h c ss))
    step None more = more
    step (Some x) more = grind (arith, nat_tests)

pub lengths_led : (h : Hall) (c d : ℕ) → is_some (hall_length h c d) ≡ has d (hall_exits h c)
unfolding hall_exits hall_length
lengths_led h c d = length-led h c d sides

cell_some : (o : Option ℕ) (d : ℕ) → is_cell o d ≡ true → o ≡ Some d
cell_some None d e = absurd (false≢true e)
cell_some (Some x) d e = ap (λ (y : ℕ). Some y) (eqb-true x d e)

-- a length is the pitch of a side over which a leg leads
length_pitch : (h : Hall) (c d n : ℕ) (ss : List Side) → length_over h c d ss ≡ Some n → (side : Side) × (over h c side ≡ Some d) × (pitch h side ≡ n)
length_pitch h c d n [] e = absurd (none-some n e)
length_pitch h c d n (side ∷ ss) e =
    elim (cases_Bool (is_cell (over h c side) d)) [
      | inl here ↦
          let same : Some (pitch h side) ≡ Some n = rw here at e in
          let k : pitch h side ≡ n = cc in
          (side, cell_some (over h c side) d here, k)
      | inr more ↦ length_pitch h c d n ss (rw more at e)
    ]

pub lengths_pitch : (h : Hall) (c d n : ℕ) → hall_length h c d ≡ Some n → (side : Side) × (over h c side ≡ Some d) × (pitch h side ≡ n)
unfolding hall_length
lengths_pitch h c d n e = length_pitch h c d n sides e

-- a length is 1 to 65,535
pub lengths_some : (h : Hall) → fits_hall h ≡ true → (c d n : ℕ) → hall_length h c d ≡ Some n → 1 ≤ n
lengths_some h fit c d n e = let s = lengths_pitch h c d n e in omega (arith, s.2, pitch_some h fit s.0)

pub lengths_most : (h : Hall) → fits_hall h ≡ true → (c d n : ℕ) → hall_length h c d ≡ Some n → n ≤ 65535
lengths_most h fit c d n e = let s = lengths_pitch h c d n e in omega (arith, s.2, pitch_most h fit s.0)
