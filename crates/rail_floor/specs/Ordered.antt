-- Legs in order: where they lead, and how long they are.
use Rattle.std.specs.Prelude.{◌≡◌, ℕ, zero, suc, ◌<◌, ◌≤◌, true, false, cond, ◌⊎◌, List, [], ◌∷◌, length, is_some, Some, None, Option, ◌≢◌, ◌==◌, nat_eq, slice_index, refl}
use Rattle.std.proofs.Common.{ap, inl, inr, arith}
use Rattle.std.proofs.lemmas.Bool.Decides.{nat_tests}
use Rattle.std.proofs.lemmas.Option.{none-some}
use Rattle.std.proofs.lemmas.Bool.{false≢true, and_parts, cases_eq, eq-eqb, ne_eqb}
use Rattle.std.specs.List.{slice_get}
use Rattle.floors.specs.Exits.{has, Rises}
use Rattle.rail_floor.specs.declared.legs.Leg.{Leg}
use Rattle.rail_floor.specs.Laws.{Listed}
use Rattle.rail_floor.specs.Rails.{fits_leg, fits_legs, fits_rail, exits_of, length_of}

-- the first of the legs fits, and those behind it fit behind it
pub head_fits : (n : ℕ) (b : Option Leg) (l : Leg) (ls : List Leg) → fits_legs n b (l ∷ ls) ≡ true → fits_leg n b l ≡ true
unfolding fits_legs
head_fits n b l ls h = (and_parts (fits_leg n b l) (fits_legs n (Some l) ls) h).0

pub tail_fits : (n : ℕ) (b : Option Leg) (l : Leg) (ls : List Leg) → fits_legs n b (l ∷ ls) ≡ true → fits_legs n (Some l) ls ≡ true
unfolding fits_legs
tail_fits n b l ls h = (and_parts (fits_leg n b l) (fits_legs n (Some l) ls) h).1

-- what places and legs are that fit
pub record RailFit (n : ℕ) (ls : List Leg) : Type 0 where
  pub some : 1 ≤ n
  pub most : n ≤ 1024
  pub few : length ls ≤ 4096
  pub order : fits_legs n None ls ≡ true

pub rail_fit : (n : ℕ) (ls : List Leg) → fits_rail n ls ≡ true → RailFit n ls
rail_fit n ls h = record { some = grind (arith, nat_tests); most = grind (arith, nat_tests); few = grind (arith, nat_tests); order = grind (arith, nat_tests) }

-- what a leg is that fits
pub record Fit (n : ℕ) (l : Leg) : Type 0 where
  pub from_inside : l.from < n
  pub to_inside : l.to < n
  pub away : l.from ≡ l.to → ⊥
  pub long : 1 ≤ l.length
  pub short : l.length ≤ 65535

pub leg_fit : (n : ℕ) (b : Option Leg) (l : Leg) → fits_leg n b l ≡ true → Fit n l
leg_fit n None l h = record { from_inside = grind (arith, nat_tests); to_inside = grind (arith, nat_tests); away = grind (arith, nat_tests); long = grind (arith, nat_tests); short = grind (arith, nat_tests) }
leg_fit n (Some b) l h = record { from_inside = grind (arith, nat_tests); to_inside = grind (arith, nat_tests); away = grind (arith, nat_tests); long = grind (arith, nat_tests); short = grind (arith, nat_tests) }

-- what a leg is to one behind it
pub record Before (b l : Leg) : Type 0 where
  pub from : b.from ≤ l.from
  pub to : b.from ≡ l.from → b.to < l.to

pub next_before : (n : ℕ) (b l : Leg) → fits_leg n (Some b) l ≡ true → Before b l
next_before n b l h = record { from = grind (arith, nat_tests); to = grind (arith, nat_tests) }

pub all_before : (n : ℕ) (b : Leg) (ls : List Leg) (k : ℕ) (x : Leg) → fits_legs n (Some b) ls ≡ true → slice_get ls k ≡ Some x → Before b x
all_before n b [] k x h e = absurd (none-some x e)
all_before n b (l ∷ ls) zero x h e = let q : l ≡ x = cc in rw (← q) (next_before n b l (head_fits n (Some b) l ls h))
all_before n b (l ∷ ls) (suc k) x h e =
    let o = next_before n b l (head_fits n (Some b) l ls h) in
    let r = all_before n l ls k x (tail_fits n (Some b) l ls h) e in
    record { from = omega (arith, o.from, r.from); to = λ q. let s : b.from ≡ l.from = omega (arith, o.from, r.from) in omega (arith, o.to s, r.to) }

-- the exits of a place lead elsewhere on the floor
pub exits_inside : (n : ℕ) (b : Option Leg) (ls : List Leg) (p q : ℕ) → fits_legs n b ls ≡ true → has q (exits_of ls p) ≡ true → q < n
unfolding exits_of has
exits_inside n b [] p q h k = absurd (false≢true k)
exits_inside n b (l ∷ ls) p q h k =
    let f = leg_fit n b l (head_fits n b l ls h) in
    let r : has q (exits_of ls p) ≡ true → q < n = exits_inside n (Some l) ls p q (tail_fits n b l ls h) in
    grind (arith, nat_tests)

pub exits_away : (n : ℕ) (b : Option Leg) (ls : List Leg) (p : ℕ) → fits_legs n b ls ≡ true → has p (exits_of ls p) ≡ false
unfolding exits_of has
exits_away n b [] p h = refl
exits_away n b (l ∷ ls) p h =
    let f = leg_fit n b l (head_fits n b l ls h) in
    let r = exits_away n (Some l) ls p (tail_fits n b l ls h) in
    grind (arith, nat_tests)

pub exits_beyond : (n : ℕ) (b : Option Leg) (ls : List Leg) (p : ℕ) → fits_legs n b ls ≡ true → n ≤ p → exits_of ls p ≡ []
unfolding exits_of
exits_beyond n b [] p h k = refl
exits_beyond n b (l ∷ ls) p h k =
    let f = leg_fit n b l (head_fits n b l ls h) in
    let r = exits_beyond n (Some l) ls p (tail_fits n b l ls h) k in
    grind (arith, nat_tests)

-- what the exits of the place p are, of legs that stand behind the leg b, if there is one
pub record Sorted (b : Option Leg) (p : ℕ) (xs : List ℕ) : Type 0 where
  pub rises : Rises xs
  pub none : (x : Leg) → b ≡ Some x → p < x.from → xs ≡ []
  pub above : (x : Leg) → b ≡ Some x → x.from ≡ p → (i : ℕ) → i < length xs → x.to < slice_index xs i

sorted_more : (n : ℕ) (b : Option Leg) (l : Leg) (p : ℕ) (xs : List ℕ) → fits_leg n b l ≡ true → Sorted (Some l) p xs → Sorted b p (cond (l.from == p) (l.to ∷ xs) xs)
sorted_more n b l p xs h s = go (cases_eq l.from p)
  where
    before : (x : Leg) → b ≡ Some x → Before x l
    before x e = next_before n x l (rw e at h)

    rising : l.from ≡ p → Rises (l.to ∷ xs)
    rising same i zero a k = absurd (omega arith)
    rising same zero (suc j) a k = s.above l refl same j (omega arith)
    rising same (suc i) (suc j) a k = s.rises i j (omega arith) (omega arith)

    over : l.from ≡ p → (x : Leg) → b ≡ Some x → x.from ≡ p → (i : ℕ) → i < suc (length xs) → x.to < slice_index (l.to ∷ xs) i
    over same x e q zero k = (before x e).to (omega arith)
    over same x e q (suc i) k = omega (arith, (before x e).to (omega arith), s.above l refl same i (omega arith))

    go : (l.from ≡ p) ⊎ (l.from ≢ p) → Sorted b p (cond (l.from == p) (l.to ∷ xs) xs)
    go (inl same) =
        let t : nat_eq l.from p ≡ true = eq-eqb _ _ same in
        rw t (record { rises = rising same; none = λ x e k. absurd (omega (arith, (before x e).from)); above = over same })
    go (inr apart) =
        let t : nat_eq l.from p ≡ false = ne_eqb _ _ apart in
        rw t (record {
          rises = s.rises;
          none = λ x e k. s.none l refl (omega (arith, (before x e).from));
          above = λ x e q i k. let z : xs ≡ [] = s.none l refl (omega (arith, (before x e).from)) in absurd (omega (arith, ap length z));
        })

-- the exits of a place rise
pub exits_sorted : (n : ℕ) (b : Option Leg) (ls : List Leg) (p : ℕ) → fits_legs n b ls ≡ true → Sorted b p (exits_of ls p)
unfolding exits_of
exits_sorted n b [] p h = record { rises = λ i j a k. omega arith; none = λ x e k. refl; above = λ x e q i k. absurd (omega arith) }
exits_sorted n b (l ∷ ls) p h = sorted_more n b l p (exits_of ls p) (head_fits n b l ls h) (exits_sorted n (Some l) ls p (tail_fits n b l ls h))

-- there is a length exactly where a leg leads, of 1 to 65,535
pub length-led : (ls : List Leg) (p q : ℕ) → is_some (length_of ls p q) ≡ has q (exits_of ls p)
unfolding exits_of length_of has
length-led [] p q = refl
length-led (l ∷ ls) p q = let r = length-led ls p q in grind (arith, nat_tests)

pub length_long : (n : ℕ) (b : Option Leg) (ls : List Leg) (p q d : ℕ) → fits_legs n b ls ≡ true → length_of ls p q ≡ Some d → 1 ≤ d
unfolding length_of
length_long n b [] p q d h e = absurd (none-some d e)
length_long n b (l ∷ ls) p q d h e =
    let f = leg_fit n b l (head_fits n b l ls h) in
    let r : length_of ls p q ≡ Some d → 1 ≤ d = length_long n (Some l) ls p q d (tail_fits n b l ls h) in
    grind (arith, nat_tests)

pub length_short : (n : ℕ) (b : Option Leg) (ls : List Leg) (p q d : ℕ) → fits_legs n b ls ≡ true → length_of ls p q ≡ Some d → d ≤ 65535
unfolding length_of
length_short n b [] p q d h e = absurd (none-some d e)
length_short n b (l ∷ ls) p q d h e =
    let f = leg_fit n b l (head_fits n b l ls h) in
    let r : length_of ls p q ≡ Some d → d ≤ 65535 = length_short n (Some l) ls p q d (tail_fits n b l ls h) in
    grind (arith, nat_tests)

-- a listed leg is as long as it says
pub length-listed : (n : ℕ) (b : Option Leg) (ls : List Leg) (k : ℕ) (x : Leg) → fits_legs n b ls ≡ true → slice_get ls k ≡ Some x → length_of ls x.from x.to ≡ Some x.length
unfolding length_of
length-listed n b [] k x h e = absurd (none-some x e)
length-listed n b (l ∷ ls) zero x h e = let q : l ≡ x = cc in rw q (grind (arith, nat_tests))
length-listed n b (l ∷ ls) (suc k) x h e =
    let t = tail_fits n b l ls h in
    let o = all_before n l ls k x t e in
    let r = length-listed n (Some l) ls k x t e in
    grind (arith, nat_tests)

-- and a length is that of a listed leg
pub listed-length : (ls : List Leg) (p q d : ℕ) → length_of ls p q ≡ Some d → Listed ls p q d
unfolding length_of
listed-length [] p q d e = absurd (none-some d e)
listed-length (l ∷ ls) p q d e = go (cases_eq l.from p) (cases_eq l.to q) (listed-length ls p q d)
  where
    more : (length_of ls p q ≡ Some d → Listed ls p q d) → length_of ls p q ≡ Some d → Listed (l ∷ ls) p q d
    more ih h = let r = ih h in (suc r.0, r.1)

    go : (l.from ≡ p) ⊎ (l.from ≢ p) → (l.to ≡ q) ⊎ (l.to ≢ q) → (length_of ls p q ≡ Some d → Listed ls p q d) → Listed (l ∷ ls) p q d
    go (inl a) (inl b) ih =
        let m : Some l.length ≡ Some d = rw (eq-eqb _ _ a, eq-eqb _ _ b) at e in
        let k : l.length ≡ d = cc in
        (0, rw (← a, ← b, ← k) refl)
    go (inl a) (inr b) ih = let s : nat_eq l.to q ≡ false = ne_eqb _ _ b in more ih (rw (eq-eqb _ _ a, s) at e)
    go (inr a) b ih = let s : nat_eq l.from p ≡ false = ne_eqb _ _ a in more ih (rw s at e)
