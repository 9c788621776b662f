-- The front of a file decides what it means.
use Rattle.std.proofs.Common.{◌≡◌, ℕ, zero, suc, ◌+◌, ◌-◌, ◌*◌, ◌≤◌, true, false, cond, leb, List, ◌∷◌, length, get_or, take, drop, Some, None, Ok, Err, Option, Result, sym, refl, ap, ◌∙◌, inl, inr, mul-pos, arith}
use Rattle.std.proofs.lemmas.List.{length-take-le, get_or-take, take_all, take-take, drop-take}
use Rattle.std.proofs.lemmas.Bool.{cases_lt, le-leb, lt-leb, leb-true}
use Rattle.rail_floor.specs.declared.legs.Leg.{Leg}
use Rattle.rail_floor.specs.Ordered.{rail_fit}
use Rattle.hall_floor.specs.Halls.{bytes_for, spare_free}
use Rattle.store_floor.specs.Layout.{Layout, rails, cellular, places, fits_layout}
use Rattle.plans.specs.Plan.{Route}
use Rattle.files.specs.declared.faults.FileFault.{FileFault}
use Rattle.files.specs.declared.faults.FileFault.TheVariants.{OutOfRange}
use Rattle.files.specs.Parse.{◌>>=◌, guard, number_at, ranged_at, leg_at, legs_at, rail_at, cells_at, hall_at, floor_at, record_size, entries_at, carrier_at, follows_at, end_at, carriers_at, parse}
use Rattle.files.specs.Laws.{FrontDecides}
use Rattle.files.proofs.Numbered.{guard_ok, ranged_ok}
use Rattle.files.proofs.Celled.{spare_same}
use Rattle.files.proofs.Carried.{carrier_ok}
use Rattle.files.proofs.Whole.{floor_ok, hall_parts}

-- reading on is the same where it is the same for all that may have been read
same_on : {X Y : Type 0} (r : Result X FileFault) (f g : X → Result Y FileFault) → ((x : X) → r ≡ Ok x → f x ≡ g x) → (r >>= f) ≡ (r >>= g)
same_on (Ok x) f g h = h x refl
same_on (Err e) f g h = refl

-- a file of more than n bytes, and its first n
module _ (bytes : List ℕ) (n : ℕ) (h : n ≤ length bytes) where
  number_front : (mark at : ℕ) → at + 2 ≤ n → number_at (take n bytes) mark at ≡ number_at bytes mark at
  unfolding number_at
  number_front mark at k =
      let a : leb (at + 2) (length (take n bytes)) ≡ true = le-leb _ _ (omega (arith, length-take-le n bytes h)) in
      let b : leb (at + 2) (length bytes) ≡ true = le-leb _ _ (omega arith) in
      let x = get_or-take n bytes at 0 (omega arith) in
      let y = get_or-take n bytes (at + 1) 0 (omega arith) in
      rw (a, b, x, y) refl

  ranged_front : (mark at least most : ℕ) → at + 2 ≤ n → ranged_at (take n bytes) mark at least most ≡ ranged_at bytes mark at least most
  unfolding ranged_at
  ranged_front mark at least most k = rw (number_front mark at k) refl

  leg_front : (mark at size : ℕ) (before : Option Leg) → at + 6 ≤ n → leg_at (take n bytes) mark at size before ≡ leg_at bytes mark at size before
  unfolding leg_at
  leg_front mark at size before k =
      let a = ranged_front mark at 0 (size - 1) (omega arith) in
      let b = ranged_front mark (at + 2) 0 (size - 1) (omega arith) in
      let c = ranged_front mark (at + 4) 1 65535 (omega arith) in
      rw (a, b, c) refl

  legs_front : (mark at size : ℕ) (before : Option Leg) (m : ℕ) → at + 6 * m ≤ n → legs_at (take n bytes) mark at size before m ≡ legs_at bytes mark at size before m
  unfolding legs_at
  legs_front mark at size before zero k = refl
  legs_front mark at size before (suc m) k =
      ap (λ (r : Result Leg FileFault). r >>= λ leg. legs_at (take n bytes) mark (at + 6) size (Some leg) m >>= λ more. Ok (leg ∷ more)) (leg_front mark at size before (omega arith))
      ∙ same_on (leg_at bytes mark at size before) _ _ (λ leg e. ap (λ (r : Result (List Leg) FileFault). r >>= λ more. Ok (leg ∷ more)) (legs_front mark (at + 6) size (Some leg) m (omega arith)))

  rail_front : 24582 ≤ n → rail_at (take n bytes) ≡ rail_at bytes
  unfolding rail_at
  rail_front k =
      rw (ranged_front 0 2 1 1024 (omega arith), ranged_front 0 4 0 4096 (omega arith))
      (same_on (ranged_at bytes 0 2 1 1024) _ _ (λ size e. same_on (ranged_at bytes 0 4 0 4096) _ _ (λ count f.
      ap (λ (r : Result (List Leg) FileFault). r >>= λ legs. Ok (rails size legs)) (legs_front 0 6 size None count (omega (arith, (ranged_ok bytes 0 4 0 4096 count f).high))))))

  cells_front : (at m : ℕ) → 1 ≤ m → at + bytes_for m ≤ n → cells_at (take n bytes) at m ≡ cells_at bytes at m
  unfolding cells_at
  cells_front at m p k =
      let a : leb (at + bytes_for m) (length (take n bytes)) ≡ true = le-leb _ _ (omega (arith, length-take-le n bytes h)) in
      let b : leb (at + bytes_for m) (length bytes) ≡ true = le-leb _ _ (omega arith) in
      let w : at + (n - at) ≡ n = omega arith in
      let d : drop at (take n bytes) ≡ take (n - at) (drop at bytes) = ap (λ i. drop at (take i bytes)) (sym w) ∙ drop-take at (n - at) bytes in
      let s : spare_free m (drop at (take n bytes)) ≡ spare_free m (drop at bytes) =
      spare_same m (drop at (take n bytes)) (drop at bytes) (ap (λ xs. get_or xs (bytes_for m - 1) 0) d ∙ get_or-take (n - at) (drop at bytes) (bytes_for m - 1) 0 (omega arith)) in
      let t : take (bytes_for m) (drop at (take n bytes)) ≡ take (bytes_for m) (drop at bytes) = ap (take (bytes_for m)) d ∙ take-take (bytes_for m) (n - at) (drop at bytes) (omega arith) in
      rw (a, b, s, t) refl

  hall_front : 138 ≤ n → hall_at (take n bytes) ≡ hall_at bytes
  unfolding hall_at
  hall_front k =
      rw (ranged_front 0 2 1 1024 (omega arith), ranged_front 0 4 1 1024 (omega arith), ranged_front 0 6 1 65535 (omega arith), ranged_front 0 8 1 65535 (omega arith))
      (same_on (ranged_at bytes 0 2 1 1024) _ _ (λ width a. same_on (ranged_at bytes 0 4 1 1024) _ _ (λ height b.
      same_on (guard (leb (width * height) 1024) (OutOfRange 4)) _ _ (λ u c. same_on (ranged_at bytes 0 6 1 65535) _ _ (λ across d. same_on (ranged_at bytes 0 8 1 65535) _ _ (λ down e.
      ap (λ (r : Result (List ℕ) FileFault). r >>= λ blocked. Ok (cellular (record { width = width; height = height; across = across; down = down; blocked = blocked })))
      (cells_front 10 (width * height) (mul-pos (ranged_ok bytes 0 2 1 1024 width a).low (ranged_ok bytes 0 4 1 1024 height b).low) (omega (arith, leb-true _ _ (guard_ok _ (OutOfRange 4) u c))))))))))

  floor_front : 24582 ≤ n → floor_at (take n bytes) ≡ floor_at bytes
  unfolding floor_at
  floor_front k = rw (number_front 0 0 (omega arith), rail_front k, hall_front (omega arith)) refl

  entries_front : (mark at last m : ℕ) → at + 2 * m ≤ n → entries_at (take n bytes) mark at last m ≡ entries_at bytes mark at last m
  unfolding entries_at
  entries_front mark at last zero k = refl
  entries_front mark at last (suc m) k =
      rw (ranged_front mark at 0 last (omega arith), entries_front mark (at + 2) last m (omega arith)) refl

  carrier_front : (mark size room : ℕ) → mark + 8 + 2 * room ≤ n → carrier_at (take n bytes) mark size room ≡ carrier_at bytes mark size room
  unfolding carrier_at
  carrier_front mark size room k =
      rw (ranged_front mark (mark + 2) 0 (size - 1) (omega arith), ranged_front mark (mark + 4) 0 (size - 1) (omega arith), ranged_front mark (mark + 6) 0 room (omega arith))
      (same_on (ranged_at bytes mark (mark + 2) 0 (size - 1)) _ _ (λ start a. same_on (ranged_at bytes mark (mark + 4) 0 (size - 1)) _ _ (λ goal b. same_on (ranged_at bytes mark (mark + 6) 0 room) _ _ (λ count c.
      ap (λ (r : Result (List ℕ) FileFault). r >>= λ path. Ok (record { start = start; goal = goal; path = path }))
      (entries_front mark (mark + 8) (size - 1) count (omega (arith, (ranged_ok bytes mark (mark + 6) 0 room count c).high)))))))

  follows_front : (at : ℕ) → at + 2 ≤ n → follows_at (take n bytes) at ≡ follows_at bytes at
  unfolding follows_at
  follows_front at k = rw (number_front at at k) refl

  end_front : (at : ℕ) → at + 3 ≤ n → end_at (take n bytes) at ≡ end_at bytes at
  end_front at k =
      let a : leb (length (take n bytes)) (at + 2) ≡ false = lt-leb _ _ (omega (arith, length-take-le n bytes h)) in
      let b : leb (length bytes) (at + 2) ≡ false = lt-leb _ _ (omega arith) in
      rw (a, b) refl

  carriers_front : (at size room left : ℕ) → 1 ≤ size → at + (8 * left + 2 * room) + 3 ≤ n → carriers_at (take n bytes) at size room left ≡ carriers_at bytes at size room left
  unfolding carriers_at
  carriers_front at size room zero p k = rw (follows_front at (omega arith), end_front at (omega arith)) refl
  carriers_front at size room (suc left) p k =
      rw (follows_front at (omega arith), end_front at (omega arith), carrier_front at size room (omega arith))
      (ap (λ (r : Result (List Route) FileFault). follows_at bytes at >>= λ follows. cond follows r (end_at bytes at))
      (same_on (carrier_at bytes at size room) _ _ (λ r e.
      let s = (carrier_ok bytes at size room r p e).short in
      ap (λ (q : Result (List Route) FileFault). q >>= λ more. Ok (r ∷ more)) (carriers_front (at + (8 + 2 * length r.path)) size (room - length r.path) left p (omega arith)))))

-- a floor's record has at most 24,582 bytes
record_short : (f : Layout) → fits_layout f ≡ true → record_size f ≤ 24582
record_short (rails size legs) f = omega (arith, (rail_fit size legs f).few)
record_short (cellular h) f = let p = hall_parts h f in omega (arith, p.long, leb-true _ _ p.few)

longer : (bytes : List ℕ) (n : ℕ) → 28937 ≤ n → n ≤ length bytes → parse (take n bytes) ≡ parse bytes
unfolding parse
longer bytes n k h =
    rw (floor_front bytes n h (omega arith))
    (same_on (floor_at bytes) _ _ (λ f e.
    let i = floor_ok bytes f e in
    let s = record_short f i.fit in
    ap (λ (r : Result (List Route) FileFault). r >>= λ carriers. Ok (record { floor = f; carriers = carriers })) (carriers_front bytes n h (record_size f) (places f) 2048 32 i.some (omega arith))))

pub front_decides : FrontDecides
front_decides bytes n k =
    elim (cases_lt (length bytes) n) as (λ _. parse (take n bytes) ≡ parse bytes)
    [ inl l ↦ ap parse (take_all n bytes (omega arith)) | inr l ↦ longer bytes n k l ]
