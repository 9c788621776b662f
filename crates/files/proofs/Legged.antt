-- Legs of a file: what is read is what was written, and back.
use Rattle.std.proofs.Common.{◌≡◌, ℕ, zero, suc, ◌+◌, ◌-◌, ◌*◌, ◌<◌, ◌≤◌, true, ltb, leb, List, [], ◌∷◌, ◌++◌, length, drop, Some, Ok, Option, refl, ap, ◌∙◌, subst, arith}
use Rattle.std.proofs.lemmas.Bool.{and_parts, and_from, leb-true, le-leb, ltb-true, lt-ltb}
use Rattle.rail_floor.specs.declared.legs.Leg.{Leg}
use Rattle.rail_floor.specs.Rails.{in_order, fits_leg, fits_legs}
use Rattle.files.specs.declared.faults.FileFault.TheVariants.{OutOfOrder}
use Rattle.files.specs.Parse.{guard, ranged_at, leg_at, legs_at}
use Rattle.files.specs.Written.{two, leg_bytes, legs_bytes}
use Rattle.files.specs.Laws.{Bytes}
use Rattle.files.proofs.Numbered.{both_ok, guard_ok, Ranged, ranged_ok, ranged_of, number_bytes, number_of_lem}

-- the parts of the test of a leg
record Fits (size : ℕ) (before : Option Leg) (leg : Leg) : Type 0 where
  from : leg.from < size
  to : leg.to < size
  order : in_order before leg.from leg.to ≡ true
  least : 1 ≤ leg.length
  most : leg.length ≤ 65535

leg_parts : (size : ℕ) (before : Option Leg) (leg : Leg) → fits_leg size before leg ≡ true → Fits size before leg
leg_parts size before leg h =
    let a = and_parts (ltb leg.from size) _ h in
    let b = and_parts (ltb leg.to size) _ a.1 in
    let c = and_parts (in_order before leg.from leg.to) _ b.1 in
    let d = and_parts (leb 1 leg.length) _ c.1 in
    record { from = ltb-true _ _ a.0; to = ltb-true _ _ b.0; order = c.0; least = leb-true _ _ d.0; most = leb-true _ _ d.1 }

leg_whole : (size : ℕ) (before : Option Leg) (leg : Leg) → Fits size before leg → fits_leg size before leg ≡ true
leg_whole size before leg f =
    and_from _ _ (lt-ltb _ _ f.from) (and_from _ _ (lt-ltb _ _ f.to) (and_from _ _ f.order (and_from _ _ (le-leb _ _ f.least) (le-leb _ _ f.most))))

leg_of : (bytes : List ℕ) (mark at size : ℕ) (before : Option Leg) (leg : Leg) (rest : List ℕ) → drop at bytes ≡ leg_bytes leg ++ rest → Fits size before leg → (leg_at bytes mark at size before ≡ Ok leg) × (drop (at + 6) bytes ≡ rest)
unfolding leg_at
leg_of bytes mark at size before leg rest e f =
    let a = number_of_lem bytes mark at leg.from (two leg.to ++ (two leg.length ++ rest)) e in
    let b = number_of_lem bytes mark (at + 2) leg.to (two leg.length ++ rest) a.after in
    let s : at + 2 + 2 ≡ at + 4 = omega arith in
    let c = number_of_lem bytes mark (at + 4) leg.length rest (rw s at b.after) in
    let t : at + 4 + 2 ≡ at + 6 = omega arith in
    let x = ranged_of bytes mark at 0 (size - 1) leg.from a.value (omega arith) (omega (arith, f.from)) in
    let y = ranged_of bytes mark (at + 2) 0 (size - 1) leg.to b.value (omega arith) (omega (arith, f.to)) in
    let z = ranged_of bytes mark (at + 4) 1 65535 leg.length c.value f.least f.most in
    (rw (x, y, f.order, z) refl, rw t at c.after)

pub legs_of_lem : (bytes : List ℕ) (mark at size : ℕ) (before : Option Leg) (ls : List Leg) (rest : List ℕ) → drop at bytes ≡ legs_bytes ls ++ rest → fits_legs size before ls ≡ true → (legs_at bytes mark at size before (length ls) ≡ Ok ls) × (drop (at + 6 * length ls) bytes ≡ rest)
unfolding legs_at legs_bytes fits_legs
legs_of_lem bytes mark at size before [] rest e f = let z : at + 6 * 0 ≡ at = omega arith in (refl, rw z e)
legs_of_lem bytes mark at size before (l ∷ ls) rest e f =
    let g = and_parts (fits_leg size before l) (fits_legs size (Some l) ls) f in
    let a = leg_of bytes mark at size before l (legs_bytes ls ++ rest) e (leg_parts size before l g.0) in
    let b = legs_of_lem bytes mark (at + 6) size (Some l) ls rest a.1 g.1 in
    let z : at + 6 * suc (length ls) ≡ at + 6 + 6 * length ls = omega arith in
    (rw (a.0, b.0) refl, rw z b.1)

-- and back
record LegRead (bytes : List ℕ) (mark at size : ℕ) (before : Option Leg) (leg : Leg) : Type 0 where
  from : Ranged bytes mark at 0 (size - 1) leg.from
  to : Ranged bytes mark (at + 2) 0 (size - 1) leg.to
  order : in_order before leg.from leg.to ≡ true
  long : Ranged bytes mark (at + 4) 1 65535 leg.length

leg_ok : (bytes : List ℕ) (mark at size : ℕ) (before : Option Leg) (leg : Leg) → leg_at bytes mark at size before ≡ Ok leg → LegRead bytes mark at size before leg
unfolding leg_at
leg_ok bytes mark at size before leg h =
    both_ok (ranged_at bytes mark at 0 (size - 1)) _ leg h (λ from a h.
    both_ok (ranged_at bytes mark (at + 2) 0 (size - 1)) _ leg h (λ to b h.
    both_ok (guard (in_order before from to) (OutOfOrder at)) _ leg h (λ u g h.
    both_ok (ranged_at bytes mark (at + 4) 1 65535) _ leg h (λ long d h.
    let l : Leg = record { from = from; to = to; length = long } in
    let e : l ≡ leg = cc in
    subst (λ (l : Leg). LegRead bytes mark at size before l) e
    (record { from = ranged_ok _ _ _ _ _ _ a; to = ranged_ok _ _ _ _ _ _ b; order = guard_ok _ (OutOfOrder at) u g; long = ranged_ok _ _ _ _ _ _ d })))))

read_fits : (bytes : List ℕ) (mark at size : ℕ) (before : Option Leg) (leg : Leg) → 1 ≤ size → LegRead bytes mark at size before leg → fits_leg size before leg ≡ true
read_fits bytes mark at size before leg p r =
    leg_whole size before leg (record { from = omega (arith, r.from.high); to = omega (arith, r.to.high); order = r.order; least = r.long.low; most = r.long.high })

leg_bytes_lem : (bytes : List ℕ) (mark at size : ℕ) (before : Option Leg) (leg : Leg) → Bytes bytes → LegRead bytes mark at size before leg → drop at bytes ≡ leg_bytes leg ++ drop (at + 6) bytes
leg_bytes_lem bytes mark at size before leg b r =
    let x = number_bytes bytes mark at leg.from b r.from.number in
    let y = number_bytes bytes mark (at + 2) leg.to b r.to.number in
    let z = number_bytes bytes mark (at + 4) leg.length b r.long.number in
    let s : at + 2 + 2 ≡ at + 4 = omega arith in
    let t : at + 4 + 2 ≡ at + 6 = omega arith in
    let y' : drop (at + 2) bytes ≡ two leg.to ++ drop (at + 4) bytes = rw s at y in
    let z' : drop (at + 4) bytes ≡ two leg.length ++ drop (at + 6) bytes = rw t at z in
    x ∙ (ap (λ (w : List ℕ). two leg.from ++ w) y' ∙ ap (λ (w : List ℕ). two leg.from ++ (two leg.to ++ w)) z')

-- legs that were read: they fit, there are so many, and their bytes stand there if these are bytes
pub record Legs (bytes : List ℕ) (at size : ℕ) (before : Option Leg) (n : ℕ) (ls : List Leg) : Type 0 where
  pub fit : fits_legs size before ls ≡ true
  pub many : length ls ≡ n
  pub bytes_are : Bytes bytes → drop at bytes ≡ legs_bytes ls ++ drop (at + 6 * length ls) bytes

pub legs_ok : (bytes : List ℕ) (mark at size : ℕ) (before : Option Leg) (n : ℕ) (ls : List Leg) → 1 ≤ size → legs_at bytes mark at size before n ≡ Ok ls → Legs bytes at size before n ls
unfolding legs_at legs_bytes fits_legs
legs_ok bytes mark at size before zero ls p h =
    let e : [] ≡ ls = cc in
    let z : at + 6 * 0 ≡ at = omega arith in
    subst (λ (l : List Leg). Legs bytes at size before 0 l) e (record { fit = refl; many = refl; bytes_are = λ b. rw z refl })
legs_ok bytes mark at size before (suc n) ls p h =
    both_ok (leg_at bytes mark at size before) _ ls h (λ l a h.
    both_ok (legs_at bytes mark (at + 6) size (Some l) n) _ ls h (λ more d h.
    let e : l ∷ more ≡ ls = cc in
    let r = leg_ok bytes mark at size before l a in
    let i = legs_ok bytes mark (at + 6) size (Some l) n more p d in
    let z : at + 6 + 6 * length more ≡ at + 6 * suc (length more) = omega arith in
    subst (λ (ls : List Leg). Legs bytes at size before (suc n) ls) e
    (record {
      fit = and_from _ _ (read_fits bytes mark at size before l p r) i.fit;
      many = ap (λ k. suc k) i.many;
      bytes_are = λ b. leg_bytes_lem bytes mark at size before l b r ∙ ap (λ (w : List ℕ). leg_bytes l ++ w) (rw z at (i.bytes_are b));
    })))
