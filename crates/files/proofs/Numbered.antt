-- Numbers of a file: what is read is what was written, and back.
use Rattle.std.proofs.Common.{◌≡◌, ℕ, suc, ◌+◌, ◌-◌, ◌*◌, ◌/◌, ◌%◌, ◌≤◌, Bool, true, false, ◌&&◌, leb, List, ◌∷◌, ◌++◌, length, get_or, drop, Ok, Err, Result, sym, refl, ap, ◌∙◌, arith}
use Rattle.std.proofs.lemmas.List.{length-drop, get_or-drop, drop-drop, drop_more}
use Rattle.std.proofs.lemmas.Bool.{and_parts, leb-true, le-leb}
use Rattle.std.proofs.lemmas.Bool.Decides.{nat_tests}
use Rattle.files.specs.declared.faults.FileFault.{FileFault}
use Rattle.files.specs.declared.faults.FileFault.TheVariants.{OutOfRange}
use Rattle.files.specs.Parse.{◌>>=◌, guard, number_at, ranged_at}
use Rattle.files.specs.Written.{two}
use Rattle.files.specs.Laws.{Bytes}

-- no test comes out both ways
pub true_false : {b : Bool} → b ≡ true → b ≡ false → ⊥
true_false p q = cc

-- what was read went well in both its parts
pub both_ok : {X Y G : Type 0} (r : Result X FileFault) (f : X → Result Y FileFault) (y : Y) → (r >>= f) ≡ Ok y → ((x : X) → r ≡ Ok x → f x ≡ Ok y → G) → G
both_ok (Ok x) f y h k = k x refl h
both_ok (Err e) f y h k = cc

-- a test was passed
pub guard_ok : (b : Bool) (e : FileFault) (u : Unit {0}) → guard b e ≡ Ok u → b ≡ true
guard_ok true e u h = refl
guard_ok false e u h = cc

-- a number was read, and is within its range
pub record Ranged (bytes : List ℕ) (mark at least most v : ℕ) : Type 0 where
  pub number : number_at bytes mark at ≡ Ok v
  pub low : least ≤ v
  pub high : v ≤ most

pub ranged_ok : (bytes : List ℕ) (mark at least most v : ℕ) → ranged_at bytes mark at least most ≡ Ok v → Ranged bytes mark at least most v
unfolding ranged_at
ranged_ok bytes mark at least most v h =
    both_ok (number_at bytes mark at) _ v h (λ w a h.
    both_ok (guard (leb least w && leb w most) (OutOfRange at)) _ v h (λ u g h.
    let b = and_parts (leb least w) (leb w most) (guard_ok _ (OutOfRange at) u g) in
    let e : w ≡ v = cc in
    record { number = a ∙ ap (λ w. Ok w) e; low = omega (arith, leb-true least w b.0); high = omega (arith, leb-true w most b.1) }))

pub ranged_of : (bytes : List ℕ) (mark at least most v : ℕ) → number_at bytes mark at ≡ Ok v → least ≤ v → v ≤ most → ranged_at bytes mark at least most ≡ Ok v
unfolding ranged_at
ranged_of bytes mark at least most v e l m = rw (e, le-leb least v l, le-leb v most m) refl

two_more : (bytes : List ℕ) (at : ℕ) → at + 2 ≤ length bytes → drop at bytes ≡ get_or bytes at 0 ∷ (get_or bytes (at + 1) 0 ∷ drop (at + 2) bytes)
two_more bytes at h =
    let e : at + 1 + 1 ≡ at + 2 = omega arith in
    drop_more bytes at 0 (omega arith) ∙ rw (drop_more bytes (at + 1) 0 (omega arith), e) refl

-- where a number was read, its bytes stand
pub number_bytes : (bytes : List ℕ) (mark at v : ℕ) → Bytes bytes → number_at bytes mark at ≡ Ok v → drop at bytes ≡ two v ++ drop (at + 2) bytes
unfolding number_at
number_bytes bytes mark at v b h =
    let l : at + 2 ≤ length bytes = grind (arith, nat_tests) in
    let e : get_or bytes at 0 + get_or bytes (at + 1) 0 * 256 ≡ v = grind (arith, nat_tests) in
    let x = b at in
    let y = b (at + 1) in
    let low : v % 256 ≡ get_or bytes at 0 = omega arith in
    let high : v / 256 ≡ get_or bytes (at + 1) 0 = omega arith in
    rw (low, high) (two_more bytes at l)

-- where the bytes of a number stand, it is read
pub record Number (bytes : List ℕ) (mark at v : ℕ) (rest : List ℕ) : Type 0 where
  pub value : number_at bytes mark at ≡ Ok v
  pub after : drop (at + 2) bytes ≡ rest

pub number_of_lem : (bytes : List ℕ) (mark at v : ℕ) (rest : List ℕ) → drop at bytes ≡ two v ++ rest → Number bytes mark at v rest
unfolding number_at
number_of_lem bytes mark at v rest e =
    let n : length bytes - at ≡ suc (suc (length rest)) = sym (length-drop at bytes) ∙ ap length e in
    let l : leb (at + 2) (length bytes) ≡ true = le-leb _ _ (omega arith) in
    let z : at + 0 ≡ at = omega arith in
    let a : get_or bytes at 0 ≡ v % 256 = ap (λ k. get_or bytes k 0) (sym z) ∙ (sym (get_or-drop at bytes 0 0) ∙ ap (λ (xs : List ℕ). get_or xs 0 0) e) in
    let b : get_or bytes (at + 1) 0 ≡ v / 256 = sym (get_or-drop at bytes 1 0) ∙ ap (λ (xs : List ℕ). get_or xs 1 0) e in
    let s : v % 256 + v / 256 * 256 ≡ v = omega arith in
    record { value = rw (l, a, b, s) refl; after = sym (drop-drop 2 at bytes) ∙ ap (λ (xs : List ℕ). drop 2 xs) e }
