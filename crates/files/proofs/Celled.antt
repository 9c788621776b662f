-- The cells of a hall in a file: what is read is what was written, and back.
use Rattle.std.proofs.Common.{◌≡◌, ℕ, ◌+◌, ◌-◌, ◌%◌, ◌^◌, ◌≤◌, true, ltb, leb, List, ◌++◌, length, get_or, take, drop, Ok, sym, refl, ap, ◌∙◌, subst, arith}
use Rattle.std.proofs.lemmas.List.{length-drop, length-take-le, take-append-drop, get_or-take, drop-drop, take_at, drop_at, length-append, get_or_append_left}
use Rattle.std.proofs.lemmas.Bool.{leb-true, le-leb}
use Rattle.hall_floor.specs.Halls.{bytes_for, spare_free}
use Rattle.files.specs.declared.faults.FileFault.TheVariants.{Ends, OutOfRange}
use Rattle.files.specs.Parse.{guard, cells_at}
use Rattle.files.proofs.Numbered.{both_ok, guard_ok}

-- whether the spare bits are free is seen on the last byte
pub spare_same : (n : ℕ) (xs ys : List ℕ) → get_or xs (bytes_for n - 1) 0 ≡ get_or ys (bytes_for n - 1) 0 → spare_free n xs ≡ spare_free n ys
spare_same n xs ys e = ap (λ b. ltb b (2 ^ ((n - 1) % 8 + 1))) e

pub cells_of : (bytes : List ℕ) (at n : ℕ) (blocked rest : List ℕ) → drop at bytes ≡ blocked ++ rest → 1 ≤ n → length blocked ≡ bytes_for n → spare_free n blocked ≡ true → (cells_at bytes at n ≡ Ok blocked) × (drop (at + length blocked) bytes ≡ rest)
unfolding cells_at
cells_of bytes at n blocked rest e p k s =
    let q : 1 ≤ bytes_for n = omega arith in
    let m : length bytes - at ≡ length blocked + length rest = sym (length-drop at bytes) ∙ (ap length e ∙ length-append blocked rest) in
    let l : leb (at + bytes_for n) (length bytes) ≡ true = le-leb _ _ (omega arith) in
    let g : get_or (drop at bytes) (bytes_for n - 1) 0 ≡ get_or blocked (bytes_for n - 1) 0 =
    ap (λ (w : List ℕ). get_or w (bytes_for n - 1) 0) e ∙ get_or_append_left blocked rest 0 (bytes_for n - 1) (omega arith) in
    let c : spare_free n (drop at bytes) ≡ true = spare_same n (drop at bytes) blocked g ∙ s in
    let t : take (bytes_for n) (drop at bytes) ≡ blocked = ap (take (bytes_for n)) e ∙ take_at blocked rest (bytes_for n) k in
    (rw (l, c, t) refl, sym (drop-drop (length blocked) at bytes) ∙ (ap (drop (length blocked)) e ∙ drop_at blocked rest (length blocked) refl))

pub record Cells (bytes : List ℕ) (at n : ℕ) (blocked : List ℕ) : Type 0 where
  pub bytes_are : drop at bytes ≡ blocked ++ drop (at + length blocked) bytes
  pub long : length blocked ≡ bytes_for n
  pub spare : spare_free n blocked ≡ true

pub cells_ok : (bytes : List ℕ) (at n : ℕ) (blocked : List ℕ) → 1 ≤ n → cells_at bytes at n ≡ Ok blocked → Cells bytes at n blocked
unfolding cells_at
cells_ok bytes at n blocked p h =
    both_ok (guard (leb (at + bytes_for n) (length bytes)) (Ends 0)) _ blocked h (λ u x h.
    both_ok (guard (spare_free n (drop at bytes)) (OutOfRange (at + bytes_for n - 1))) _ blocked h (λ v y h.
    let e : take (bytes_for n) (drop at bytes) ≡ blocked = cc in
    let q : 1 ≤ bytes_for n = omega arith in
    let l = leb-true _ _ (guard_ok _ (Ends 0) u x) in
    let s = guard_ok _ (OutOfRange (at + bytes_for n - 1)) v y in
    let k : bytes_for n ≤ length (drop at bytes) = omega (arith, length-drop at bytes) in
    let m = length-take-le (bytes_for n) (drop at bytes) k in
    let g = get_or-take (bytes_for n) (drop at bytes) (bytes_for n - 1) 0 (omega arith) in
    subst (λ (w : List ℕ). Cells bytes at n w) e
    (record {
      bytes_are = sym (take-append-drop (bytes_for n) (drop at bytes)) ∙ ap (λ (w : List ℕ). take (bytes_for n) (drop at bytes) ++ w) (drop-drop (bytes_for n) at bytes ∙ ap (λ k. drop (at + k) bytes) (sym m));
      long = m;
      spare = spare_same n (take (bytes_for n) (drop at bytes)) (drop at bytes) g ∙ s;
    })))
