-- Rows and columns: a cell m of a hall w cells wide is in row m / w and column m % w.
use Rattle.std.specs.Prelude.{◌≡◌, ℕ, ◌+◌, ◌-◌, ◌*◌, ◌/◌, ◌%◌, ◌<◌, ◌≤◌, ◌≢◌}
use Rattle.std.proofs.Common.{ap, add-mul, arith}
use Rattle.std.proofs.lemmas.Nat.{div-add-mod', div-mul-add, mod-mul-add, mod_below}

-- n is the cell to the right of m
abbrev pub RightOf : ℕ → ℕ → ℕ → Type 0
RightOf w n m = (n ≡ m + 1) × (m % w + 1 < w)

-- n is the cell below m
abbrev pub Below : ℕ → ℕ → ℕ → Type 0
Below w n m = n ≡ m + w

pub right_row : (w m n : ℕ) → RightOf w n m → m / w ≡ n / w
right_row w m n r =
    let s : n ≡ m / w * w + (m % w + 1) = omega (arith, div-add-mod' m w) in
    rw s (omega (arith, div-mul-add (m / w) w (m % w + 1) r.1))

pub right_column : (w m n : ℕ) → RightOf w n m → m % w + 1 ≡ n % w
right_column w m n r =
    let s : n ≡ m / w * w + (m % w + 1) = omega (arith, div-add-mod' m w) in
    rw s (omega (arith, mod-mul-add (m / w) w (m % w + 1) r.1))

below_split : (w m n : ℕ) → Below w n m → n ≡ (m / w + 1) * w + m % w
below_split w m n r = omega (arith, div-add-mod' m w, add-mul (m / w) 1 w)

pub below_row : (w m n : ℕ) → 1 ≤ w → Below w n m → m / w + 1 ≡ n / w
below_row w m n some r = rw (below_split w m n r) (omega (arith, div-mul-add (m / w + 1) w (m % w) (mod_below m w some)))

pub below_column : (w m n : ℕ) → 1 ≤ w → Below w n m → m % w ≡ n % w
below_column w m n some r = rw (below_split w m n r) (omega (arith, mod-mul-add (m / w + 1) w (m % w) (mod_below m w some)))

pub right_from : (w m n : ℕ) → 1 ≤ w → m / w ≡ n / w → m % w + 1 ≡ n % w → RightOf w n m
right_from w m n some row column = (
  omega (arith, div-add-mod' m w, div-add-mod' n w, ap (λ (q : ℕ). q * w) row),
  omega (arith, mod_below n w some),
)

pub below_from : (w m n : ℕ) → m % w ≡ n % w → m / w + 1 ≡ n / w → Below w n m
below_from w m n column row =
    omega (arith, div-add-mod' m w, div-add-mod' n w, add-mul (m / w) 1 w, ap (λ (q : ℕ). q * w) row)

-- a cell that is not the first of its row is to the right of the one before it
pub right_before : (w m : ℕ) → 1 ≤ w → (m % w ≢ 0) → RightOf w m (m - 1)
right_before w m some inner =
    let k : m % w - 1 < w = omega (arith, mod_below m w some) in
    let s : m - 1 ≡ m / w * w + (m % w - 1) = omega (arith, div-add-mod' m w) in
    let c : (m / w * w + (m % w - 1)) % w ≡ m % w - 1 = mod-mul-add (m / w) w (m % w - 1) k in
    (omega (arith, div-add-mod' m w), rw (s, c) (omega (arith, mod_below m w some)))
