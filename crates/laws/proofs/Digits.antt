-- Numbers of pictures: the entries are the digits of the number, each in the base of its path's entry count.
use Rattle.std.proofs.Common.{◌≡◌, ℕ, zero, suc, ◌+◌, ◌-◌, ◌*◌, ◌/◌, ◌%◌, ◌<◌, ◌≤◌, ◌≢◌, List, [], ◌∷◌, length, get_or, sym, refl, ap, ◌∙◌, mod-lt, mod-eq_of_lt, mul_comm, div-lt_iff_lt-mul, mul-pos, mul-zero, zero-add, mul-add, arith}
use native.Mathlib.Nat.{mod-add-div, add-mul-mod_self_left, add-mul-div_left, div-eq_of_lt, zero-mod, zero-div}
use lib.Arith.{digits_lt}
use Rattle.plans.specs.Plan.{Route, Plan, nobody}
use Rattle.laws.specs.Pictures.{Picture, Moved}
use Rattle.laws.specs.Judging.{pictures_of, number_of, picture_of, weight_of, NumbersArePictures}

-- what is left of a number behind its first digit
rest_small : (n l k : ℕ) → n < l * k → n / l < k
rest_small n zero k h = absurd (omega arith)
rest_small n (suc l) k h = (div-lt_iff_lt-mul {k = suc l} {x = n} {y = k} (omega arith)).1 (rw (mul_comm (suc l) k) at h)

-- a base is above 0 if there is any number
base_some : (l k n : ℕ) → n < l * k → 0 < l
base_some zero k n h = absurd (omega arith)
base_some (suc l) k n h = omega arith

div_of : (q m r : ℕ) → r < m → (r + m * q) / m ≡ q
div_of q m r h = add-mul-div_left r q {y = m} (omega arith) ∙ ap (λ z. z + q) (div-eq_of_lt h) ∙ zero-add q

mod_of : (q m r : ℕ) → r < m → (r + m * q) % m ≡ r
mod_of q m r h = add-mul-mod_self_left r m q ∙ mod-eq_of_lt h

-- one less than a number whose first digit is above 0
module _ (n m : ℕ) (h : 0 < n % m) (f : 0 < m) where
  less : n - 1 ≡ (n % m - 1) + m * (n / m)
  less = omega (arith, mod-add-div n m)

  less_mod : n % m ≡ suc ((n - 1) % m)
  less_mod = let a : (n - 1) % m ≡ n % m - 1 = rw less (mod_of (n / m) m (n % m - 1) (omega (arith, mod-lt n f))) in omega (arith, a)

  less_div : (n - 1) / m ≡ n / m
  less_div = rw less (div_of (n / m) m (n % m - 1) (omega (arith, mod-lt n f)))

-- m * w less than a number
module _ (n m w : ℕ) (h : w ≤ n / m) (f : 0 < m) where
  split : n ≡ n % m + m * (n / m - w) + m * w
  split =
      let e : n / m ≡ (n / m - w) + w = omega arith in
      let a : m * (n / m) ≡ m * (n / m - w) + m * w = ap (λ z. m * z) e ∙ mul-add m (n / m - w) w in
      omega (arith, mod-add-div n m, a)

  down_fits : m * w ≤ n
  down_fits = omega (arith, split)

  down_is : n - m * w ≡ n % m + m * (n / m - w)
  down_is = omega (arith, split)

  down_mod : (n - m * w) % m ≡ n % m
  down_mod = rw down_is (mod_of (n / m - w) m (n % m) (mod-lt n f))

  down_div : (n - m * w) / m ≡ n / m - w
  down_div = rw down_is (div_of (n / m - w) m (n % m) (mod-lt n f))

-- the picture before c's last move has the number that is less by c's weight
pub record Down (rs : List Route) (n c : ℕ) : Type 0 where
  pub some : 0 < weight_of rs c
  pub fits : weight_of rs c ≤ n
  pub moved : Moved c (picture_of rs (n - weight_of rs c)) (picture_of rs n)

pub down : (rs : List Route) (n c : ℕ) → n < pictures_of rs → c < length rs → 0 < picture_of rs n c → Down rs n c
down [] n c h cp u = absurd (omega arith)
down (r ∷ rs) n zero h cp u =
    let f = base_some (length r.path) (pictures_of rs) n h in
    record {
      some = omega arith;
      fits = let a = mod-add-div n (length r.path) in omega arith;
      moved = record { one = less_mod n (length r.path) u f; others = others };
    }
  where
    others : (d : ℕ) → 0 ≢ d → picture_of (r ∷ rs) n d ≡ picture_of (r ∷ rs) (n - 1) d
    others zero ne = absurd (ne refl)
    others (suc d) ne = ap (λ k. picture_of rs k d) (sym (less_div n (length r.path) u (base_some (length r.path) (pictures_of rs) n h)))
down (r ∷ rs) n (suc c) h cp u = go (down rs (n / length r.path) c (rest_small n (length r.path) (pictures_of rs) h) (omega arith) u)
  where
    go : Down rs (n / length r.path) c → Down (r ∷ rs) n (suc c)
    go k =
        let l = length r.path in
        let f = base_some l (pictures_of rs) n h in
        record {
          some = mul-pos f k.some;
          fits = down_fits n l (weight_of rs c) k.fits f;
          moved = record { one = rw (down_div n l (weight_of rs c) k.fits f) k.moved.one; others = others };
        }
      where
        others : (d : ℕ) → suc c ≢ d → picture_of (r ∷ rs) n d ≡ picture_of (r ∷ rs) (n - length r.path * weight_of rs c) d
        others zero ne = sym (down_mod n (length r.path) (weight_of rs c) k.fits (base_some (length r.path) (pictures_of rs) n h))
        others (suc d) ne =
            rw (down_div n (length r.path) (weight_of rs c) k.fits (base_some (length r.path) (pictures_of rs) n h)) (k.moved.others d (λ e. ne (ap suc e)))

-- each carrier is at an entry of its path
abbrev InsideOf : List Route → Picture → Type 0
InsideOf rs x = (c : ℕ) → c < length rs → x c < length (get_or rs c nobody).path

pub inside : (rs : List Route) (n : ℕ) → n < pictures_of rs → InsideOf rs (picture_of rs n)
inside [] n h c cp = absurd (omega arith)
inside (r ∷ rs) n h zero cp = mod-lt n (base_some (length r.path) (pictures_of rs) n h)
inside (r ∷ rs) n h (suc c) cp = inside rs (n / length r.path) (rest_small n (length r.path) (pictures_of rs) h) c (omega arith)

number_of_lem : (rs : List Route) (n : ℕ) → n < pictures_of rs → number_of rs (picture_of rs n) ≡ n
number_of_lem [] n h = omega arith
number_of_lem (r ∷ rs) n h = rw (number_of_lem rs (n / length r.path) (rest_small n (length r.path) (pictures_of rs) h)) (mod-add-div n (length r.path))

pub number_small : (rs : List Route) (x : Picture) → InsideOf rs x → number_of rs x < pictures_of rs
number_small [] x i = omega arith
number_small (r ∷ rs) x i =
    let l = length r.path in
    let m = number_of rs (λ c. x (suc c)) in
    let a = digits_lt {q = m} {m = pictures_of rs} {r = x 0} {c = l} (number_small rs (λ c. x (suc c)) (λ c cp. i (suc c) (omega arith))) (i 0 (omega arith)) in
    omega (arith, a, mul_comm l m, mul_comm l (pictures_of rs))

pub picture_of_lem : (rs : List Route) (x : Picture) → InsideOf rs x → (c : ℕ) → c < length rs → picture_of rs (number_of rs x) c ≡ x c
picture_of_lem [] x i c cp = absurd (omega arith)
picture_of_lem (r ∷ rs) x i zero cp = mod_of (number_of rs (λ c. x (suc c))) (length r.path) (x 0) (i 0 cp)
picture_of_lem (r ∷ rs) x i (suc c) cp =
    rw (div_of (number_of rs (λ c. x (suc c))) (length r.path) (x 0) (i 0 (omega arith)))
    (picture_of_lem rs (λ c. x (suc c)) (λ c cp. i (suc c) (omega arith)) c (omega arith))

pub numbers_are_pictures : (p : Plan) → NumbersArePictures p
numbers_are_pictures p =
    let rs = p.carriers in
    record { of_number = λ n h. (inside rs n h, number_of_lem rs n h); of_picture = λ x i. (number_small rs x i, picture_of_lem rs x i) }

-- beyond the carriers every entry is 0
pub beyond : (rs : List Route) (n c : ℕ) → length rs ≤ c → picture_of rs n c ≡ 0
beyond [] n c h = refl
beyond (r ∷ rs) n zero h = absurd (omega arith)
beyond (r ∷ rs) n (suc c) h = beyond rs (n / length r.path) c (omega arith)

-- only picture 0 has every entry 0
pub first_is : (rs : List Route) (n : ℕ) → n < pictures_of rs → ((c : ℕ) → picture_of rs n c ≡ 0) → n ≡ 0
first_is [] n h z = omega arith
first_is (r ∷ rs) n h z =
    let l = length r.path in
    let a = first_is rs (n / l) (rest_small n l (pictures_of rs) h) (λ c. z (suc c)) in
    let b : n % l ≡ 0 = z 0 in
    let d : l * (n / l) ≡ 0 = rw a (mul-zero l) in
    omega (arith, mod-add-div n l)

pub zero_picture : (rs : List Route) (c : ℕ) → picture_of rs 0 c ≡ 0
zero_picture [] c = refl
zero_picture (r ∷ rs) zero = zero-mod (length r.path)
zero_picture (r ∷ rs) (suc c) = rw (zero-div (length r.path)) (zero_picture rs c)
