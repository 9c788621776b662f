-- The tests of pictures, and what they say.
use Rattle.std.proofs.Common.{◌≡◌, ℕ, zero, suc, ◌<◌, Bool, true, false, not, ◌&&◌, ◌||◌, eqb, ◌≢◌, ◌⊎◌, Some, None, Option, refl, ap, ◌∙◌, inl, inr, arith}
use Rattle.std.proofs.lemmas.Bool.Decides.{nat_tests}
use Rattle.std.proofs.lemmas.Bool.{cases_eq, cases_Bool, both_ways}
use Rattle.plans.specs.Plan.{Plan}
use Rattle.laws.specs.Paths.{carriers, Carrier, entry}
use Rattle.laws.specs.Rules.{or_else, first, when}
use Rattle.laws.specs.Pictures.{Picture, CanMove}
use Rattle.laws.specs.Judging.{any, taken, unfinished, can_move}

pub any_some : (n : ℕ) (f : ℕ → Bool) → any n f ≡ true → (i : ℕ) × (i < n) × (f i ≡ true)
any_some zero f e = absurd (grind (arith, nat_tests))
any_some (suc n) f e = go (any n f) (any_some n f) e
  where
    go : (b : Bool) → (b ≡ true → (i : ℕ) × (i < n) × (f i ≡ true)) → (b || f n) ≡ true → (i : ℕ) × (i < suc n) × (f i ≡ true)
    go true ih e = let (i, h, t) = ih refl in (i, omega arith, t)
    go false ih e = (n, omega arith, e)

pub any_none : (n : ℕ) (f : ℕ → Bool) → any n f ≡ false → (i : ℕ) → i < n → f i ≡ false
any_none zero f e i h = absurd (omega arith)
any_none (suc n) f e i h = go (any n f) (any_none n f) e (cases_eq i n)
  where
    go : (b : Bool) → (b ≡ false → (i : ℕ) → i < n → f i ≡ false) → (b || f n) ≡ false → (i ≡ n) ⊎ (i ≡ n → ⊥) → f i ≡ false
    go true ih e w = absurd (grind (arith, nat_tests))
    go false ih e (inl q) = ap f q ∙ e
    go false ih e (inr ne) = ih refl i (omega arith)

pub any_has : (n : ℕ) (f : ℕ → Bool) (i : ℕ) → i < n → f i ≡ true → any n f ≡ true
any_has n f i h t = go (cases_Bool (any n f))
  where
    go : (any n f ≡ true) ⊎ (any n f ≡ false) → any n f ≡ true
    go (inl e) = e
    go (inr e) = absurd (both_ways (f i) (any_none n f e i h) t)

pub any_no : (n : ℕ) (f : ℕ → Bool) → ((i : ℕ) → i < n → f i ≡ false) → any n f ≡ false
any_no n f none = go (cases_Bool (any n f))
  where
    go : (any n f ≡ true) ⊎ (any n f ≡ false) → any n f ≡ false
    go (inl e) = let (i, h, t) = any_some n f e in absurd (both_ways (f i) (none i h) t)
    go (inr e) = e

pub any_same : (n : ℕ) (f g : ℕ → Bool) → ((i : ℕ) → i < n → f i ≡ g i) → any n f ≡ any n g
any_same zero f g e = refl
any_same (suc n) f g e = rw (any_same n f g (λ i h. e i (omega arith)), e n (omega arith))

-- the lowest number below n that passes a test, or none does
abbrev pub Lowest : ℕ → (ℕ → Bool) → Option ℕ → Type 0
Lowest n f (Some i) = (i < n) × (f i ≡ true) × ((j : ℕ) → j < i → f j ≡ false)
Lowest n f None = (j : ℕ) → j < n → f j ≡ false

pub lowest_is : (n : ℕ) (f : ℕ → Bool) → Lowest n f (first n (λ i. when (f i) i))
lowest_is zero f = λ j h. absurd (omega arith)
lowest_is (suc n) f = go (first n (λ i. when (f i) i)) (lowest_is n f) (f n) refl
  where
    go : (o : Option ℕ) → Lowest n f o → (b : Bool) → f n ≡ b → Lowest (suc n) f (or_else o (when b n))
    go (Some i) (h, t, none) b e = (omega arith, t, none)
    go None none true e = (omega arith, e, none)
    go None none false e = λ j h. more j h (cases_eq j n)
      where
        more : (j : ℕ) → j < suc n → (j ≡ n) ⊎ (j ≡ n → ⊥) → f j ≡ false
        more j h (inl q) = ap f q ∙ e
        more j h (inr ne) = none j (omega arith)

pub clear : (p : Plan) (x : Picture) (c place : ℕ) → taken p x c place ≡ false → (d : ℕ) → Carrier p d → c ≢ d → entry p d (x d) ≢ place
unfolding taken
clear p x c place e d dp ne same = let u = any_none (carriers p) (λ d. not (eqb d c) && eqb (entry p d (x d)) place) e d dp in grind (arith, nat_tests)

pub is_clear : (p : Plan) (x : Picture) (c place : ℕ) → ((d : ℕ) → Carrier p d → c ≢ d → entry p d (x d) ≢ place) → taken p x c place ≡ false
unfolding taken
is_clear p x c place none =
    any_no (carriers p) (λ d. not (eqb d c) && eqb (entry p d (x d)) place) (λ d dp. let u = none d dp in grind (arith, nat_tests))

pub can : (p : Plan) (x : Picture) (c : ℕ) → Carrier p c → can_move p x c ≡ true → CanMove p x c
unfolding can_move unfinished
can p x c cp e =
    let t : taken p x c (entry p c (suc (x c))) ≡ false = grind (arith, nat_tests) in
    record { carrier = cp; unfinished = grind (arith, nat_tests); free = clear p x c (entry p c (suc (x c))) t }

pub cannot : (p : Plan) (x : Picture) (c : ℕ) → can_move p x c ≡ false → CanMove p x c → ⊥
unfolding can_move unfinished
cannot p x c e k =
    let t = is_clear p x c (entry p c (suc (x c))) k.free in
    let u = k.unfinished in
    grind (arith, nat_tests)
