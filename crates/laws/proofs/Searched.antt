-- What a search finds: the first that there is, and nothing only where there is nothing.
use Rattle.std.proofs.Common.{◌≡◌, ℕ, zero, suc, ◌<◌, ◌⊎◌, Some, None, Option, refl, inl, inr, ⊎_elim, arith}
use Rattle.std.proofs.lemmas.Bool.{cases_order}
use Rattle.laws.specs.Rules.{or_else, first}

pub or_none : {A : Type 0} (a b : Option A) → or_else a b ≡ None → (a ≡ None) × (b ≡ None)
or_none (Some x) b e = let z : ◌≡◌ {A = ℕ} 0 1 = cc in absurd (omega arith)
or_none None b e = (refl, e)

pub or_some : {A : Type 0} (a b : Option A) (x : A) → or_else a b ≡ Some x → (a ≡ Some x) ⊎ ((a ≡ None) × (b ≡ Some x))
or_some (Some y) b x e = inl e
or_some None b x e = inr (refl, e)

-- what holds below n and at n holds below n + 1
one_more : {n : ℕ} (P : ℕ → Type 0) → ((i : ℕ) → i < n → P i) → P n → (i : ℕ) → i < suc n → P i
one_more {n = n} P below here i h = go (cases_order i n)
  where
    go : (i ≡ n) ⊎ ((i < n) ⊎ (n < i)) → P i
    go (inl e) = rw e here
    go (inr (inl lt)) = below i lt
    go (inr (inr gt)) = absurd (omega arith)

pub first_none : {A : Type 0} (n : ℕ) (f : ℕ → Option A) → first n f ≡ None → (i : ℕ) → i < n → f i ≡ None
first_none zero f e i h = absurd (omega arith)
first_none (suc n) f e i h = let s = or_none (first n f) (f n) e in one_more (λ j. f j ≡ None) (first_none n f s.0) s.1 i h

pub none_first : {A : Type 0} (n : ℕ) (f : ℕ → Option A) → ((i : ℕ) → i < n → f i ≡ None) → first n f ≡ None
none_first zero f none = refl
none_first (suc n) f none = rw (none_first n f (λ i h. none i (omega arith))) (none n (omega arith))

pub first_some : {A : Type 0} (n : ℕ) (f : ℕ → Option A) (x : A) → first n f ≡ Some x → (i : ℕ) × (i < n) × (f i ≡ Some x) × ((j : ℕ) → j < i → f j ≡ None)
first_some zero f x e = let z : ◌≡◌ {A = ℕ} 0 1 = cc in absurd (omega arith)
first_some (suc n) f x e =
    ⊎_elim
    (λ s. let r = first_some n f x s in (r.0, omega (arith, r.1), r.2, r.3))
    (λ s. (n, omega arith, s.1, first_none n f s.0))
    (or_some (first n f) (f n) x e)

-- The same of a search for two numbers, the second below a bound that depends on the first.
abbrev pub first_pair : {A : Type 0} → ℕ → (ℕ → ℕ) → (ℕ → ℕ → Option A) → Option A
first_pair n m f = first n (λ c. first (m c) (f c))

pub first_pair_none : {A : Type 0} (n : ℕ) (m : ℕ → ℕ) (f : ℕ → ℕ → Option A) → first_pair n m f ≡ None → (c t : ℕ) → c < n → t < m c → f c t ≡ None
first_pair_none n m f e c t h k = first_none (m c) (f c) (first_none n (λ d. first (m d) (f d)) e c h) t k

-- where a search for two numbers found something, and nothing before
pub record FoundAt {A : Type 0} (n : ℕ) (m : ℕ → ℕ) (f : ℕ → ℕ → Option A) (x : A) : Type 0 where
  pub one : ℕ
  pub two : ℕ
  pub below_one : one < n
  pub below_two : two < m one
  pub is : f one two ≡ Some x
  pub before : (d u : ℕ) → u < m d → (d < one) ⊎ ((d ≡ one) × (u < two)) → f d u ≡ None

pub first_pair_some : {A : Type 0} (n : ℕ) (m : ℕ → ℕ) (f : ℕ → ℕ → Option A) (x : A) → first_pair n m f ≡ Some x → FoundAt n m f x
first_pair_some n m f x e =
    let a = first_some n (λ c. first (m c) (f c)) x e in
    let b = first_some (m a.0) (f a.0) x a.2 in
    record {
      one = a.0;
      two = b.0;
      below_one = a.1;
      below_two = b.1;
      is = b.2;
      before = λ d u h p. ⊎_elim (λ lt. first_none (m d) (f d) (a.3 d lt) u h) (λ s. rw s.0 (b.3 u s.1)) p;
    }
