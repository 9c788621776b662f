-- A walk among finitely many numbers comes back: the numbers between two visits make a ring.
use Rattle.std.proofs.Common.{◌≡◌, ℕ, zero, suc, ◌+◌, ◌-◌, ◌<◌, ◌≤◌, cond, eqb, ◌≢◌, ◌⊎◌, sym, ap, ◌∙◌, subst, inl, inr, arith}
use Rattle.std.proofs.lemmas.Bool.{cases_eq}
use Rattle.std.proofs.lemmas.Bool.Decides.{nat_tests}

-- the first m answers of g are different
abbrev pub Distinct : (ℕ → ℕ) → ℕ → Type 0
Distinct g m = (a b : ℕ) → a < b → b < m → g a ≢ g b

-- where g answers m, its answer at m + 1 in place of that
abbrev around : (ℕ → ℕ) → ℕ → ℕ → ℕ
around g m i = cond (eqb (g i) m) (g (suc m)) (g i)

-- no n + 1 different numbers are below n
pigeon : (n : ℕ) (g : ℕ → ℕ) → ((i : ℕ) → i ≤ n → g i < n) → Distinct g (suc n) → ⊥
pigeon zero g small apart = let h = small 0 (omega arith) in omega arith
pigeon (suc m) g small apart = pigeon m (around g m) small' apart'
  where
    small' : (i : ℕ) → i ≤ m → around g m i < m
    small' i h =
        let u = small i (omega arith) in
        let v = small (suc m) (omega arith) in
        let w = apart i (suc m) (omega arith) (omega arith) in
        grind (arith, nat_tests)

    apart' : Distinct (around g m) (suc m)
    apart' a b h k e =
        let u = apart a (suc m) (omega arith) (omega arith) in
        let v = apart b (suc m) (omega arith) (omega arith) in
        let w = apart a b h (omega arith) in
        grind (arith, nat_tests)

-- the first place at which g comes back to an answer
record Repeat (g : ℕ → ℕ) : Type 0 where
  from : ℕ
  to : ℕ
  later : from < to
  same : g from ≡ g to
  apart : Distinct g to

-- x is among the first m answers, or not
answered : (g : ℕ → ℕ) (x m : ℕ) → ((i : ℕ) × (i < m) × (g i ≡ x)) ⊎ ((i : ℕ) → i < m → g i ≢ x)
answered g x zero = inr (λ i h e. omega arith)
answered g x (suc m) = go (cases_eq (g m) x) (answered g x m)
  where
    go : (g m ≡ x) ⊎ (g m ≡ x → ⊥) → ((i : ℕ) × (i < m) × (g i ≡ x)) ⊎ ((i : ℕ) → i < m → g i ≢ x)
        → ((i : ℕ) × (i < suc m) × (g i ≡ x)) ⊎ ((i : ℕ) → i < suc m → g i ≢ x)
    go (inl e) r = inl (m, omega arith, e)
    go (inr ne) (inl (i, h, e)) = inl (i, omega arith, e)
    go (inr ne) (inr none) = inr λ i h e. let p = none i in grind arith

repeats : (g : ℕ → ℕ) (m : ℕ) → Repeat g ⊎ Distinct g m
repeats g zero = inr (λ a b h k e. omega arith)
repeats g (suc m) = go (repeats g m) (answered g (g m) m)
  where
    go : Repeat g ⊎ Distinct g m → ((i : ℕ) × (i < m) × (g i ≡ g m)) ⊎ ((i : ℕ) → i < m → g i ≢ g m) → Repeat g ⊎ Distinct g (suc m)
    go (inl r) s = inl r
    go (inr d) (inl (i, h, e)) = inl (record { from = i; to = m; later = h; same = e; apart = d })
    go (inr d) (inr none) = inr λ a b h k e. let p = d a b h in let q = none a in grind arith

-- different numbers with P, each related to the next, and the last to the first
pub record Ring (P : ℕ → Type 0) (R : ℕ → ℕ → Type 0) : Type 0 where
  pub rest : ℕ
  pub at : ℕ → ℕ
  pub good : (i : ℕ) → P (at i)
  pub next : (i : ℕ) → R (at i) (at (suc i))
  pub distinct : Distinct at (suc rest)
  pub round : at (suc rest) ≡ at 0

-- numbers with P are below n, and each is related to another with P: from one of them on
module _ (n : ℕ) (P : ℕ → Type 0) (R : ℕ → ℕ → Type 0) (few : (c : ℕ) → P c → c < n) (on : (c : ℕ) → P c → (d : ℕ) × P d × R c d) (c : ℕ) (start : P c) where
  walk : ℕ → (d : ℕ) × P d
  walk zero = (c, start)
  walk (suc i) = let d = on (walk i).0 (walk i).1 in (d.0, d.1)

  walk_on : (i : ℕ) → R (walk i).0 (walk (suc i)).0
  unfolding walk
  walk_on i = (on (walk i).0 (walk i).1).2

  came_round : Repeat (λ i. (walk i).0) ⊎ Distinct (λ i. (walk i).0) (suc n) → Ring P R
  came_round (inl r) = record {
    rest = r.to - suc r.from;
    at = λ i. (walk (r.from + i)).0;
    good = λ i. (walk (r.from + i)).1;
    next = λ i. subst (λ m. R (walk (r.from + i)).0 (walk m).0) (omega arith) (walk_on (r.from + i));
    distinct = λ a b h k. r.apart (r.from + a) (r.from + b) (omega arith) (omega arith);
    round = ap (λ m. (walk m).0) (omega (arith, r.later)) ∙ sym r.same ∙ ap (λ m. (walk m).0) (omega arith);
  }
  came_round (inr d) = absurd (pigeon n (λ i. (walk i).0) (λ i _. few (walk i).0 (walk i).1) d)

  pub ring : Ring P R
  ring = came_round (repeats (λ i. (walk i).0) (suc n))
