-- What the write of one holder does to the number of places that a carrier holds.
use Rattle.std.proofs.Common.{◌≡◌, ℕ, zero, suc, ◌+◌, ◌<◌, ◌≤◌, cond, ◌≢◌, List, length, get_or, set, replicate, Some, None, Option, sym, refl, ap, ◌∙◌, ⊎_elim, arith}
use Rattle.std.specs.List.{sum_by}
use Rattle.std.proofs.lemmas.List.{get_or_past, get_or-set_same, get_or-set_other, set_past}
use Rattle.std.proofs.lemmas.List.Folds.{sum_by-replicate}
use Rattle.std.proofs.lemmas.List.Recursion.{is_sum_by}
use Rattle.std.proofs.lemmas.List.Sums.{sum_by-set}
use Rattle.std.proofs.lemmas.Bool.{cases_eq, cases_lt, eq-eqb}
use Rattle.std.proofs.lemmas.Bool.Decides.{nat_tests}
use Rattle.boards.specs.Holders.{holder_of, Holds, Free, held, is_holder, AllBelow, AtMostTwo}

-- 1 where the holder is the carrier
abbrev pub one : Option ℕ → ℕ → ℕ
one holder carrier = cond (is_holder holder carrier) 1 0

pub one_same : (c : ℕ) → one (Some c) c ≡ 1
one_same c = ap (λ b. cond b 1 0) (eq-eqb c c refl)

pub one_other : (c d : ℕ) → d ≢ c → one (Some c) d ≡ 0
one_other c d s = grind (arith, nat_tests)

-- the count is a sum over the holders
pub held_sum : (hs : List (Option ℕ)) (c : ℕ) → held hs c ≡ sum_by (λ h. one h c) hs
unfolding held
held_sum hs c = is_sum_by (λ w. held w c) (λ h. one h c) refl (λ h w. refl) hs

-- the places of a carrier after a write, and the place written before it, are those before and the place written now
pub held-set : (hs : List (Option ℕ)) (p : ℕ) (x y : Option ℕ) (d : ℕ) → p < length hs → holder_of hs p ≡ x → held (set hs p y) d + one x d ≡ held hs d + one y d
held-set hs p x y d l e =
    omega (arith, held_sum (set hs p y) d, held_sum hs d, sum_by-set (λ h. one h d) hs p y None l, ap (λ h. one h d) e)

pub held_none : (n d : ℕ) → held (replicate n None) d ≡ 0
held_none n d =
    omega (arith, held_sum (replicate n None) d, sum_by-replicate (λ (h : Option ℕ). one h d) n None)

-- every place of a new board is free
pub free_none : (n p : ℕ) → Free (replicate n None) p
free_none zero p = refl
free_none (suc n) zero = refl
free_none (suc n) (suc p) = free_none n p

-- a carrier that holds a place holds at least one
pub held_some : (hs : List (Option ℕ)) (p c : ℕ) → p < length hs → Holds hs c p → 1 ≤ held hs c
held_some hs p c l mine =
    omega (arith, held-set hs p (Some c) None c l mine, one_same c)

-- a number that stands in a list has a place in it
pub some_inside : (xs : List (Option ℕ)) (i x : ℕ) → get_or xs i None ≡ Some x → i < length xs
some_inside xs i x e =
    ⊎_elim
    (λ (l : i < length xs). l)
    (λ (l : length xs ≤ i). let past = get_or_past xs i None l in absurd (cc))
    (cases_lt i (length xs))

-- no number, or one below the bound, is below the bound
pub none_below : (n x : ℕ) → None ≡ Some x → x < n
none_below n x e = cc

pub some_below : (n c : ℕ) → c < n → (x : ℕ) → Some c ≡ Some x → x < n
some_below n c l x e = let s : c ≡ x = cc in omega arith

pub all_below_none : (n m : ℕ) → AllBelow n (replicate m None)
all_below_none n m i x e = none_below n x (sym (free_none m i) ∙ e)

pub all_below_set : (n : ℕ) (xs : List (Option ℕ)) (i : ℕ) (y : Option ℕ) → AllBelow n xs → ((x : ℕ) → y ≡ Some x → x < n) → AllBelow n (set xs i y)
all_below_set n xs i y b f j x e =
    ⊎_elim
    (λ (s : j ≡ i). ⊎_elim
    (λ (l : i < length xs). f x (sym (get_or-set_same xs i y None l) ∙ ap (λ w. get_or (set xs i y) w None) (sym s) ∙ e))
    (λ (l : length xs ≤ i). b j x (ap (λ w. get_or w j None) (sym (set_past xs i y l)) ∙ e))
    (cases_lt i (length xs)))
    (λ (s : j ≢ i). b j x (sym (get_or-set_other xs i j y None s) ∙ e))
    (cases_eq j i)

-- a carrier with fewer than two places takes a free one
pub few_enter : (hs : List (Option ℕ)) (p c : ℕ) → p < length hs → Free hs p → held hs c < 2 → AtMostTwo hs → AtMostTwo (set hs p (Some c))
few_enter hs p c l free room few d =
    let e = held-set hs p None (Some c) d l free in
    let f = few d in
    ⊎_elim
    (λ (s : d ≡ c). omega (arith, ap (held hs) s, ap (one (Some c)) s, one_same c))
    (λ (s : d ≢ c). omega (arith, one_other c d s))
    (cases_eq d c)

-- a place becomes free
pub few_leave : (hs : List (Option ℕ)) (p : ℕ) → p < length hs → AtMostTwo hs → AtMostTwo (set hs p None)
few_leave hs p l few d =
    let e = held-set hs p _ None d l refl in
    let f = few d in
    omega arith
