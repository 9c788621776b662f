-- A board is empty where each place is free, and where no carrier holds a place.
use Rattle.std.proofs.Common.{◌≡◌, ℕ, zero, suc, ◌<◌, Bool, true, false, MatchBool, List, [], ◌∷◌, get_or, Some, None, Option, sym, refl, subst, arith}
use Rattle.std.specs.List.{AllWithin, HoldsAt, range_with_len}
use Rattle.std.proofs.lemmas.Bool.{false≢true}
use Rattle.std.proofs.lemmas.List.FromFn.{get_or-range_with_len}
use Rattle.boards.specs.Holders.{Free, held, empty, Known}
use Rattle.boards.proofs.Holding.{one_same}

pub empty_free : (hs : List (Option ℕ)) → empty hs ≡ true → (p : ℕ) → Free hs p
unfolding empty
empty_free [] e p = refl
empty_free (None ∷ hs) e zero = refl
empty_free (None ∷ hs) e (suc p) = empty_free hs e p
empty_free (Some h ∷ hs) e p = absurd (false≢true e)

pub free_empty : (hs : List (Option ℕ)) → ((p : ℕ) → Free hs p) → empty hs ≡ true
unfolding empty
free_empty [] f = refl
free_empty (None ∷ hs) f = free_empty hs (λ p. f (suc p))
free_empty (Some h ∷ hs) f = let e = f zero in absurd (cc)

-- no carrier holds a place
held_empty : (hs : List (Option ℕ)) → Known hs → ((c : ℕ) → c < 32 → held hs c ≡ 0) → empty hs ≡ true
unfolding empty held
held_empty [] k f = refl
held_empty (None ∷ hs) k f = held_empty hs (λ p c. k (suc p) c) (λ c l. omega (arith, f c l))
held_empty (Some h ∷ hs) k f =
    absurd (omega (arith, one_same h, f h (k zero h refl)))

-- a carrier holds a place
held_not_empty : (hs : List (Option ℕ)) (c : ℕ) → 0 < held hs c → empty hs ≡ false
unfolding empty held
held_not_empty [] c l = absurd (omega arith)
held_not_empty (None ∷ hs) c l = held_not_empty hs c (omega arith)
held_not_empty (Some h ∷ hs) c l = refl

-- the numbers of the carriers, as the chain goes over them
numbered : (c : ℕ) → c < 32 → get_or (range_with_len 0 32) c 0 ≡ c
numbered c l = omega (arith, get_or-range_with_len 0 32 c 0 l)

-- the answer to whether each carrier holds none
pub each_none : (answer : Bool) (hs : List (Option ℕ)) → Known hs → MatchBool answer (AllWithin (λ c. c < 32 → held hs c ≡ 0) (range_with_len 0 32) 0 32) ((k : ℕ) × (k < 32) × HoldsAt (λ c. c < 32 → 0 < held hs c) (range_with_len 0 32) k) → answer ≡ empty hs
each_none true hs known none =
    sym (held_empty hs known (λ c l. subst (λ (d : ℕ). held hs d ≡ 0) (numbered c l) (none c 0 (omega arith) l (omega (arith, numbered c l)))))
each_none false hs known (c, l, some) = sym (held_not_empty hs _ (some 0 (omega (arith, numbered c l))))
