-- The counts after a place is entered or left.
use Rattle.std.proofs.Common.{◌≡◌, ℕ, ◌+◌, ◌-◌, ◌<◌, ◌≢◌, List, length, get_or, set, Some, None, Option, sym, ap, ◌∙◌, ⊎_elim, arith}
use Rattle.std.proofs.lemmas.List.{get_or-set_same, get_or-set_other}
use Rattle.std.proofs.lemmas.Bool.{cases_eq}
use Rattle.boards.specs.Holders.{Holds, Free, held}
use Rattle.boards.proofs.Holding.{one_same, one_other, held-set}
use Rattle.place_board.specs.Counts.{Counted}

-- one carrier's places become so many, and those of the others stay
recount : (xs ys : List (Option ℕ)) (ns : List ℕ) (c n : ℕ) → c < length ns → held ys c ≡ n → ((d : ℕ) → d ≢ c → held ys d ≡ held xs d) → Counted xs ns → Counted ys (set ns c n)
recount xs ys ns c n w mine others counted d h =
    ⊎_elim
    (λ (s : d ≡ c). ap (λ k. get_or (set ns c n) k 0) s ∙ get_or-set_same ns c n 0 w ∙ sym mine ∙ ap (held ys) (sym s))
    (λ (s : d ≢ c). get_or-set_other ns c d n 0 s ∙ counted d h ∙ sym (others d s))
    (cases_eq d c)

pub counted_enter : (xs : List (Option ℕ)) (ns : List ℕ) (p c n : ℕ) → p < length xs → Free xs p → c < length ns → n ≡ held xs c → Counted xs ns → Counted (set xs p (Some c)) (set ns c (n + 1))
counted_enter xs ns p c n l free w e =
    recount xs (set xs p (Some c)) ns c (n + 1) w
    (omega (arith, held-set xs p None (Some c) c l free, one_same c))
    (λ d s. omega (arith, held-set xs p None (Some c) d l free, one_other c d s))

pub counted_leave : (xs : List (Option ℕ)) (ns : List ℕ) (p c n : ℕ) → p < length xs → Holds xs c p → c < length ns → n ≡ held xs c → Counted xs ns → Counted (set xs p None) (set ns c (n - 1))
counted_leave xs ns p c n l mine w e =
    recount xs (set xs p None) ns c (n - 1) w
    (omega (arith, held-set xs p (Some c) None c l mine, one_same c))
    (λ d s. omega (arith, held-set xs p (Some c) None d l mine, one_other c d s))
