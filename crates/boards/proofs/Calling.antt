-- Whatever is called on a new board, no carrier ever holds more than two places.
use Rattle.std.proofs.Common.{◌≡◌, ℕ, List, [], ◌∷◌, length, set, replicate, Some, None, Ok, Err, Option, Result, refl, ◌∙◌, arith}
use Rattle.std.proofs.lemmas.List.{length-set, length-replicate}
use Rattle.boards.specs.declared.faults.BoardFault.{BoardFault}
use Rattle.boards.specs.Holders.{AtMostTwo}
use Rattle.boards.specs.Calls.{enter_answer, leave_answer, granted}
use Rattle.boards.specs.Laws.{Call, called, after_all}
use Rattle.boards.specs.Laws.Call.{enter, leave}
use Rattle.boards.proofs.Holding.{held_none, few_enter, few_leave}
use Rattle.boards.proofs.Granting.{enter_granted, leave_granted}

-- as many entries as before, and no carrier with more than two places
abbrev Kept : ℕ → List (Option ℕ) → Type 0
Kept n hs = (length hs ≡ n) × AtMostTwo hs

-- what holds of the new where a call is granted, and of the old, holds afterwards
afterwards : {T : Type 0} (r : Result Unit BoardFault) (new old : T) (P : T → Type 0) → (r ≡ Ok tt → P new) → P old → P (granted r new old)
afterwards (Ok done) new old P here there = here refl
afterwards (Err fault) new old P here there = there

kept_call : (n : ℕ) (hs : List (Option ℕ)) (call : Call) → Kept n hs → Kept n (called n hs call)
kept_call n hs (enter c p) k =
    afterwards (enter_answer n hs c p) (set hs p (Some c)) hs (Kept n)
    (λ g. let m = enter_granted n hs c p g in
    (length-set hs p (Some c) ∙ k.0, few_enter hs p c (omega arith) m.free m.room k.1))
    k
kept_call n hs (leave c p) k =
    afterwards (leave_answer n hs c p) (set hs p None) hs (Kept n)
    (λ g. let m = leave_granted n hs c p g in
    (length-set hs p None ∙ k.0, few_leave hs p (omega arith) k.1))
    k

kept_all : (n : ℕ) (hs : List (Option ℕ)) (calls : List Call) → Kept n hs → Kept n (after_all n hs calls)
kept_all n hs [] k = k
kept_all n hs (call ∷ calls) k = kept_all n (called n hs call) calls (kept_call n hs call k)

pub never_more : (n : ℕ) (calls : List Call) → AtMostTwo (after_all n (replicate n None) calls)
never_more n calls =
    (kept_all n (replicate n None) calls (length-replicate n None, λ d. omega (arith, held_none n d))).1
