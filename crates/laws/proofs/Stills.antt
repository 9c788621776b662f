-- The lowest-numbered standstill.
use Rattle.std.proofs.Common.{◌≡◌, ℕ, pred, ◌<◌, ◌≤◌, Bool, true, false, ◌&&◌, ◌⊎◌, Some, None, Option, sym, refl, subst, inl, inr, arith}
use mathlib.Core.Path.{fun_ext}
use Rattle.std.proofs.lemmas.Bool.Decides.{nat_tests}
use Rattle.std.proofs.lemmas.List.{get_or_past}
use Rattle.std.proofs.lemmas.Bool.{cases_lt, cases_Bool, and_parts, and_from, both_ways}
use Rattle.plans.specs.Plan.{Plan, nobody}
use Rattle.laws.specs.Paths.{carriers, Carrier, entries, last, HavePaths}
use Rattle.laws.specs.Rules.{first, when}
use Rattle.laws.specs.Pictures.{Picture, Reachable, Standstill}
use Rattle.laws.specs.Judging.{pictures, number, picture, any, unfinished, can_move, reachable, still, lowest_standstill, Inside, FindsLowest, LowestStandstillIsFound}
use Rattle.laws.proofs.Digits.{number_small, picture_of_lem, beyond}
use Rattle.laws.proofs.Tested.{any_some, any_none, any_has, any_no, Lowest, lowest_is, can, cannot}
use Rattle.laws.proofs.Marked.{computed_reached, reached_computed}
use Rattle.laws.proofs.Waiting.{within}

pred_below : (t l : ℕ) → 0 < l → t ≤ pred l → t < l
pred_below t l f h = omega arith

last_inside : (p : Plan) (c t : ℕ) → 0 < entries p c → t ≤ last p c → t < entries p c
unfolding last
last_inside p c t f h = pred_below t (entries p c) f h

last_beyond : (p : Plan) (c : ℕ) → carriers p ≤ c → last p c ≡ 0
unfolding last
last_beyond p c h = rw (get_or_past p.carriers c nobody h)

-- a reachable picture has a number
module _ (p : Plan) (filled : HavePaths p) (x : Picture) (r : Reachable p x) where
  reached_inside : Inside p x
  reached_inside c cp = last_inside p c (x c) (filled c cp) (within p x r c)

  reached_picture : picture p (number p x) ≡ x
  reached_picture = fun_ext λ c. go c (cases_lt c (carriers p))
    where
      go : (c : ℕ) → (c < carriers p) ⊎ (carriers p ≤ c) → picture p (number p x) c ≡ x c
      go c (inl cp) = picture_of_lem p.carriers x reached_inside c cp
      go c (inr h) = let a = beyond p.carriers (number p x) c h in let b = within p x r c in let e = last_beyond p c h in omega arith

still_parts : (p : Plan) (x : Picture) → Reachable p x → still p x ≡ true → Standstill p x
unfolding still unfinished
still_parts p x r e =
    let a : any (carriers p) (unfinished p x) ≡ true = grind (arith, nat_tests) in
    let b : any (carriers p) (can_move p x) ≡ false = grind (arith, nat_tests) in
    let (c, cp, t) = any_some (carriers p) (unfinished p x) a in
    record {
      reached = r;
      stuck = λ c k. cannot p x c (any_none (carriers p) (can_move p x) b c k.carrier) k;
      who = c;
      carrier = cp;
      short = grind (arith, nat_tests);
    }

still_from : (p : Plan) (x : Picture) → Standstill p x → still p x ≡ true
unfolding still unfinished
still_from p x s =
    let u = s.short in
    let a : any (carriers p) (unfinished p x) ≡ true = any_has (carriers p) (unfinished p x) s.who s.carrier (grind (arith, nat_tests)) in
    let b : any (carriers p) (can_move p x) ≡ false = any_no (carriers p) (can_move p x) (λ c cp. no_move c cp (cases_Bool (can_move p x c))) in
    grind (arith, nat_tests)
  where
    no_move : (c : ℕ) → Carrier p c → (can_move p x c ≡ true) ⊎ (can_move p x c ≡ false) → can_move p x c ≡ false
    no_move c cp (inl t) = absurd (s.stuck c (can p x c cp t))
    no_move c cp (inr f) = f

-- the test of a standstill by number
abbrev stands : Plan → ℕ → Bool
stands p n = reachable p n && still p (picture p n)

stands_parts : (p : Plan) (n : ℕ) → n < pictures p → stands p n ≡ true → Standstill p (picture p n)
stands_parts p n h e =
    let (m, s) = and_parts (reachable p n) (still p (picture p n)) e in
    still_parts p (picture p n) (computed_reached p n h m) s

stands_from : (p : Plan) (n : ℕ) → n < pictures p → Standstill p (picture p n) → stands p n ≡ true
stands_from p n h s =
    and_from (reachable p n) (still p (picture p n)) (reached_computed p (picture p n) s.reached n h (λ c. refl)) (still_from p (picture p n) s)

pub lowest_standstill_is_found : LowestStandstillIsFound
unfolding lowest_standstill
lowest_standstill_is_found p filled = go (first (pictures p) (λ n. when (stands p n) n)) (lowest_is (pictures p) (stands p))
  where
    go : (o : Option ℕ) → Lowest (pictures p) (stands p) o → FindsLowest p o
    go (Some n) (h, t, none) = (h, stands_parts p n h t, λ m l s. both_ways (stands p m) (none m l) (stands_from p m (omega arith) s))
    go None none = λ x s.
        let n = number p x in
        let h = number_small p.carriers x (reached_inside p filled x s.reached) in
        both_ways (stands p n) (none n h) (stands_from p n h (subst (Standstill p) (sym (reached_picture p filled x s.reached)) s))
