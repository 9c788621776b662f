-- What a plan is in which the check finds nothing, that the judge then finds no standstill, and that such plans come home.
use Rattle.std.proofs.Common.{◌≡◌, ℕ, suc, ◌-◌, ◌<◌, true, false, ◌≢◌, ◌⊎◌, Some, None, Option, sym, refl, subst, inl, inr, ⊎_elim, arith}
use Rattle.std.proofs.lemmas.Bool.{false≢true, cases_eq, cases_Bool, cases_order}
use Rattle.floors.specs.Exits.{has}
use Rattle.store_floor.specs.Layout.{exits_from}
use Rattle.plans.specs.Plan.{Plan, fits}
use Rattle.laws.specs.Paths.{Carrier, start, goal, entries, entry, HavePaths, last, HasLeg, Leads}
use Rattle.laws.specs.Rules.{NoPath, WrongEnd, NoLeg, EqualStarts, ForeignGoal, no_path, wrong_end, no_leg, equal_starts, foreign_goal, Least, LeastPair, LeastTriple}
use Rattle.laws.specs.Chains.{NoCircularWait}
use Rattle.laws.specs.Naming.{Names, named}
use Rattle.laws.specs.Pictures.{NoStandstill}
use Rattle.laws.specs.Judging.{FindsLowest, lowest_standstill}
use Rattle.laws.specs.Laws.{Runnable, Ends, NoForeignGoal, JudgeAgreesWithCheck, ReleasedPlansComeHome}
use Rattle.laws.proofs.Progress.{no_standstill_no_end_of_progress}
use Rattle.laws.proofs.Waiting.{check_suffices}
use Rattle.laws.proofs.Placed.{leg_carrier}
use Rattle.laws.proofs.Ruled.{leg_inside, rules_are_searched}
use Rattle.laws.proofs.Found.{waits_are_named}
use Rattle.laws.proofs.Stills.{lowest_standstill_is_found}

module _ (p : Plan) where
  each_has_path : no_path p ≡ None → HavePaths p
  each_has_path e c cp = let some : entries p c ≢ 0 = λ z. subst (Least (NoPath p)) e (rules_are_searched p).no_path c (cp, z) in omega arith

  each_begins : wrong_end p ≡ None → (c : ℕ) → Carrier p c → entry p c 0 ≡ start p c
  each_begins e c cp =
      ⊎_elim
      (λ (q : entry p c 0 ≡ start p c). q)
      (λ (ne : entry p c 0 ≢ start p c). absurd (subst (LeastPair (WrongEnd p)) e (rules_are_searched p).wrong_end c 0 (cp, inl (refl, ne))))
      (cases_eq (entry p c 0) (start p c))

  each_ends : wrong_end p ≡ None → Ends p
  each_ends e c cp =
      ⊎_elim
      (λ (q : entry p c (last p c) ≡ goal p c). q)
      (λ (ne : entry p c (last p c) ≢ goal p c). absurd (subst (LeastPair (WrongEnd p)) e (rules_are_searched p).wrong_end c (last p c) (cp, inr (refl, ne))))
      (cases_eq (entry p c (last p c)) (goal p c))

  each_leads : no_leg p ≡ None → (c t : ℕ) → HasLeg p c t → Leads p (entry p c t) (entry p c (suc t))
  each_leads e c t l =
      let back : suc t - 1 ≡ t = omega arith in
      ⊎_elim
      (λ (q : Leads p (entry p c t) (entry p c (suc t))). q)
      (λ (q : has (entry p c (suc t)) (exits_from p.floor (entry p c t)) ≡ false).
      absurd (subst (LeastPair (NoLeg p)) e (rules_are_searched p).no_leg c (suc t) (leg_carrier p c t l, omega arith, leg_inside p c t l, rw (back, q) (λ w. false≢true w))))
      (cases_Bool (has (entry p c (suc t)) (exits_from p.floor (entry p c t))))

  starts_differ : equal_starts p ≡ None → (c d : ℕ) → Carrier p c → Carrier p d → start p c ≡ start p d → c ≡ d
  starts_differ e c d cp dp same = go (cases_order c d) (subst (LeastPair (EqualStarts p)) e (rules_are_searched p).equal_starts)
    where
      go : (c ≡ d) ⊎ ((c < d) ⊎ (d < c)) → LeastPair (EqualStarts p) None → c ≡ d
      go (inl q) none = q
      go (inr (inl l)) none = absurd (none c d (l, dp, same))
      go (inr (inr l)) none = absurd (none d c (l, cp, sym same))

  runnable : fits p ≡ true → wrong_end p ≡ None → no_leg p ≡ None → equal_starts p ≡ None → Runnable p
  runnable fit end leg starts =
      record { fit = fit; begins = each_begins end; leads = each_leads leg; apart = starts_differ starts }

  no_foreign_goal : foreign_goal p ≡ None → NoForeignGoal p
  no_foreign_goal e c d t cp dp ne l same = subst (LeastTriple (ForeignGoal p)) e (rules_are_searched p).foreign_goal c (suc t) d (cp, dp, ne, omega arith, leg_inside p c t l, same)

  no_circular_wait : named p ≡ None → NoCircularWait p
  no_circular_wait e = subst (Names p) e (waits_are_named p)

  nothing_found : NoStandstill p → (found : Option ℕ) → FindsLowest p found → found ≡ None
  nothing_found none None lowest = refl
  nothing_found none (Some n) lowest = absurd (none _ lowest.1)

pub judge_agrees_with_check : JudgeAgreesWithCheck
judge_agrees_with_check p path end foreign wait =
    nothing_found p (check_suffices p (each_ends p end) (no_foreign_goal p foreign) (no_circular_wait p wait)) (lowest_standstill p) (lowest_standstill_is_found p (each_has_path p path))

pub released_plans_come_home : ReleasedPlansComeHome
released_plans_come_home p size fit board path end leg starts still =
    let keeps = runnable p fit end leg starts in
    let none : NoStandstill p = subst (FindsLowest p) still (lowest_standstill_is_found p (each_has_path p path)) in
    (no_standstill_no_end_of_progress p size (keeps, board) none, each_ends p end)
