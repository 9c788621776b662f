use Rattle.std.proofs.Common.{◌≡◌, ℕ, suc, ◌+◌, true, Some, sym, ap, ◌∙◌, add-one, arith}
use Rattle.plans.specs.Held.{plan_of}
use Rattle.laws.specs.Paths.{carriers, goal as goal', last}
use Rattle.plans.specs.Plan.{carrier}
use Rattle.rules.specs.Routes.{is_foreign, last_of}
use Rattle.rules.proofs.Firsts.{first_more, first_hit, first_end, when_true, when_false}
use Rattle.rules.proofs.Routed.{goal_at}
use Rattle.rules.proofs.Rows.{foreign, foreign_at, foreign_to, first-foreign, last_of-carrier}
use Rattle.rules.proofs.search.foreign_goal.Goals as goal

pub returns-then-is_foreign : goal.returns-then-is_foreign
returns-then-is_foreign c =
    let p = plan_of c.args.plan.now in
    let k = c.loop-carrier.carrier in
    let t = c.loop-t.t in
    let d = c.loop-owner.owner in
    let x : ℕ × ℕ × ℕ = (k, t + 1, d) in
    let goal_there = c.goal.ensures ∙ goal_at p d (omega (arith, c.carrier_count-owner-end.ensures, c.loop-owner-test.true)) in
    let test : is_foreign k (carrier p k) t d (Some (goal' p d)) ≡ true = sym (c.if-is_foreign.ensures ∙ (λ i. is_foreign (c.of-route.ensures.whose i) (c.of-route.ensures.route i) t c.loop-owner.owner (goal_there i))) in
    let here : foreign_to p k t d ≡ Some x = when_true _ (k, suc t, d) test ∙ ap (λ (n : ℕ). Some (k, n, d)) (sym (add-one t)) in
    let legs : c.last-t-end.result ≡ last p k = c.last-t-end.ensures.value ∙ (ap last_of c.of-route.ensures.route ∙ last_of-carrier p k) in
    sym (first_hit (carriers p) k (foreign p) x (omega (arith, c.carrier_count-carrier-end.ensures)) c.loop-owner.invariant.0
    (first_hit (last p k) t (foreign_at p k) x (omega (arith, legs)) c.loop-owner.invariant.1
    (first_hit (carriers p) d (foreign_to p k t) x (omega (arith, c.carrier_count-owner-end.ensures)) c.loop-owner.invariant.2 here))) ∙ first-foreign p

pub loop-owner-preserved : goal.loop-owner-preserved
loop-owner-preserved c =
    let p = plan_of c.args.plan.now in
    let t = c.loop-t.t in
    let goal_there = c.goal.ensures ∙ goal_at p c.loop-owner.owner (omega (arith, c.carrier_count-owner-end.ensures, c.loop-owner-test.true)) in
    let test = sym (c.if-is_foreign.ensures ∙ (λ i. is_foreign (c.of-route.ensures.whose i) (c.of-route.ensures.route i) t c.loop-owner.owner (goal_there i))) in (
      c.loop-owner.invariant.0,
      c.loop-owner.invariant.1,
      first_more c.loop-owner.owner (foreign_to p c.loop-carrier.carrier t) c.loop-owner.invariant.2 (when_false _ _ test),
    )

pub loop-t-preserved : goal.loop-t-preserved
loop-t-preserved c =
    let p = plan_of c.args.plan.now in
    let k = c.loop-carrier.carrier in (
      c.loop-t.invariant.0,
      first_more c.loop-t.t (foreign_at p k) c.loop-t.invariant.1 (first_end (carriers p) c.loop-owner.owner (foreign_to p k c.loop-t.t) (omega (arith, c.carrier_count-owner-end.ensures)) c.loop-owner.invariant.2),
    )

pub loop-carrier-preserved : goal.loop-carrier-preserved
loop-carrier-preserved c =
    let p = plan_of c.args.plan.now in
    let k = c.loop-carrier.carrier in
    let legs : c.last-t-end.result ≡ last p k = c.last-t-end.ensures.value ∙ (ap last_of c.of-route.ensures.route ∙ last_of-carrier p k) in
    first_more k (foreign p) c.loop-carrier.invariant (first_end (last p k) c.loop-t.t (foreign_at p k) (omega (arith, legs)) c.loop-t.invariant.1)

pub returns-after-loop-carrier : goal.returns-after-loop-carrier
returns-after-loop-carrier c =
    let p = plan_of c.args.plan.now in
    sym (first_end (carriers p) c.loop-carrier.carrier (foreign p) (omega (arith, c.carrier_count-carrier-end.ensures)) c.loop-carrier.invariant) ∙ first-foreign p
