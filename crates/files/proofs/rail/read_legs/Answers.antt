use Rattle.std.proofs.Common.{◌≡◌, ◌-◌, [], ◌∷◌, ◌++◌, vec_items, ◌∙◌, arith, rules}
use Rattle.std.proofs.lemmas.Result.{err_from_is_err_and}
use Rattle.files.specs.Parse.{legs_at}
use Rattle.files.proofs.Listed.{after_none, after_all_lem, legs_more, legs_stop}
use Rattle.files.proofs.rail.read_legs.Goals as goal

pub loop-init : goal.loop-init
loop-init c =
    let e : c.args.count - 0 ≡ c.args.count = omega arith in
    record { moved = search rules; many = omega arith; read = rw (c.new-legs.ensures.items, e) (after_none _) }

pub returns-in_err-leg-clause-value : goal.returns-in_err-leg-clause-value
returns-in_err-leg-clause-value c =
    let p = err_from_is_err_and c.from_residual.result c.from_residual.ensures.1 in
    rw (p.1, p.2) (c.loop.invariant.read ∙ legs_stop _ _ _ _ _ _ _ _ _ c.in_err-leg.ensures.value c.loop-test.true)

pub loop-preserved : goal.loop-preserved
loop-preserved c =
    let k : vec_items c.push.new.self ≡ vec_items c.loop.legs ++ c.in_ok-leg.leg ∷ [] = search rules in
    record {
      moved = grind arith;
      many = search rules;
      read = rw (k, c.in_ok-leg.ensures.moves) (c.loop.invariant.read ∙ legs_more _ _ _ _ _ _ _ _ _ c.in_ok-leg.ensures.value c.loop-test.true);
    }

pub returns-clause-value : goal.returns-clause-value
unfolding legs_at
returns-clause-value c =
    let n : c.args.count - c.loop.counter ≡ 0 = omega arith in
    c.loop.invariant.read ∙ rw n (after_all_lem _)
