use Rattle.std.proofs.Common.{◌≡◌, ◌-◌, [], ◌∷◌, ◌++◌, vec_items, ◌∙◌, arith, rules}
use Rattle.std.proofs.lemmas.Result.{err_from_is_err_and}
use Rattle.files.specs.Parse.{entries_at}
use Rattle.files.proofs.Listed.{after_none, after_all_lem, entries_more, entries_stop}
use Rattle.files.proofs.carriers.read_entries.Goals as goal

pub loop-init : goal.loop-init
loop-init c =
    let e : c.args.count - 0 ≡ c.args.count = omega arith in
    record { moved = search rules; many = omega arith; read = rw (c.new-entries.ensures.items, e) (after_none _) }

pub returns-in_err-ranged-clause-value : goal.returns-in_err-ranged-clause-value
returns-in_err-ranged-clause-value c =
    let p = err_from_is_err_and c.from_residual.result c.from_residual.ensures.1 in
    rw (p.1, p.2) (c.loop.invariant.read ∙ entries_stop _ _ _ _ _ _ _ _ c.in_err-ranged.ensures.value c.loop-test.true)

pub loop-preserved : goal.loop-preserved
loop-preserved c =
    let k : vec_items c.push.new.self ≡ vec_items c.loop.entries ++ c.in_ok-ranged.field-0 ∷ [] = search rules in
    record {
      moved = grind arith;
      many = search rules;
      read = rw (k, c.in_ok-ranged.ensures.moves) (c.loop.invariant.read ∙ entries_more _ _ _ _ _ _ _ _ c.in_ok-ranged.ensures.value c.loop-test.true);
    }

pub returns-clause-value : goal.returns-clause-value
unfolding entries_at
returns-clause-value c =
    let n : c.args.count - c.loop.counter ≡ 0 = omega arith in
    c.loop.invariant.read ∙ rw n (after_all_lem _)
