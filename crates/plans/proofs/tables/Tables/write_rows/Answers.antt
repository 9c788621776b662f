use Rattle.std.proofs.Common.{◌≡◌, ◌+◌, ◌-◌, ◌++◌, length, take, drop, set, vec_items, sym, ap, ◌∙◌, arith, rules, length-append}
use Rattle.plans.specs.Plan.{entries_of}
use Rattle.plans.specs.Tables.{filled, rows_of, no_row}
use Rattle.plans.specs.Held.{routes_of}
use Rattle.plans.proofs.Writing.{filled_laid, one_behind}
use Rattle.plans.proofs.Routes.{entries_more, entries_within, all_taken, rows_more, rows_taken}
use Rattle.plans.proofs.tables.Tables.write_rows.Goals as goal

pub loop-c-preserved : goal.loop-c-preserved
loop-c-preserved c =
    let cs = c.args.fitting.now.carriers.now in
    let i = c.loop-c.c in
    let x = c.carrier-item.result in
    let front = rows_of 0 (take i (routes_of cs)) in
    let old = vec_items c.args.self.now.rows in
    let more = entries_more cs i x c.loop-c-test.true c.carrier-item.is in
    let count = c.len-count.ensures ∙ x.path.ok.0 in
    record {
      entries_before = omega (arith, ap length more, length-append (entries_of (take i (routes_of cs))) (vec_items x.path));
      within = omega (arith, entries_within cs i x c.loop-c-test.true c.carrier-item.is 2048 c.args.fitting.now.short);
      rows =
          (λ j. set (c.loop-c.invariant.rows j) i (record { start = x.start; goal = x.goal; before = c.loop-c.invariant.entries_before j; count = count j }))
          ∙ one_behind front old i (rows_taken cs i (omega arith)) _ (omega (arith, c.args.fitting.now.few, c.args.self.now.tall, c.args.self.now.rows.ok.0))
          ∙ ap (λ zs. zs ++ drop (i + 1) old) (sym (rows_more cs i x c.loop-c-test.true c.carrier-item.is));
      entries = c.loop-c.invariant.entries;
    }

pub returns-clause-rows : goal.returns-clause-rows
returns-clause-rows c =
    let cs = c.args.fitting.now.carriers.now in
    let i = c.loop-c.c in
    let front = rows_of 0 (take i (routes_of cs)) in
    let old = vec_items c.args.self.now.rows in
    let end : i ≡ length cs = omega arith in
    filled_laid front old (length cs) (sym end ∙ rows_taken cs i (omega arith)) c.loop-c.self.rows (c.loop-c.invariant.rows ∙ ap (λ j. front ++ drop j old) end) _ _ 32 (32 - length cs) no_row
    c.deref_mut.ensures.value (c.fill.ensures.after (λ y h. search rules)) (omega (arith, c.args.fitting.now.few)) (omega (arith, c.args.self.now.tall, c.args.self.now.rows.ok.0))
    ∙ ap (λ rs. filled 32 no_row (rows_of 0 rs) ++ drop 32 old) (all_taken cs i c.loop-c-test.false)
