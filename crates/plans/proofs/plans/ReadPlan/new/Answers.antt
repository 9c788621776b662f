use Rattle.std.proofs.Common.{List, ◌++◌, drop, vec_items, refl, sym, ap, ◌∙◌, arith}
use Rattle.store_floor.specs.Held.{layout_of}
use Rattle.plans.specs.Plan.{Route, fits_carriers}
use Rattle.plans.specs.Tables.{entry_table, row_table}
use Rattle.plans.specs.Held.{routes_of}
use Rattle.plans.proofs.Formed.{carriers_held, plan_fits, entries_laid, rows_laid}
use Rattle.plans.proofs.plans.ReadPlan.new.Goals as goal

pub invariant_of-result : goal.invariant_of-result
invariant_of-result c =
    let cs = c.in-Some.fitting.carriers.now in
    let fit = (λ i. fits_carriers (sym c.place_count.ensures i) (routes_of (c.in-Some.ensures.same i))) ∙ sym c.in-Some.ensures.fit in
    let e = c.lay.ensures.entries in
    let r = c.lay.ensures.rows in
    record {
      few = omega (arith, c.in-Some.fitting.few, c.count.ensures);
      fit = plan_fits c.args.floor cs _ c.args.tables c.lay.new.self fit c.count.ensures e r;
      laid = entries_laid c.args.floor cs _ c.args.tables c.lay.new.self fit c.count.ensures e r;
      rowed = rows_laid c.args.floor cs _ c.args.tables c.lay.new.self fit c.count.ensures e r;
    }

pub returns : goal.returns
returns c =
    let cs = c.in-Some.fitting.carriers.now in
    let same = c.in-Some.ensures.same in
    let fit = (λ i. fits_carriers (sym c.place_count.ensures i) (routes_of (same i))) ∙ sym c.in-Some.ensures.fit in (
      (λ i. fits_carriers (sym c.place_count.ensures i) (routes_of c.args.carriers.now)) ∙ sym c.in-Some.ensures.fit,
      record {
        floor_is = refl;
        plan_is = ap (λ (rs : List Route). record { floor = layout_of c.args.floor; carriers = rs })
            (carriers_held c.args.floor cs _ c.args.tables c.lay.new.self fit c.count.ensures c.lay.ensures.entries c.lay.ensures.rows ∙ ap routes_of same);
        entries_are = c.lay.ensures.entries ∙ ap (λ cs. entry_table (routes_of cs) ++ drop 2048 (vec_items c.args.tables.entries)) same;
        rows_are = c.lay.ensures.rows ∙ ap (λ cs. row_table (routes_of cs) ++ drop 32 (vec_items c.args.tables.rows)) same;
      },
    )
