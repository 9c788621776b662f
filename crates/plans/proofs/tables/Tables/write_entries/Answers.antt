use Rattle.std.proofs.Common.{◌+◌, ◌-◌, ◌++◌, length, take, drop, vec_items, sym, ap, ◌∙◌, arith, rules, length-append}
use Rattle.plans.specs.Plan.{entries_of}
use Rattle.plans.specs.Tables.{filled}
use Rattle.plans.specs.Held.{routes_of}
use Rattle.plans.proofs.Writing.{part_laid, filled_laid}
use Rattle.plans.proofs.Routes.{entries_more, entries_within, all_taken}
use Rattle.plans.proofs.tables.Tables.write_entries.Goals as goal

pub loop-carrier-preserved : goal.loop-carrier-preserved
loop-carrier-preserved c =
    let cs = c.args.fitting.now.carriers.now in
    let i = c.loop-carrier.carrier-index in
    let x = c.carrier-item.result in
    let n = c.len-count.result in
    let front = entries_of (take i (routes_of cs)) in
    let old = vec_items c.args.self.now.entries in
    let within = entries_within cs i x c.loop-carrier-test.true c.carrier-item.is 2048 c.args.fitting.now.short in
    let more = entries_more cs i x c.loop-carrier-test.true c.carrier-item.is in
    let count = c.len-count.ensures ∙ x.path.ok.0 in
    record {
      place = omega (arith, ap length more, length-append front (vec_items x.path));
      within = omega arith;
      entries =
          part_laid front old c.loop-carrier.at c.loop-carrier.invariant.place c.loop-carrier.self.entries c.loop-carrier.invariant.entries _ _ _ _ n
          c.deref_mut.ensures.value (c.copy_from_slice.ensures.after ∙ c.deref.ensures.value) count (omega arith) (omega (arith, c.args.self.now.long, c.args.self.now.entries.ok.0))
          ∙ ap (λ zs. zs ++ drop (c.loop-carrier.at + n) old) (sym more);
      rows = c.loop-carrier.invariant.rows;
    }

pub returns-clause-entries : goal.returns-clause-entries
returns-clause-entries c =
    let old = vec_items c.args.self.now.entries in
    let i = c.loop-carrier.carrier-index in
    filled_laid (entries_of (take i (routes_of c.args.fitting.now.carriers.now))) old c.loop-carrier.at c.loop-carrier.invariant.place c.loop-carrier.self.entries c.loop-carrier.invariant.entries _ _ 2048 (2048 - c.loop-carrier.at) 0
    c.deref_mut-2.ensures.value (c.fill.ensures.after (λ y h. search rules)) (omega arith) (omega (arith, c.args.self.now.long, c.args.self.now.entries.ok.0))
    ∙ ap (λ rs. filled 2048 0 (entries_of rs) ++ drop 2048 old) (all_taken c.args.fitting.now.carriers.now i c.loop-carrier-test.false)
