use Rattle.std.proofs.Common.{◌≡◌, ◌≤◌, ◌++◌, length, take, drop, vec_items}
use Rattle.plans.specs.Plan.{entries_of}
use Rattle.plans.specs.Tables.{rows_of}
use Rattle.plans.specs.Held.{routes_of}
use Rattle.plans.proofs.tables.Tables.write_rows.Given as goal

abbrev pub invariant-loop-c : goal.invariant-loop-c
invariant-loop-c l = record {
  entries_before : l.before ≡ length (entries_of (take l.c (routes_of l.fitting.carriers.now)));
  within : l.before ≤ 2048;
  rows : vec_items l.self.rows ≡ rows_of 0 (take l.c (routes_of l.fitting.carriers.now)) ++ drop l.c (vec_items l.initial.self.rows);
  entries : l.self.entries ≡ l.initial.self.entries;
}
