use Rattle.std.proofs.Common.{◌≡◌, ◌≤◌, ◌++◌, length, take, drop, vec_items}
use Rattle.plans.specs.Plan.{entries_of}
use Rattle.plans.specs.Held.{routes_of}
use Rattle.plans.proofs.tables.Tables.write_entries.Given as goal

abbrev pub invariant-loop-carrier : goal.invariant-loop-carrier
invariant-loop-carrier l = record {
  place : l.at ≡ length (entries_of (take l.carrier-index (routes_of l.fitting.carriers.now)));
  within : l.at ≤ 2048;
  entries : vec_items l.self.entries ≡ entries_of (take l.carrier-index (routes_of l.fitting.carriers.now)) ++ drop l.at (vec_items l.initial.self.entries);
  rows : l.self.rows ≡ l.initial.self.rows;
}
