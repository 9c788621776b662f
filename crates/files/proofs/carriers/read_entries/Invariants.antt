use Rattle.std.proofs.Common.{◌≡◌, ◌-◌, ◌*◌, vec_items, vec_len}
use Rattle.files.specs.Parse.{entries_at}
use Rattle.files.specs.Position.{further}
use Rattle.files.proofs.Listed.{after}
use Rattle.files.proofs.carriers.read_entries.Given as goal

abbrev pub invariant-loop : goal.invariant-loop
invariant-loop l = record {
  moved : l.cursor ≡ further l.fn.cursor (2 * l.counter);
  many : vec_len l.entries ≡ l.counter;
  read : entries_at l.fn.cursor.bytes l.fn.cursor.record_at l.fn.cursor.at l.last l.count ≡ after (vec_items l.entries) (entries_at l.cursor.bytes l.cursor.record_at l.cursor.at l.last (l.count - l.counter));
}
