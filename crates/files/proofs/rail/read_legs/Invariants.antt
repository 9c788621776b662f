use Rattle.std.proofs.Common.{◌≡◌, ◌-◌, ◌*◌, None, vec_items, vec_len}
use Rattle.files.specs.Parse.{legs_at}
use Rattle.files.specs.Position.{further}
use Rattle.files.proofs.Listed.{after}
use Rattle.files.proofs.rail.read_legs.Given as goal

abbrev pub invariant-loop : goal.invariant-loop
invariant-loop l = record {
  moved : l.cursor ≡ further l.fn.cursor (6 * l.counter);
  many : vec_len l.legs ≡ l.counter;
  read : legs_at l.fn.cursor.bytes l.fn.cursor.record_at l.fn.cursor.at l.size None l.count ≡ after (vec_items l.legs) (legs_at l.cursor.bytes l.cursor.record_at l.cursor.at l.size l.before (l.count - l.counter));
}
