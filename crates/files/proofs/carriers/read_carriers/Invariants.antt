use Rattle.std.proofs.Common.{◌≡◌, ◌-◌, ◌≤◌, vec_len}
use Rattle.files.specs.Parse.{carriers_at}
use Rattle.files.specs.Reading.{carriers_in}
use Rattle.files.proofs.Listed.{after}
use Rattle.files.proofs.carriers.read_carriers.Given as goal

abbrev pub invariant-loop-carriers : goal.invariant-loop-carriers
invariant-loop-carriers l = record {
  few : vec_len l.carriers ≤ 32;
  room : l.room ≤ 2048;
  read : carriers_at l.fn.cursor.bytes l.fn.cursor.at l.size 2048 32 ≡ after (carriers_in l.carriers) (carriers_at l.cursor.bytes l.cursor.at l.size l.room (32 - vec_len l.carriers));
}

abbrev pub decreases-loop-carriers : goal.decreases-loop-carriers
decreases-loop-carriers l = 32 - vec_len l.carriers
