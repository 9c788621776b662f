use Rattle.std.proofs.Common.{refl}
use Rattle.floors.specs.Exits.{has}
use Rattle.boards.specs.Holders.{held}
use Rattle.boards.specs.Calls.{enter_answer, leave_answer}
use Rattle.laws.specs.Paths.{entry, last, legs}
use Rattle.rail_floor.specs.Rails.{exits_of}
use Rattle.laws.specs.Rules.{no_path, wrong_end, no_leg, first_equal, foreign_goal}
use Rattle.laws.specs.Naming.{first_chain, first_wait, named}
use Rattle.laws.specs.Judging.{taken, unfinished, can_move, came, reachable, still, lowest_standstill, last_mover, way}
use Rattle.laws.specs.Runs.{turned, distance, opened}
use Rattle.laws.proofs.example_laws.worked_plans.Goals as goal

pub returns : goal.returns
unfolding has exits_of no_path wrong_end no_leg first_equal held enter_answer leave_answer entry last legs foreign_goal first_chain first_wait named taken unfinished can_move came reachable still lowest_standstill last_mover way turned distance opened
returns c = refl
