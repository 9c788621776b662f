use Rattle.std.proofs.Common.{arith, rules}
use Rattle.std.proofs.lemmas.Grind.{common_steps}
use Rattle.std.proofs.lemmas.List.{set-set, set-get_or}
use Rattle.boards.specs.Calls.{enter_answer, leave_answer}
use Rattle.boards.proofs.laws.leaving_undoes_entering.Goals as goal

pub returns : goal.returns
unfolding enter_answer leave_answer
returns c = λ n hs c p l g. (search rules, grind (arith, common_steps, set-set, set-get_or))
