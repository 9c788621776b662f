-- Each carrier holds none exactly where no place is held, by the law that holders are below 32.
use Rattle.std.proofs.Common.{◌≡◌, ◌<◌, refl, rules, tests}
use Rattle.std.proofs.lemmas.Iterator.{cases_from_all, YieldsList-from_range}
use Rattle.boards.specs.Holders.{held}
use Rattle.boards.proofs.Emptiness.{each_none}
use Rattle.boards.proofs.empty.is_empty.Goals as goal

pub returns : goal.returns
returns g c =
    let b = c.args.board.now in
    let hs = g.B.Board.holders b in
    each_none _ hs (g.met.B.Board.known b) (cases_from_all _ _ _ (λ k. k < 32 → held hs k ≡ 0) (λ k. k < 32 → 0 < held hs k) c.all.ensures.ran (YieldsList-from_range 0 32 32 refl refl) (λ x q k. search (rules, tests)) (λ x q k. search (rules, tests)))
