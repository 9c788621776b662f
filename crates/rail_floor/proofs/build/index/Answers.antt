use Rattle.std.proofs.Common.{get_or, vec_items, sym, refl, ap, ◌∙◌, arith, below_more}
use Rattle.rail_floor.proofs.Indexed.{below_next}
use Rattle.rail_floor.proofs.build.index.Goals as goal

pub loop-place-preserved : goal.loop-place-preserved
loop-place-preserved c = (
  omega (arith, c.in_ok-push.ensures.len),
  omega (arith, below_next c.args.legs.now c.loop-place.place, c.legs_below-next.ensures.count),
  below_more _ _ (λ k h. c.push.ensures.by_index.0 k 0 (omega arith) ∙ c.loop-place.invariant.2 k h)
      (ap (λ k. get_or (vec_items c.push.new.self) k 0) (sym c.loop-place.invariant.0) ∙ (c.in_ok-push.ensures.by_index.1 0 refl ∙ c.legs_below-next.ensures.count)),
)
