use Rattle.std.proofs.Common.{◌-◌, length, ap, rules, ◌∙◌}
use Rattle.std.specs.List.{slice_get}
use Rattle.plans.proofs.Facts.{last_ends}
use Rattle.plans.proofs.plans.ReadPlan.entry_count.Goals as goal

pub returns : goal.returns
returns c =
    last_ends c.args.self.now c.last.result c.map_or.result (c.last.ensures.value ∙ ap (λ rows. slice_get rows (length rows - 1)) c.rows.ensures.value)
    (search rules)
