-- What an aim says.
use Rattle.plans.specs.Plan.{Plan}
use Rattle.plans.specs.Held.{plan_of}
use Rattle.pruning.specs.declared.aim.Aim.{Aim}
use Rattle.pruning.specs.Back.{Scope, scope}

-- the plan whose legs are gone through
abbrev pub plan_in : Aim → Plan
plan_in a = plan_of a.plan.now

-- which of them may follow
abbrev pub scope_in : Aim → Scope
scope_in a = scope a.low a.dropped.now
