use Rattle.std.proofs.Common.{◌≡◌, None}
use Rattle.plans.specs.Held.{plan_of}
use Rattle.rules.proofs.Rows.{foreign, foreign_at, foreign_to}
use Rattle.laws.specs.Rules.{first}
use Rattle.rules.proofs.search.foreign_goal.Given as goal

abbrev pub invariant-loop-carrier : goal.invariant-loop-carrier
invariant-loop-carrier l = first l.carrier (foreign (plan_of l.plan)) ≡ None

abbrev pub invariant-loop-t : goal.invariant-loop-t
invariant-loop-t l = (first l.carrier (foreign (plan_of l.plan)) ≡ None) × (first l.t (foreign_at (plan_of l.plan) l.carrier) ≡ None)

abbrev pub invariant-loop-owner : goal.invariant-loop-owner
invariant-loop-owner l = (first l.carrier (foreign (plan_of l.plan)) ≡ None) × (first l.t (foreign_at (plan_of l.plan) l.carrier) ≡ None) × (first l.owner (foreign_to (plan_of l.plan) l.carrier l.t) ≡ None)
