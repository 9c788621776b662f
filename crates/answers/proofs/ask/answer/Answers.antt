use Rattle.std.proofs.Common.{Ok, Result, sym, ap, ◌∙◌}
use Rattle.std.proofs.lemmas.Result.{err_from_is_err_and}
use Rattle.plans.specs.Plan.{Plan}
use Rattle.plans.specs.Held.{plan_of}
use Rattle.files.specs.declared.faults.FileFault.{FileFault}
use Rattle.files.specs.Parse.{parse}
use Rattle.answers.specs.declared.answer.Account.{Account}
use Rattle.answers.specs.Told.{told}
use Rattle.answers.proofs.Telling.{read_is, refused_is, never_short}
use Rattle.answers.proofs.ask.answer.Goals as goal

pub returns-in_err-rows : goal.returns-in_err-rows
returns-in_err-rows c =
    let p = err_from_is_err_and c.from_residual-in_err-rows.result c.from_residual-in_err-rows.ensures.1 in
    rw p.1 tt

pub returns-in-Ok : goal.returns-in-Ok
returns-in-Ok c =
    let e = read_is _ _ c.in_ok-entries.ensures.len c.in_ok-rows.ensures.len (parse c.args.bytes.now) (plan_of c.in-Ok.plan) c.in-Ok.ensures.0 in
    ap (λ (a : Account). record { 0 = Ok a }) c.from.ensures ∙ sym (ap (λ (x : Result Plan FileFault). told x) e)

pub returns-in-File : goal.returns-in-File
returns-in-File c =
    let e = refused_is _ _ c.in_ok-entries.ensures.len c.in_ok-rows.ensures.len (parse c.args.bytes.now) c.in-Err.refused.fault c.in-File.fault c.in-File.is c.in-Err.ensures.2 in
    sym (ap (λ (x : Result Plan FileFault). told x) e)

pub unreachable-requires : goal.unreachable-requires
unreachable-requires c =
    never_short _ _ c.in_ok-entries.ensures.len c.in_ok-rows.ensures.len (parse c.args.bytes.now) c.in-Err.refused.fault c.in-Short.field-0 c.in-Short.is c.in-Err.ensures.2
