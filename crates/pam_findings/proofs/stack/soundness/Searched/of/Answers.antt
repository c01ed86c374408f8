use Rattle.std.proofs.lemmas.Result.{err_from_is_err_and}
use Rattle.pam_paths.specs.Known.{may_answer}
use Rattle.pam_findings.proofs.StackProofs.Reasons.{failing-reason, free-reason}
use Rattle.pam_findings.proofs.stack.soundness.Searched.of.Goals as goal

pub returns-in_err-reached-clause-reason : goal.returns-in_err-reached-clause-reason
returns-in_err-reached-clause-reason c =
    let p = err_from_is_err_and c.from_residual-in_err-reached.result c.from_residual-in_err-reached.ensures.1 in
    rw (p.1, p.2)
    (free-reason (may_answer c.args.free.now) (may_answer c.args.failing.now) c.in_ok-program.program c.args.stack.now c.in_ok-program.ensures.runs
    c.in_err-reached.field-0.0 c.in_err-reached.ensures.reason)

pub returns-in_err-lets_anybody_in-clause-reason : goal.returns-in_err-lets_anybody_in-clause-reason
returns-in_err-lets_anybody_in-clause-reason c =
    let p = err_from_is_err_and c.from_residual-in_err-lets_anybody_in.result c.from_residual-in_err-lets_anybody_in.ensures.1 in
    rw (p.1, p.2)
    (failing-reason (may_answer c.args.free.now) (may_answer c.args.failing.now) c.in_ok-program.program c.args.stack.now c.in_ok-program.ensures.runs
    c.in_err-lets_anybody_in.field-0.0 c.in_err-lets_anybody_in.ensures.reason)
