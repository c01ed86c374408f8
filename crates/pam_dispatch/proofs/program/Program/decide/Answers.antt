use Rattle.std.proofs.Common.{◌∙◌, ap}
use Rattle.pam_dispatch.specs.Decision.{decision_of}
use Rattle.pam_dispatch.specs.Runs.{Runs, answers_of, final_state}
use Rattle.pam_dispatch.proofs.OpenRuns.{decision_of-runs_of_stack}
use Rattle.pam_dispatch.proofs.program.Program.decide.Goals as goal

pub returns-clause-stack : goal.returns-clause-stack
returns-clause-stack c = λ items is.
    c.decision_by.ensures
    ∙ ap (λ (r : Runs). decision_of (final_state r (answers_of c.args.codes.now))) is
    ∙ decision_of-runs_of_stack items (answers_of c.args.codes.now)
