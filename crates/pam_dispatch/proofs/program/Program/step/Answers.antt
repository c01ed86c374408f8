use Rattle.std.proofs.Common.{◌∙◌, ◌∷◌, ap, sym}
use Rattle.pam_dispatch.specs.Runs.{Runs, asked_by, final_state, next_ask}
use Rattle.pam_dispatch.specs.Flat.{rest_of}
use Rattle.pam_dispatch.proofs.Asking.{asked_by-answer, final_state-answer}
use Rattle.pam_dispatch.proofs.Places.{place_state}
use Rattle.pam_dispatch.proofs.program.Program.step.Goals as goal

pub returns-clause-run : goal.returns-clause-run
returns-clause-run c = λ answers is.
    ap (λ (r : Runs). final_state r answers) c.step_by-answered.ensures.rest ∙ final_state-answer answers c.args.code _ is

pub returns-clause-asks : goal.returns-clause-asks
returns-clause-asks c = λ answers is.
    let asked = next_ask (rest_of c.args.self.now c.args.place.now) in
    asked_by-answer answers c.args.code _ c.requires.asking is
    ∙ sym (ap (λ (r : Runs). asked ∷ asked_by r answers) c.step_by-answered.ensures.rest)

pub returns-clause-state : goal.returns-clause-state
returns-clause-state c =
    sym (place_state c.args.self.now c.step_by-answered.new.place c.step_by-answered.ensures.place) ∙ c.step_by-answered.ensures.state
