use Rattle.std.proofs.Common.{◌∙◌, sym}
use Rattle.pam_dispatch.proofs.Places.{place_state}
use Rattle.pam_dispatch.proofs.program.Program.step_on.Goals as goal

pub returns-clause-state : goal.returns-clause-state
returns-clause-state c = sym (place_state c.args.self.now c.step_by.new.place c.step_by.ensures.place) ∙ c.step_by.ensures.state
