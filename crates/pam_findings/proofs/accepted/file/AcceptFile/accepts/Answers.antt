use Rattle.pam_findings.proofs.AcceptedProofs.KeySteps.{looked_up}
use Rattle.pam_findings.proofs.accepted.file.AcceptFile.accepts.Goals as goal

pub returns : goal.returns
returns c =
    looked_up (λ key. key.items) c.args.key.now c.self.inside.keys.keys c.self.inside.lines.items c.args.self.now _
    c.self.invariant c.self.view_is c.contains.ensures
