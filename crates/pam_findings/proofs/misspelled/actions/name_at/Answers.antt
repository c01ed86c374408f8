use Rattle.std.proofs.Common.{◌∙◌, Some, ap, sym}
use Rattle.pam_findings.proofs.MisspelledProofs.NearestActions.{name-is}
use Rattle.pam_findings.proofs.misspelled.actions.name_at.Goals as goal

pub returns : goal.returns
returns c = name-is c.args.place (c.number_at.result.0.now, c.number_at.result.1.now) c.number_at.ensures ∙ ap Some (sym c.as_bytes.ensures.value)
