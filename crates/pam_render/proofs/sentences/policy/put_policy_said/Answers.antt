use Rattle.std.proofs.Common.{ap, sym}
use Rattle.std.specs.List.{flat_map}
use Rattle.pam_codes.proofs.Writing.{writes-is}
use Rattle.pam_policy.specs.declared.host.finding.Finding.{Finding}
use Rattle.pam_policy.specs.host.Findings.{finding_view}
use Rattle.pam_render.specs.parts.PolicyView.{host_view}
use Rattle.pam_render.specs.sentences.Policy.{finding_phrases}
use Rattle.pam_render.proofs.sentences.policy.put_policy_said.Goals as goal

pub returns-in-Impossible : goal.returns-in-Impossible
returns-in-Impossible g c =
    let host = host_view c.args.host.now in
    writes-is _ _ _ _ _ _ c.put_rule.ensures
    (ap (λ (finding : Finding). flat_map g.F.Phrases.text (finding_phrases host c.args.rule.now (finding_view finding))) (sym c.in-Impossible.is))
