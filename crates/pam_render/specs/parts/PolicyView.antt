-- Rules and findings of policies and their lines, as values.
use Rattle.std.specs.Prelude.{map}
use Rattle.pam_policy.specs.host.Findings.{finding_view}
use Rattle.pam_render.specs.parts.Policy as spec
use Rattle.pam_render.specs.declared.parts.policy.told.PolicyHost.{PolicyHost}
use Rattle.pam_render.specs.declared.parts.policy.told.ToldFinding.{ToldFinding}
use Rattle.pam_render.specs.declared.parts.policy.told.ToldRule.{ToldRule}
use Rattle.pam_render.specs.declared.parts.policy.line.PolicyLine.{PolicyLine}
use Rattle.pam_render.specs.declared.parts.policy.line.PolicyLine.TheVariants as lines
use Rattle.pam_report.specs.ReplyViews.{side_files}

abbrev pub host_view : PolicyHost → spec.Host
host_view host = record {
  files = side_files host.files;
  services = map (λ service. service.now) host.services.items;
  places = host.places.now;
  classes = host.classes.now;
}

abbrev pub rule_view : ToldRule → spec.ToldRule
rule_view rule = record { policy = rule.policy.now; line = rule.line; text = rule.text.now; report = rule.report.now }

abbrev pub told_view : ToldFinding → spec.ToldFinding
told_view told = record { rule = rule_view told.rule; finding = finding_view told.finding; places = told.places.items }

abbrev pub line_view : PolicyLine → spec.Line
line_view (lines.Found host told) = spec.Found (host_view host.now) (told_view told.now)
line_view (lines.Judged rule) = spec.Judged (rule_view rule)
line_view (lines.Last rules stacks counts) = spec.Last rules stacks counts
