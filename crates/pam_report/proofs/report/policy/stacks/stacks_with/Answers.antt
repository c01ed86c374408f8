use Rattle.std.proofs.Common.{subst}
use Rattle.pam_conf.specs.Services.{services_in}
use Rattle.pam_policy.specs.host.HostStacks.{AreHostStacks, WhyNoStacks}
use Rattle.pam_policy.specs.host.Sources.{SourcesText}
use Rattle.pam_report.proofs.PolicyAnswers.{refused-stacks}
use Rattle.pam_report.proofs.report.policy.stacks.stacks_with.Goals as goal

pub returns-in-Ok : goal.returns-in-Ok
returns-in-Ok c = subst (λ (s : SourcesText). AreHostStacks s c.in-Ok.stacks) c.host_sources-sources.ensures c.in-Ok.ensures.stacks

pub returns-in-Err : goal.returns-in-Err
returns-in-Err c =
    refused-stacks _ c.in-Err.error c.stacks_fault.result c.stacks_fault.ensures
    (subst (λ (s : SourcesText). WhyNoStacks s (services_in s.folder.form s.folder.entries) c.in-Err.error) c.host_sources-sources.ensures
    c.in-Err.ensures.reason)
