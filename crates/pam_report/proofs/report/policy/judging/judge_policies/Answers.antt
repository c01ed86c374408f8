use Rattle.std.proofs.Common.{◌≡◌, ◌∙◌, All, ap, map, subst}
use Rattle.std.specs.Option.{option_map}
use Rattle.std.specs.Prelude.{IfOk}
use Rattle.pam_policy.specs.host.Told.{told_stacks}
use Rattle.pam_policy.specs.names.Calls.{calls_in}
use Rattle.pam_policy.specs.names.Host.{HostText, call_view}
use Rattle.pam_report.proofs.PolicySteps.{host-is}
use Rattle.pam_report.specs.Policy.{IsJudgedBy}
use Rattle.pam_report.proofs.report.policy.judging.judge_policies.Goals as goal

pub returns-clause-reports : goal.returns-clause-reports
returns-clause-reports c =
    let asked = c.args.asked.now in
    let calls : map call_view c.deref.result.now ≡ calls_in asked.files.now =
    ap (map call_view) c.deref.ensures.value ∙ c.in_ok-calls.ensures ∙ ap calls_in c.in_ok-files.ensures in
    let host : HostText = record {
      services = c.args.stacks.now.services;
      calls = map call_view c.deref.result.now;
      known = c.in_ok-known.known;
      there = option_map (λ paths. paths.now) c.there.result;
    } in
    let same = host-is asked.files.now asked.inputs.now c.args.facts.now host c.requires.services calls c.in_ok-known.ensures c.there.ensures in
    subst (λ (h : HostText). IfOk c.judge_each.result (λ judged. All (IsJudgedBy h (told_stacks c.args.facts.now c.args.stacks.now)) judged.items)) same
    c.judge_each.ensures.reports
