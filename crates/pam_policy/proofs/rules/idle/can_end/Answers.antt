use Rattle.std.proofs.Common.{None}
use Rattle.pam_paths.specs.Known.{may_answer}
use Rattle.pam_policy.specs.rules.Site.{site_view}
use Rattle.pam_policy.specs.rules.inner.Looking.{AimText, IsMet}
use Rattle.pam_policy.specs.text.Sentences.{sentence_view}
use Rattle.pam_policy.proofs.RulesProofs.Idle.{end-met, iff-same, met-end, some-run}
use Rattle.pam_policy.proofs.rules.idle.can_end.Goals as goal

pub returns-clause-can : goal.returns-clause-can
returns-clause-can c of =
    let site = site_view c.args.site.now in
    let allows = may_answer c.args.site.now.known.now in
    let sentence = sentence_view c.args.sentence.now in
    let codes = c.decisions.result in
    let aim : AimText = record { decisions = codes; with = None; without = None } in
    iff-same (some-run (IsMet allows site aim) c.in_ok-found.found c.is_some.result c.is_some.ensures (c.in_ok-found.ensures.first of))
    (met-end allows site sentence codes c.decisions.ensures) (end-met allows site sentence codes c.decisions.ensures)
