use Rattle.std.proofs.Common.{◌∙◌, false, true}
use Rattle.std.specs.Prelude.{option_map}
use Rattle.pam_paths.specs.Known.{may_answer}
use Rattle.pam_policy.specs.rules.Judging.{IsSettledBy}
use Rattle.pam_policy.specs.rules.Settling.{loose, strict}
use Rattle.pam_policy.specs.rules.Site.{site_view}
use Rattle.pam_policy.specs.rules.inner.Choosing.{SaysFirst}
use Rattle.pam_policy.specs.rules.inner.Looking.{AimText, IsMet}
use Rattle.pam_policy.specs.rules.inner.Marking.{part_view}
use Rattle.pam_policy.specs.text.Lists.{events_view}
use Rattle.pam_policy.specs.text.Sentences.{Can, condition_view, decisions}
use Rattle.pam_policy.proofs.RulesProofs.Judging.{aim-same, can-first, parts-of}
use Rattle.pam_policy.proofs.RulesProofs.Lists.{ok-map}
use Rattle.pam_policy.proofs.rules.site.Site.first_showing.Goals as goal

pub returns-clause-first : goal.returns-clause-first
returns-clause-first c of =
    let site = site_view c.args.self.now in
    let allows = may_answer c.args.self.now.known.now in
    let condition = c.args.condition.now in
    let with_part = option_map part_view c.part_of.result in
    let without_part = option_map part_view c.part_of-2.result in
    let aim : AimText = record { decisions = c.decisions.result; with = with_part; without = without_part } in
    let same = aim-same c.decisions.result (decisions condition.ending site.kind) with_part (option_map strict (option_map events_view condition.with))
    without_part (option_map loose (option_map events_view condition.without)) c.decisions.ensures (c.part_of.ensures ∙ parts-of true condition.with)
    (c.part_of-2.ensures ∙ parts-of false condition.without) in
    ok-map (SaysFirst (IsMet allows site aim)) (SaysFirst (IsSettledBy allows site (Can (condition_view condition)))) c.first_run.result
    (λ found h. can-first allows site (condition_view condition) aim found same h) (c.first_run.ensures.first of)
