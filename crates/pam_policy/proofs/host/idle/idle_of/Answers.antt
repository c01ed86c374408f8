use Rattle.std.proofs.Common.{◌∙◌, List, ℕ, map, subst, sym}
use Rattle.std.proofs.lemmas.Bool.{false≢true}
use Rattle.std.specs.Prelude.{None}
use Rattle.pam_policy.specs.host.Idle.{SaysIdle}
use Rattle.pam_policy.specs.host.Stacks.{site_of, stacks_view}
use Rattle.pam_policy.specs.text.Sentences.{sentence_view}
use Rattle.pam_policy.proofs.HostProofs.Among.{are-known, empty-idle, is-empty, neither, not-empty}
use Rattle.pam_policy.proofs.HostProofs.Idle.{none-held}
use Rattle.pam_policy.proofs.HostProofs.Known.{numbered-sites}
use Rattle.pam_policy.proofs.host.idle.idle_of.Goals as goal

pub returns-then-is_empty-clause-idle : goal.returns-then-is_empty-clause-idle
returns-then-is_empty-clause-idle c graphs are say =
    empty-idle (stacks_view c.args.stacks.now) (sentence_view c.args.sentence.now) c.args.classes.now
    (is-empty c.args.classes.now (sym c.is_empty.ensures ∙ c.if-is_empty.true))

pub returns-then-not-all_hold-clause-idle : goal.returns-then-not-all_hold-clause-idle
returns-then-not-all_hold-clause-idle c graphs are say =
    let stacks = stacks_view c.args.stacks.now in
    let sentence = sentence_view c.args.sentence.now in
    let reports = c.args.reports.now in
    subst (λ (classes : List ℕ). SaysIdle (map (site_of stacks) classes) sentence None) are
    (none-held stacks sentence reports (numbered-sites c.args.stacks.now (map (λ report. report.class) reports) graphs)
    (sym c.all_hold.ensures ∙ c.if-not-all_hold.true) say)

pub returns-then-cannot_happen-clause-idle : goal.returns-then-cannot_happen-clause-idle
returns-then-cannot_happen-clause-idle c graphs are say =
    let classes = c.args.classes.now in (
      are-known (stacks_view c.args.stacks.now) (sentence_view c.args.sentence.now) c.args.reports.now classes
          (not-empty classes (sym c.is_empty.ensures ∙ c.if-is_empty.false)) are (sym c.all_hold.ensures ∙ c.if-not-all_hold.false) say,
      (c.in_ok-cannot_happen.ensures.idle graphs).0 c.if-cannot_happen.true,
    )

pub returns-then-cannot_end-clause-idle : goal.returns-then-cannot_end-clause-idle
returns-then-cannot_end-clause-idle c graphs are say =
    let classes = c.args.classes.now in (
      are-known (stacks_view c.args.stacks.now) (sentence_view c.args.sentence.now) c.args.reports.now classes
          (not-empty classes (sym c.is_empty.ensures ∙ c.if-is_empty.false)) are (sym c.all_hold.ensures ∙ c.if-not-all_hold.false) say,
      (c.in_ok-cannot_end.ensures.idle graphs).0 c.if-cannot_end.true,
      λ idle. false≢true (sym c.if-cannot_happen.false ∙ (c.in_ok-cannot_happen.ensures.idle graphs).1 idle),
    )

pub returns-clause-idle : goal.returns-clause-idle
returns-clause-idle c graphs are say =
    let stacks = stacks_view c.args.stacks.now in
    neither (map (site_of stacks) c.args.classes.now) (sentence_view c.args.sentence.now) _ _ c.if-cannot_happen.false c.if-cannot_end.false
    (c.in_ok-cannot_happen.ensures.idle graphs) (c.in_ok-cannot_end.ensures.idle graphs)
