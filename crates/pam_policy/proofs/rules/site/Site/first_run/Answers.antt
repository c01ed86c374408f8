use Rattle.std.proofs.Common.{◌+◌, ◌∙◌, Option, ap, refl, subst, take}
use Rattle.pam_paths.specs.Known.{may_answer}
use Rattle.pam_policy.specs.rules.Happening.{PartText}
use Rattle.pam_policy.specs.rules.Site.{site_view}
use Rattle.pam_policy.specs.rules.inner.Aims.{aim_view}
use Rattle.pam_policy.specs.rules.inner.Looking.{AreBarred}
use Rattle.pam_policy.proofs.RulesProofs.Looking.{barring-all, barring-more, barring-none}
use Rattle.pam_policy.proofs.RulesProofs.Parts.{part-of-ref}
use Rattle.pam_policy.proofs.SearchProofs.Nodes.{item-of, taken-of}
use Rattle.pam_policy.proofs.rules.site.Site.first_run.Goals as goal

pub loop-marks-init : goal.loop-marks-init
loop-marks-init c of =
    barring-none (may_answer c.args.self.now.known.now) (site_view c.args.self.now) of.numbered (aim_view c.args.aim.now)

pub loop-marks-preserved : goal.loop-marks-preserved
loop-marks-preserved c of =
    let site = site_view c.args.self.now in
    let items = c.deref-marks-items.result.now in
    let i = c.loop-marks.marks-index in
    let marks = c.marks-item.result in
    let item = item-of items items i marks refl c.loop-marks-test.true c.marks-item.is in
    barring-more (may_answer c.args.self.now.known.now) site of.numbered (aim_view c.args.aim.now) (take i items) (take (i + 1) items) marks
    c.in_ok-query.query c.loop-marks.first c.in_ok-found.found c.first_of-first.result item.next c.in_ok-query.ensures.query (c.loop-marks.invariant of)
    (c.in_ok-found.ensures site.items of) c.first_of-first.ensures

pub returns-clause-first : goal.returns-clause-first
returns-clause-first c of =
    let site = site_view c.args.self.now in
    let aim = aim_view c.args.aim.now in
    let items = c.deref-marks-items.result.now in
    let barred = c.in_ok-barred.barred.items in
    let i = c.loop-marks.marks-index in
    let are = subst (λ (part : Option PartText). AreBarred site part barred)
    (part-of-ref c.as_ref.result c.args.aim.now.without c.as_ref.ensures.value) c.in_ok-barred.ensures in
    barring-all (may_answer c.args.self.now.known.now) site of.numbered aim (take i items) barred c.loop-marks.first
    (ap (take i) c.deref-marks-items.ensures.value ∙ taken-of items barred i c.deref-marks-items.ensures.value c.loop-marks-test.false) are
    (c.loop-marks.invariant of)
