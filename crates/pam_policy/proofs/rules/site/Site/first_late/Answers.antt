use Rattle.std.proofs.Common.{◌+◌, ◌∙◌, ap, map, refl, take}
use Rattle.pam_paths.specs.Known.{may_answer}
use Rattle.pam_policy.specs.rules.Site.{site_view}
use Rattle.pam_policy.specs.rules.inner.Marking.{part_view}
use Rattle.pam_policy.specs.text.Events.{event_view}
use Rattle.pam_policy.proofs.RulesProofs.Late.{late-all, late-more, late-none}
use Rattle.pam_policy.proofs.SearchProofs.Nodes.{item-of, taken-of}
use Rattle.pam_policy.proofs.rules.site.Site.first_late.Goals as goal

pub loop-marks-init : goal.loop-marks-init
loop-marks-init c of =
    late-none (may_answer c.args.self.now.known.now) (site_view c.args.self.now) of.numbered (part_view c.args.part.now)
    (map event_view c.args.later.now)

pub loop-marks-preserved : goal.loop-marks-preserved
loop-marks-preserved c of =
    let site = site_view c.args.self.now in
    let items = c.deref-marks-items.result.now in
    let i = c.loop-marks.marks-index in
    let marks = c.marks-item.result in
    let item = item-of items items i marks refl c.loop-marks-test.true c.marks-item.is in
    late-more (may_answer c.args.self.now.known.now) site of.numbered (part_view c.args.part.now) (map event_view c.args.later.now) (take i items)
    (take (i + 1) items) marks c.marks.result c.loop-marks.first c.in_ok-found.found c.first_of-first.result item.next c.marks.ensures
    (c.loop-marks.invariant of) (c.in_ok-found.ensures site.items of) c.first_of-first.ensures

pub returns : goal.returns
returns c of =
    let items = c.deref-marks-items.result.now in
    let barred = c.in_ok-barred.barred.items in
    let i = c.loop-marks.marks-index in
    late-all (may_answer c.args.self.now.known.now) (site_view c.args.self.now) of.numbered (part_view c.args.part.now) (map event_view c.args.later.now)
    barred c.in_ok-barred.ensures (take i items) c.loop-marks.first
    (ap (take i) c.deref-marks-items.ensures.value ∙ taken-of items barred i c.deref-marks-items.ensures.value c.loop-marks-test.false)
    (c.loop-marks.invariant of)
