-- the first run is that of the queries so far
use Rattle.std.proofs.Common.{map, take}
use Rattle.pam_paths.specs.Known.{may_answer}
use Rattle.pam_policy.specs.rules.Site.{site_view}
use Rattle.pam_policy.specs.rules.inner.Choosing.{SaysFirst}
use Rattle.pam_policy.specs.rules.inner.Looking.{IsLateBarring}
use Rattle.pam_policy.specs.search.Witness.{IsGraphOf}
use Rattle.pam_policy.specs.text.Events.{event_view}
use Rattle.pam_policy.proofs.rules.site.Site.first_late.Given as goal

abbrev pub invariant-loop-marks : goal.invariant-loop-marks
invariant-loop-marks l =
    IsGraphOf (may_answer l.self.known.now) l.self.stack.now l.self.graph.now →
    SaysFirst (IsLateBarring (may_answer l.self.known.now) (site_view l.self) (map event_view l.later) (take l.marks-index l.marks-items)) l.first
