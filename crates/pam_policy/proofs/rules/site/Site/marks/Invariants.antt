-- the modules so far have their marks, and the others none
use Rattle.std.proofs.Common.{map}
use Rattle.std.specs.List.{list_any}
use Rattle.pam_codes.specs.Set.{is_in}
use Rattle.pam_policy.specs.rules.Happening.{event_answers}
use Rattle.pam_policy.specs.rules.Site.{site_view}
use Rattle.pam_policy.specs.search.Marks.{codes_at}
use Rattle.pam_policy.specs.text.Events.{event_view}
use Rattle.pam_policy.proofs.RulesProofs.Marking.{AreBelow}
use Rattle.pam_policy.proofs.rules.site.Site.marks.Given as goal

abbrev pub invariant-loop-index : goal.invariant-loop-index
invariant-loop-index l =
    AreBelow (λ number code. list_any (λ event. is_in code (event_answers (site_view l.self) l.is_strict event number)) (map event_view l.events)) l.index
    (codes_at l.marks)
