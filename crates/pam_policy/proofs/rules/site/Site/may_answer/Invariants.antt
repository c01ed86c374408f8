use Rattle.pam_policy.specs.host.Stacks.{known_site}
use Rattle.pam_policy.specs.text.Events.{event_view}
use Rattle.pam_policy.proofs.NeedsProofs.Deciding.{NoneTo}
use Rattle.pam_policy.proofs.rules.site.Site.may_answer.Given as goal

-- none of the modules so far may answer so
abbrev pub invariant-loop-index : goal.invariant-loop-index
invariant-loop-index l = NoneTo (known_site l.self) (event_view l.event) l.index
