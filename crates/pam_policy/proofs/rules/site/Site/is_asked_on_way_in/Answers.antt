use Rattle.pam_policy.specs.host.Stacks.{known_site}
use Rattle.pam_policy.proofs.NeedsProofs.Deciding.{asked-needed, asked-not, asked-unless}
use Rattle.pam_policy.proofs.rules.site.Site.is_asked_on_way_in.Goals as goal

pub returns-then-not-is_asked : goal.returns-then-not-is_asked
returns-then-not-is_asked c graphs =
    asked-not (known_site c.args.self.now) c.args.event c.in_ok-is_asked.is_asked c.if-not-is_asked.true (c.in_ok-is_asked.ensures graphs)

pub returns-then-is_needed : goal.returns-then-is_needed
returns-then-is_needed c graphs =
    asked-needed (known_site c.args.self.now) c.args.event c.in_ok-is_needed.is_needed c.if-is_needed.true (c.in_ok-is_needed.ensures graphs)

pub returns : goal.returns
returns c graphs =
    asked-unless (known_site c.args.self.now) c.args.event c.in_ok-is_asked.is_asked c.in_ok-is_needed.is_needed c.in_ok-is_always.is_always
    c.if-not-is_asked.false (c.in_ok-is_asked.ensures graphs) c.if-is_needed.false (c.in_ok-is_needed.ensures graphs)
    (c.in_ok-is_always.ensures graphs)
