use Rattle.std.proofs.Common.{ap}
use Rattle.pam_policy.specs.host.Stacks.{known_site}
use Rattle.pam_policy.specs.needs.Choices.{IsSaid, MayNotFail}
use Rattle.pam_policy.proofs.NeedsProofs.Deciding.{is_plain, ok-iff, said-not, said-obeys, said-plain}
use Rattle.pam_policy.proofs.rules.site.Site.is_said.Goals as goal

pub returns-then-not-is_obeyed : goal.returns-then-not-is_obeyed
returns-then-not-is_obeyed c graphs =
    said-not (known_site c.args.self.now) c.args.event c.args.verb c.in_ok-is_obeyed-in-Obeys.is_obeyed c.in-Obeys.is c.if-not-is_obeyed.true
    (c.in_ok-is_obeyed-in-Obeys.ensures graphs)

pub returns-else-not-is_obeyed : goal.returns-else-not-is_obeyed
returns-else-not-is_obeyed c graphs =
    let known = known_site c.args.self.now in
    ok-iff (MayNotFail known c.args.event) (IsSaid known c.args.verb c.args.event) c.may_not_fail.result
    (λ b h. said-obeys known c.args.event c.args.verb c.in_ok-is_obeyed-in-Obeys.is_obeyed b c.in-Obeys.is c.if-not-is_obeyed.false
    (c.in_ok-is_obeyed-in-Obeys.ensures graphs) h) c.may_not_fail.ensures

pub returns-in-Needs : goal.returns-in-Needs
returns-in-Needs c graphs =
    said-plain (known_site c.args.self.now) c.args.event c.args.verb c.says.result (ap is_plain c.in-Needs.is) (c.says.ensures graphs)

pub returns-in-NeedsAsked : goal.returns-in-NeedsAsked
returns-in-NeedsAsked c graphs =
    said-plain (known_site c.args.self.now) c.args.event c.args.verb c.says-in-NeedsAsked.result (ap is_plain c.in-NeedsAsked.is)
    (c.says-in-NeedsAsked.ensures graphs)

pub returns-in-AlwaysAsks : goal.returns-in-AlwaysAsks
returns-in-AlwaysAsks c graphs =
    said-plain (known_site c.args.self.now) c.args.event c.args.verb c.says-in-AlwaysAsks.result (ap is_plain c.in-AlwaysAsks.is)
    (c.says-in-AlwaysAsks.ensures graphs)
