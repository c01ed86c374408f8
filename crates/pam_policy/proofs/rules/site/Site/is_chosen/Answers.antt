use Rattle.std.proofs.Common.{false}
use Rattle.pam_policy.specs.declared.needs.choices.Choice.TheVariants.{Vouching}
use Rattle.pam_policy.specs.host.Stacks.{known_site}
use Rattle.pam_policy.specs.needs.Choices.{IsChosen, IsLeft}
use Rattle.pam_policy.proofs.NeedsProofs.Deciding.{always-chosen, as-choice, obeyed-chosen, ok-iff, said-chosen, vouching-left, vouching-not}
use Rattle.pam_policy.proofs.rules.site.Site.is_chosen.Goals as goal

pub returns-in-Needed : goal.returns-in-Needed
returns-in-Needed c graphs =
    said-chosen (known_site c.args.self.now) c.args.event c.args.choice c.is_said_first.result c.in-Needed.is (c.is_said_first.ensures graphs)

pub returns-then-not-is_vouching : goal.returns-then-not-is_vouching
returns-then-not-is_vouching c graphs =
    as-choice (known_site c.args.self.now) c.args.event c.args.choice Vouching false c.in-Vouching.is
    (vouching-not (known_site c.args.self.now) c.args.event c.is_vouching.result c.if-not-is_vouching.true c.is_vouching.ensures)

pub returns-else-not-is_vouching : goal.returns-else-not-is_vouching
returns-else-not-is_vouching c graphs =
    let known = known_site c.args.self.now in
    ok-iff (IsLeft known c.args.event) (IsChosen known c.args.choice c.args.event) c.is_left.result
    (λ b h. as-choice known c.args.event c.args.choice Vouching b c.in-Vouching.is
    (vouching-left known c.args.event c.is_vouching.result b c.if-not-is_vouching.false c.is_vouching.ensures h)) (c.is_left.ensures graphs)

pub returns-in-Obeyed : goal.returns-in-Obeyed
returns-in-Obeyed c graphs =
    obeyed-chosen (known_site c.args.self.now) c.args.event c.args.choice c.is_said_first-in-Obeyed.result c.in-Obeyed.is
    (c.is_said_first-in-Obeyed.ensures graphs)

pub returns-in-AlwaysAsked : goal.returns-in-AlwaysAsked
returns-in-AlwaysAsked c graphs =
    always-chosen (known_site c.args.self.now) c.args.event c.args.choice c.is_said_first-in-AlwaysAsked.result c.in-AlwaysAsked.is
    (c.is_said_first-in-AlwaysAsked.ensures graphs)
