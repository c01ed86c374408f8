use Rattle.pam_policy.specs.declared.needs.choices.Choice.TheVariants.{Guarding}
use Rattle.pam_policy.specs.declared.needs.sentences.Verb.TheVariants.{Obeys}
use Rattle.pam_policy.specs.host.Stacks.{known_site}
use Rattle.pam_policy.specs.needs.Choices.{CanFail, IsChosen, SaysOf}
use Rattle.pam_policy.proofs.NeedsProofs.Deciding.{guarding-needed, guarding-not, guarding-obeyed, ok-iff}
use Rattle.pam_policy.proofs.rules.site.Site.is_guarding.Goals as goal

pub returns-then-is_vouching : goal.returns-then-is_vouching
returns-then-is_vouching c graphs =
    guarding-not (known_site c.args.self.now) c.args.event c.is_vouching.result c.if-is_vouching.true c.is_vouching.ensures

pub returns-then-not-is_left : goal.returns-then-not-is_left
returns-then-not-is_left c graphs =
    guarding-needed (known_site c.args.self.now) c.args.event c.in_ok-is_left.is_left c.if-not-is_left.true (c.in_ok-is_left.ensures graphs)

pub returns : goal.returns
returns c graphs =
    let known = known_site c.args.self.now in
    ok-iff (SaysOf known Obeys c.args.event × CanFail known c.args.event) (IsChosen known Guarding c.args.event) c.is_obeyed.result
    (λ b h. guarding-obeyed known c.args.event c.is_vouching.result c.in_ok-is_left.is_left b c.if-is_vouching.false c.is_vouching.ensures
    c.if-not-is_left.false (c.in_ok-is_left.ensures graphs) h) (c.is_obeyed.ensures graphs)
