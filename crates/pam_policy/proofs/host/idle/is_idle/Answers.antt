use Rattle.std.proofs.Common.{◌∙◌, sym}
use Rattle.pam_policy.specs.host.Stacks.{stacks_view}
use Rattle.pam_policy.specs.text.Sentences.{sentence_view}
use Rattle.pam_policy.proofs.HostProofs.Among.{idle-unless}
use Rattle.pam_policy.proofs.host.idle.is_idle.Goals as goal

pub returns-clause-idle : goal.returns-clause-idle
returns-clause-idle c graphs =
    idle-unless c.args.way (stacks_view c.args.stacks.now) (sentence_view c.args.sentence.now) c.args.classes.now c.in_ok-can.can
    (sym c.is_about.ensures ∙ c.if-not-is_about.false) (c.in_ok-can.ensures.can graphs)
