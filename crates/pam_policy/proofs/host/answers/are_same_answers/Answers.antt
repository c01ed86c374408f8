use Rattle.std.proofs.Common.{◌∙◌, sym}
use Rattle.pam_paths.specs.Known.{may_answer}
use Rattle.pam_policy.proofs.HostProofs.Answered.{agree-more, agree-none}
use Rattle.pam_policy.proofs.host.answers.are_same_answers.Goals as goal

pub loop-index-init : goal.loop-index-init
loop-index-init c = agree-none (may_answer c.args.one.now) (may_answer c.args.other.now)

pub loop-index-preserved : goal.loop-index-preserved
loop-index-preserved c =
    agree-more c.loop-index.index (may_answer c.args.one.now) (may_answer c.args.other.now) c.loop-index.invariant
    (sym c.allowed.ensures ∙ c.are_same_codes.ensures c.if-not-are_same_codes.false ∙ c.allowed-in-loop-index.ensures)
