use Rattle.std.proofs.Common.{◌∙◌, ap, arith}
use Rattle.pam_codes.specs.Set.{is_in}
use Rattle.pam_codes.specs.inner.SetBits.{is_in-codes_where}
use Rattle.pam_dispatch.specs.State.{success}
use Rattle.pam_paths.specs.Known.{may_answer}
use Rattle.pam_findings.proofs.stack.counting.may_succeed.Goals as goal

pub returns : goal.returns
returns c =
    c.contains.ensures ∙ ap (is_in success) c.allowed.ensures
    ∙ is_in-codes_where (may_answer c.args.known.now c.args.number) success (omega arith)
