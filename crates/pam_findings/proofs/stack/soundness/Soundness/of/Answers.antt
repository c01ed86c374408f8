use Rattle.std.proofs.Common.{◌∙◌, ap, filter, not, ℕ}
use Rattle.std.specs.List.{range_with_len}
use Rattle.pam_paths.specs.Known.{may_answer}
use Rattle.pam_paths.specs.inner.Known.{some_code}
use Rattle.pam_findings.specs.stack.inner.Marks.{mark_of}
use Rattle.pam_findings.proofs.StackProofs.Passing.{exactly-never}
use Rattle.pam_findings.proofs.stack.soundness.Soundness.of.Goals as goal

pub returns-clause-never_asked : goal.returns-clause-never_asked
returns-clause-never_asked c =
    let marks = c.in_ok-searched.searched.reached.asked in
    exactly-never (may_answer c.args.free.now) c.args.stack.now marks c.in_ok-searched.ensures.asked (λ m first last. some_code c.args.free.now m)
    c.in_ok-never_asked.never_asked.items
    (c.in_ok-never_asked.ensures
    ∙ ap (λ (n : ℕ). filter (λ number. not (mark_of marks number)) (range_with_len 1 n)) c.modules.ensures.count)
