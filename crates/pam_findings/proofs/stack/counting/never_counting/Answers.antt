use Rattle.std.proofs.Common.{◌∙◌, ap, filter, ℕ}
use Rattle.std.proofs.lemmas.Result.{IfOk-weaker}
use Rattle.std.specs.List.{range_with_len}
use Rattle.pam_paths.specs.Known.{may_answer}
use Rattle.pam_findings.specs.stack.inner.Counting.{never_counts}
use Rattle.pam_findings.proofs.StackProofs.NeverCounting.{exactly-never-counting}
use Rattle.pam_findings.proofs.stack.counting.never_counting.Goals as goal

pub returns : goal.returns
returns c =
    let allows = may_answer c.args.known.now in
    let asked = c.args.asked.now in
    let counting = c.args.counting.now in
    IfOk-weaker c.numbers_never_counting.result _ _
    (λ numbers is. exactly-never-counting allows c.args.stack.now asked counting c.requires.asked c.requires.counting c.items-items.ensures.numbered
    numbers.items (is ∙ ap (λ (n : ℕ). filter (never_counts allows asked counting) (range_with_len 1 n)) c.modules.ensures.count))
    c.numbers_never_counting.ensures
