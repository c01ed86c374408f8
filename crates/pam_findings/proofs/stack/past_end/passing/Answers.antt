use Rattle.std.proofs.Common.{◌∙◌, ◌++◌, List, ℕ, ap}
use Rattle.pam_conf.specs.ItemsOf.{items_of}
use Rattle.pam_conf.specs.Stack.{Items}
use Rattle.pam_paths.specs.Known.{may_answer}
use Rattle.pam_findings.specs.stack.inner.PastEnd.{numbers_where, passes}
use Rattle.pam_findings.proofs.StackProofs.Passing.{exactly-jumping}
use Rattle.pam_findings.proofs.stack.past_end.passing.Goals as goal

pub returns : goal.returns
returns c =
    let allows = may_answer c.args.known.now in
    let test = passes allows c.args.asked.now in
    exactly-jumping allows c.args.stack.now c.args.asked.now c.requires c.items.ensures.numbered c.push_passing.new.numbers.items
    (c.in_ok-push_passing.ensures
    ∙ ap (λ (x : List ℕ). x ++ numbers_where test (items_of c.items.result.now)) c.new-numbers.ensures.items
    ∙ ap (λ (x : Items). numbers_where test x) c.items.ensures.items)
