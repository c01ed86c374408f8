use Rattle.std.proofs.Common.{◌∙◌, ◌++◌, Bool, List, ap, cond, ℕ}
use Rattle.pam_page.specs.Page.{code_name}
use Rattle.pam_page.proofs.copied.append_decision.Goals as goal

pub returns-then-push-clause-ok : goal.returns-then-push-clause-ok
returns-then-push-clause-ok c ok =
    let blank = c.push.new.self in
    let name = code_name c.args.decision in
    c.append_name.ensures ∙ ap (λ (fits : Bool). cond fits (blank ++ name) blank) ok ∙ ap (λ (l : List ℕ). l ++ name) c.if-push.ensures
