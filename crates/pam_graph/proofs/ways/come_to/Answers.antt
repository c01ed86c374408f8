use Rattle.std.proofs.Common.{◌≡◌, ◌*◌, ◌+◌, ◌∙◌, Option, ℕ, ap, arith, length, subst, sym}
use Rattle.std.proofs.Math.ListN.{set}
use Rattle.pam_graph.specs.declared.node.Target.{Target}
use Rattle.pam_graph.specs.declared.node.Target.TheVariants.{End}
use Rattle.pam_graph.specs.inner.Accounts.{Accounts, deciders}
use Rattle.pam_graph.specs.inner.Tallies.{plus}
use Rattle.pam_graph.specs.Walks.{walks_to}
use Rattle.pam_graph.specs.inner.Within.{IsWithin}
use Rattle.pam_graph.proofs.Accounting.{come-at, come-end}
use Rattle.pam_graph.proofs.ways.come_to.Goals as goal

pub returns-in-At-clause-accounts : goal.returns-in-At-clause-accounts
returns-in-At-clause-accounts c all known n left is a =
    let ends = c.args.ends.now.items in
    let ways = c.args.ways.now.items in
    let i = c.in-At.index in
    subst (λ (x : Option ℕ). Accounts all known ends (set ways i x) left)
    (sym (c.plus-sum.ensures ∙ ap (λ (x : Option ℕ). plus x c.args.number) c.index.ensures))
    (come-at all known ends ways c.args.number c.index.result.now n left is i (subst (IsWithin (length ways)) c.in-At.is c.requires.within)
    (subst (λ (t : Target). Accounts all known ends ways (λ test. n * deciders test (walks_to known t) + left test)) c.in-At.is a))

pub returns-in-End-clause-accounts : goal.returns-in-End-clause-accounts
returns-in-End-clause-accounts c all known n left is a =
    let ends = c.args.ends.now.items in
    let ways = c.args.ways.now.items in
    let i = c.from-index.result in
    let same : i ≡ c.in-End.decision = c.from-index.ensures ∙ c.number.ensures.value in
    subst (λ (x : Option ℕ). Accounts all known (set ends i x) ways left)
    (sym (c.plus-sum-in-End.ensures ∙ ap (λ (x : Option ℕ). plus x c.args.number) c.index-in-End.ensures))
    (come-end all known ends ways c.args.number c.index-in-End.result.now n left is i
    (omega (arith, c.number.ensures.range, c.from-index.ensures)) c.requires.few
    (subst (λ (t : Target). Accounts all known ends ways (λ test. n * deciders test (walks_to known t) + left test)) (c.in-End.is ∙ ap End (sym same)) a))
