use Rattle.std.proofs.Common.{◌∙◌, List, ap, length, sym}
use Rattle.std.specs.Prelude.{slice_get}
use Rattle.pam_compare.specs.declared.held.HeldAnswer.{HeldAnswer}
use Rattle.pam_compare.proofs.Growing.{at-end, keeps-push, keeps-same}
use Rattle.pam_compare.proofs.Holding.{holds-equal, holds-push}
use Rattle.pam_compare.proofs.held.push_if.Goals as goal

pub returns-clause-holds : goal.returns-clause-holds
returns-clause-holds c a h new = holds-equal a _ _ (sym c.in_ok-push.ensures.items) (holds-push a c.args.held.now.items c.args.answer h new)

pub returns-then-not-is_wanted-clause-keeps : goal.returns-then-not-is_wanted-clause-keeps
returns-then-not-is_wanted-clause-keeps c = keeps-same _

pub returns-clause-keeps : goal.returns-clause-keeps
returns-clause-keeps c = keeps-push c.args.held.now.items c.args.answer _ c.in_ok-push.ensures.items

pub returns-clause-pushed : goal.returns-clause-pushed
returns-clause-pushed c wanted =
    let held = c.args.held.now.items in
    (length held, ap (λ (l : List HeldAnswer). slice_get l (length held)) c.in_ok-push.ensures.items ∙ at-end held c.args.answer)
