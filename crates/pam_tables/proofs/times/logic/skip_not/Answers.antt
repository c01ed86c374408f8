use Rattle.std.proofs.Common.{◌∙◌, ◌∷◌, List, ap, sym}
use Rattle.std.proofs.lemmas.Bool.{eqb-false}
use Rattle.pam_tables.specs.times.Logic.{SignText, Not}
use Rattle.pam_tables.proofs.TimesProofs.LogicSteps.{not_first}
use Rattle.pam_tables.proofs.TimesProofs.OnePassSteps.{not_before}
use Rattle.pam_tables.proofs.times.logic.skip_not.Goals as goal

pub returns-then-rest-eq33-clause-signs : goal.returns-then-rest-eq33-clause-signs
returns-then-rest-eq33-clause-signs c =
    c.skip_blanks-rest.ensures.signs
    ∙ rw (← c.skip_blanks.ensures.signs) (not_first c.skip_blanks-rest.result.now _ (eqb-false _ _ (sym c.is_empty.ensures ∙ c.if-not-is_empty.true))
    c.if-rest-eq33.true c.split_at.ensures.back)

pub returns-then-rest-eq33-clause-before : goal.returns-then-rest-eq33-clause-before
returns-then-rest-eq33-clause-before c =
    let p = not_before c.skip_blanks-rest.result.now _ (eqb-false _ _ (sym c.is_empty.ensures ∙ c.if-not-is_empty.true)) c.if-rest-eq33.true
    c.split_at.ensures.back in (
      c.skip_blanks-rest.ensures.before ∙ p.0 ∙ ap (λ (signs : List SignText). Not ∷ signs) c.skip_blanks.ensures.before,
      c.skip_blanks-rest.ensures.onward ∙ p.1 ∙ c.skip_blanks.ensures.onward,
    )
