use Rattle.std.proofs.Common.{◌∙◌, ap, refl}
use Rattle.pam_facts.specs.Answers.{or_failures, refused_answers}
use Rattle.pam_facts.proofs.AnswerSteps.{some_left}
use Rattle.pam_facts.proofs.answers.refused_answers.Goals as goal

pub returns : goal.returns
unfolding refused_answers
returns c =
    some_left _ _ c.is_empty.ensures.1 c.if-is_empty.false
    ∙ ap or_failures (rw (c.without-codes.ensures, c.codes_in.ensures.value, c.successes_and_ignore.ensures) refl)
