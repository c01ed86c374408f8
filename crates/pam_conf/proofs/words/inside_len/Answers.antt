use Rattle.std.proofs.Common.{sym}
use Rattle.pam_conf.proofs.WordSteps.{bracket_closed, bracket_lost}
use Rattle.pam_conf.proofs.words.inside_len.Goals as goal

pub returns-in_err-closing_bracket-clause-value : goal.returns-in_err-closing_bracket-clause-value
returns-in_err-closing_bracket-clause-value c =
    rw c.from_residual.ensures (bracket_lost c.args.inside.now (sym c.in_err-closing_bracket.ensures.found))

pub returns-clause-value : goal.returns-clause-value
returns-clause-value c = bracket_closed c.args.inside.now _ (sym c.in_ok-closing_bracket.ensures.found)
