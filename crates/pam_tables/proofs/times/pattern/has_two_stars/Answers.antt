use Rattle.pam_tables.proofs.TimesProofs.PatternSteps.{no_star, two_stars}
use Rattle.pam_tables.proofs.times.pattern.has_two_stars.Goals as goal

pub returns-in-None : goal.returns-in-None
returns-in-None c = no_star c.args.pattern.now c.in-None.ensures.value

pub returns-in-Some : goal.returns-in-Some
returns-in-Some c =
    two_stars c.args.pattern.now _ _ _ _ _ c.in-Some.ensures.value c.split_at.ensures.back c.split_at-in-Some.ensures.back
    c.star_at-in-Some.ensures.value c.is_some.ensures
