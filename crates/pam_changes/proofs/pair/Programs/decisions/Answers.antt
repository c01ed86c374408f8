use Rattle.std.proofs.Common.{subst}
use Rattle.pam_compare.specs.Comparison.{IsComparison}
use Rattle.pam_changes.proofs.pair.Programs.decisions.Goals as goal

pub returns-in_ok-shown-in-Known : goal.returns-in_ok-shown-in-Known
returns-in_ok-shown-in-Known c old_allows new_allows is =
    let self = c.args.self.now in
    c.in_ok-shown-in-Known.ensures old_allows new_allows
    (subst (IsComparison old_allows new_allows self.old.now self.new.now self.matching.now) c.in-Known.is is)
