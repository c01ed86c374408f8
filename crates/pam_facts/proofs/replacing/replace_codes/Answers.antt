use Rattle.std.proofs.Common.{[], ◌≢◌, subst}
use Rattle.std.specs.Prelude.{◌==◌, IfSome}
use Rattle.pam_codes.specs.Set.{is_in}
use Rattle.pam_paths.specs.Known.{may_answer, set_for}
use Rattle.pam_facts.proofs.Replaced.{none-replaced, one-replaced}
use Rattle.pam_facts.proofs.replacing.replace_codes.Goals as goal

pub returns-in-Some : goal.returns-in-Some
returns-in-Some c n code low high small =
    let some = subst (λ o. IfSome o (λ codes. codes ≢ [])) c.in-Some.is c.requires.some in
    one-replaced (set_for c.args.known.now) (set_for c.set.new.self) c.args.codes c.in-Some.codes c.args.number n code c.in-Some.is
    (record { order = c.len-count.ensures.order; some = some }) small (c.set.ensures n low high)

pub returns-in_default : goal.returns-in_default
returns-in_default c n code low high small =
    none-replaced (n == c.args.number) (may_answer c.args.known.now n code) (is_in code) c.args.codes c.in_default.is
