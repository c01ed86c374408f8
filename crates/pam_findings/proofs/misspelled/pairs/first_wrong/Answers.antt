use Rattle.std.proofs.Common.{◌≡◌, ◌∙◌, arith, sym}
use Rattle.pam_codes.specs.Tokens.{tokens_of}
use Rattle.pam_findings.proofs.MisspelledProofs.Thirds.{none_left, one_passed, right_here, wrong_here}
use Rattle.pam_findings.proofs.misspelled.pairs.first_wrong.Goals as goal

pub returns-then-not-is_right : goal.returns-then-not-is_right
returns-then-not-is_right c =
    let none : c.loop-token.passed ≡ 0 = omega (arith, c.if-passed-gt0.false) in
    wrong_here c.args.error (tokens_of c.loop-token.rest.now) c.in-Some.token.now (tokens_of c.in-Some.others.now) c.in-Some.ensures
    c.loop-token.passed none (sym c.is_right.ensures ∙ c.if-not-is_right.true)
    ∙ c.loop-token.invariant

pub loop-token-preserved-then-passed-gt0 : goal.loop-token-preserved-then-passed-gt0
loop-token-preserved-then-passed-gt0 c =
    one_passed c.args.error (tokens_of c.loop-token.rest.now) c.in-Some.token.now (tokens_of c.in-Some.others.now) c.in-Some.ensures
    c.loop-token.passed c.if-passed-gt0.true
    ∙ c.loop-token.invariant

pub loop-token-preserved : goal.loop-token-preserved
loop-token-preserved c =
    let none : c.loop-token.passed ≡ 0 = omega (arith, c.if-passed-gt0.false) in
    right_here c.args.error (tokens_of c.loop-token.rest.now) c.in-Some.token.now (tokens_of c.in-Some.others.now) c.in-Some.ensures
    c.loop-token.passed none (sym c.is_right.ensures ∙ c.if-not-is_right.false)
    ∙ c.loop-token.invariant

pub returns : goal.returns
returns c = none_left c.args.error c.loop-token.passed (tokens_of c.loop-token.rest.now) c.in_default.ensures ∙ c.loop-token.invariant
