use Rattle.std.proofs.Common.{◌≡◌, ◌∙◌, ap, arith, sym}
use Rattle.pam_policy.specs.search.inner.Monitor.{all_missing, first_state}
use Rattle.pam_policy.proofs.SearchProofs.Digits.{missing-most}
use Rattle.pam_policy.proofs.search.query.Query.after.Goals as goal

pub returns-else-have-clause-few : goal.returns-else-have-clause-few
returns-else-have-clause-few c =
    let most = missing-most c.as_slice.result.now c.args.number c.args.code c.args.state in
    let whole : all_missing c.as_slice.result.now ≡ first_state c.args.self.now =
    ap all_missing c.as_slice.ensures.value ∙ sym (ap first_state c.in-Together.is) in
    omega (arith, most, whole, c.missing_after.ensures)
