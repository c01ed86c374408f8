use Rattle.std.proofs.Common.{◌∙◌, ap, sym}
use Rattle.pam_policy.specs.search.inner.Monitor.{first_state}
use Rattle.pam_policy.proofs.SearchProofs.Digits.{states-few, states-value}
use Rattle.pam_policy.proofs.search.query.Query.first_state.Goals as goal

pub returns-in-Together-clause-value : goal.returns-in-Together-clause-value
returns-in-Together-clause-value c =
    states-value c.in-Together.wanted.items c.len.result c.len.ensures.value c.len.ensures.fits ∙ sym (ap first_state c.in-Together.is)

pub returns-in-Together-clause-few : goal.returns-in-Together-clause-few
returns-in-Together-clause-few c = states-few c.len.result c.len.ensures.fits
