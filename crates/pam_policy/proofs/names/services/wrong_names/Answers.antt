use Rattle.std.proofs.Common.{◌∙◌, ap, map}
use Rattle.std.specs.Prelude.{filter}
use Rattle.pam_policy.specs.names.Host.{host_view}
use Rattle.pam_policy.specs.names.Misnamed.{is_no_service, no_service}
use Rattle.pam_policy.proofs.NamesProofs.Saying.{each_said}
use Rattle.pam_policy.proofs.names.services.wrong_names.Goals as goal

pub returns : goal.returns
returns c =
    let host = host_view c.args.host.now in
    let wrong = filter (is_no_service host) (map (λ name. name.now) c.args.names.now) in
    c.in_ok-said.ensures
    ∙ ap (map (no_service host)) (c.names.ensures ∙ c.in_ok-missing.ensures)
    ∙ each_said host wrong
