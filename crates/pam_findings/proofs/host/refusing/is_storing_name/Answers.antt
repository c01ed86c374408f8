use Rattle.std.proofs.Common.{◌∙◌, ap}
use Rattle.std.specs.List.{list_any}
use Rattle.std.specs.Str.{bytes_eq}
use Rattle.pam_findings.proofs.HostProofs.Listed.{any-now}
use Rattle.pam_findings.proofs.host.refusing.is_storing_name.Goals as goal

pub returns : goal.returns
returns c =
    c.is_among.ensures ∙ any-now c.args.name.now c.storers.result.now ∙ ap (list_any (bytes_eq c.args.name.now)) c.storers.ensures
