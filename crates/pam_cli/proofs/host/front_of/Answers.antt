use Rattle.pam_cli.proofs.Fronts.{front_read}
use Rattle.pam_cli.proofs.host.front_of.Goals as goal

pub returns : goal.returns
returns g c =
    front_read g.F.Read.remaining c.args.file c.take.result.inner c.take.result.limit _ _ c.take.ensures.inner c.take.ensures.limit
    c.in_ok-bytes.ensures.items c.in_ok-read_to_end.ensures.bytes
