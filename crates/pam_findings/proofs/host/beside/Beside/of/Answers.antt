use Rattle.std.proofs.Common.{◌≡◌}
use Rattle.pam_findings.specs.host.Beside.{beside}
use Rattle.pam_findings.specs.declared.host.beside.Beside.{Beside}
use Rattle.pam_findings.specs.host.inner.Besides.{beside_text}
use Rattle.pam_findings.proofs.HostProofs.ReadBeside.{by-kind}
use Rattle.pam_findings.proofs.host.beside.Beside.of.Goals as goal

pub returns : goal.returns
returns c =
    let all : Beside = record {
      auth = c.in_ok-auth.auth;
      account = c.in_ok-account.account;
      password = c.in_ok-password.password;
      session = c.in_ok-session.session;
    } in
    by-kind (λ kind. beside_text all kind ≡ beside c.args.rules.now c.args.services.now kind) c.in_ok-auth.ensures c.in_ok-account.ensures
    c.in_ok-password.ensures c.in_ok-session.ensures
