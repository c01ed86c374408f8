use Rattle.std.proofs.Common.{◌∙◌, ap, is_some}
use Rattle.pam_cli.specs.System.{place_view, with_path}
use Rattle.pam_cli.proofs.Added.{is_given_found}
use Rattle.pam_cli.proofs.DeadLinks.{given, looked}
use Rattle.pam_cli.proofs.reading.dead_links.is_dead.Goals as goal

pub returns-then-is_some : goal.returns-then-is_some
returns-then-is_some g c =
    let files = c.args.files.now.entries in
    given (g.S.System.told c.args.system.now) (place_view c.args.folder) files c.args.name.now c.as_bytes.result.now c.is_some.result
    (c.is_some.ensures ∙ ap is_some c.find.ensures ∙ is_given_found c.as_bytes.result.now files) c.as_bytes.ensures.value c.if-is_some.true

pub returns : goal.returns
returns g c =
    let files = c.args.files.now.entries in
    let folder = place_view c.args.folder in
    looked (g.S.System.told c.args.system.now) folder files c.args.name.now c.as_bytes.result.now c.is_some.result _ c.in_ok-look.field-0 _
    (c.is_some.ensures ∙ ap is_some c.find.ensures ∙ is_given_found c.as_bytes.result.now files) c.as_bytes.ensures.value c.if-is_some.false
    (c.with_path.ensures ∙ ap (with_path folder) (c.as_str.ensures ∙ c.in_ok-path.ensures)) c.in_ok-look.ensures c.is_nothing.ensures
