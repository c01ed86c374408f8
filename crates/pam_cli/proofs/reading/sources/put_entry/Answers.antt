use Rattle.std.proofs.Common.{◌∙◌, ap, false, sym}
use Rattle.pam_cli.proofs.Added.{as_found}
use Rattle.pam_cli.proofs.reading.sources.put_entry.Goals as goal

pub put-requires : goal.put-requires
put-requires g c =
    let spelled = sym (ap (λ v. v.items) c.into_bytes.ensures.value) in
    as_found c.into_bytes.result.items _ c.args.found.now.files.entries c.has.result false c.has.ensures
    (c.as_bytes.ensures.value ∙ spelled) c.if-has.false
