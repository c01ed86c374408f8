use Rattle.std.proofs.Common.{◌∙◌, ap, is_some}
use Rattle.pam_cli.proofs.Added.{is_given_found}
use Rattle.pam_cli.proofs.reading.sources.SourceFiles.has.Goals as goal

pub returns : goal.returns
returns c = c.is_some.ensures ∙ ap is_some c.find.ensures ∙ is_given_found c.args.name.now c.args.self.now.files.entries
