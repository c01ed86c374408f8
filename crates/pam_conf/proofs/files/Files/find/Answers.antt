use Rattle.std.proofs.Common.{◌∙◌, ap}
use Rattle.pam_conf.specs.Files.{position_of}
use Rattle.pam_conf.proofs.FileLemmas.{position_named}
use Rattle.pam_conf.proofs.files.Files.find.Goals as goal

pub returns : goal.returns
returns c =
    c.get_index_of.ensures.index ∙ position_named c.args.name.now c.self.inside.entries.entries ∙ ap (λ f. position_of c.args.name.now f.entries) c.self.view_is
