use Rattle.std.proofs.Common.{◌∙◌, ◌++◌, ◌∷◌, [], List, ap}
use Rattle.pam_conf.specs.Files.{Named}
use Rattle.pam_cli.proofs.Added.{put_new}
use Rattle.pam_cli.proofs.reading.sources.SourceFiles.put.Goals as goal

pub returns-clause-ok : goal.returns-clause-ok
returns-clause-ok c =
    let old = c.args.self.now in
    record {
      files = c.in_ok-put.ensures.ok
          ∙ ap (λ (es : List Named). record old.files { entries = es }) (put_new c.args.name.items c.args.bytes.items old.files.entries c.requires);
      paths = c.in_ok-push.ensures ∙ ap (λ text. old.paths ++ text ∷ []) c.as_bytes.ensures.value;
    }
